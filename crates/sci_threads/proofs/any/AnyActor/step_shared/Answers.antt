use Rattle.std.proofs.Common.{refl, sym, ap, subst, ℕ, true, false}
use Rattle.acpi_regs.specs.declared.actor.Actor.TheVariants as actor
use Rattle.acpi_regs.specs.Phases.{Free, Lock}
use Rattle.fw_actors.specs.Hardware.{ctl_adds, next_pulse}
use Rattle.machine_desc.specs.Machine.{MachineData}
use Rattle.os_actors.specs.Hosts.{host_adds}
use Rattle.world.specs.Shared.{SeatMakes}
use Rattle.sci_threads.specs.Actors.{stands, who}
use Rattle.sci_threads.specs.declared.any.AnyActor.TheVariants as any
use Rattle.sci_threads.specs.Shared.{IsReady, SeatSteps}
use Rattle.sci_threads.proofs.SeatSteps.{free_stepped, pulses_seen, ready_again, script_stepped}
use Rattle.sci_threads.proofs.any.AnyActor.step_shared.Goals as goal

pub returns-in-Int-clause-ready : goal.returns-in-Int-clause-ready
returns-in-Int-clause-ready c =
    let s = c.step.ensures.steps in
    let r = subst (λ x. IsReady c.args.world.now.table.now.table.shared.table_id (who x) (stands x) c.args.world.now.seat.now) c.in-Int.is c.requires.ready in
    let made = subst (λ (m : MachineData). SeatMakes m c.args.world.now.seat.now.view s.0 c.step.new.world.seat.now.view) c.requires.machine s.1.3 in
    ready_again c.args.machine.now _ c.step.result actor.Int Free Free _ _ r s.1.2 (free_stepped c.args.machine.now actor.Int c.args.world.now.seat.now.view c.step.new.world.seat.now.view c.step.result true (host_adds c.args.machine.now actor.Int) s.0 refl r.away r.part made s.2)

pub returns-in-Poll-clause-ready : goal.returns-in-Poll-clause-ready
returns-in-Poll-clause-ready c =
    let s = c.step-in-Poll.ensures.steps in
    let r = subst (λ x. IsReady c.args.world.now.table.now.table.shared.table_id (who x) (stands x) c.args.world.now.seat.now) c.in-Poll.is c.requires.ready in
    let made = subst (λ (m : MachineData). SeatMakes m c.args.world.now.seat.now.view s.0 c.step-in-Poll.new.world.seat.now.view) c.requires.machine s.1.3 in
    ready_again c.args.machine.now _ c.step-in-Poll.result actor.Poll Free Free _ _ r s.1.2 (free_stepped c.args.machine.now actor.Poll c.args.world.now.seat.now.view c.step-in-Poll.new.world.seat.now.view c.step-in-Poll.result true (host_adds c.args.machine.now actor.Poll) s.0 refl r.away r.part made s.2)

pub returns-in-Ec-clause-ready : goal.returns-in-Ec-clause-ready
returns-in-Ec-clause-ready c =
    let s = c.step-in-Ec.ensures.steps in
    let r = subst (λ x. IsReady c.args.world.now.table.now.table.shared.table_id (who x) (stands x) c.args.world.now.seat.now) c.in-Ec.is c.requires.ready in
    let made = subst (λ (m : MachineData). SeatMakes m c.args.world.now.seat.now.view s.0 c.step-in-Ec.new.world.seat.now.view) c.requires.machine s.1.3 in
    ready_again c.args.machine.now _ c.step-in-Ec.result actor.Ec Free Free _ _ r s.1.2 (free_stepped c.args.machine.now actor.Ec c.args.world.now.seat.now.view c.step-in-Ec.new.world.seat.now.view c.step-in-Ec.result false (ctl_adds c.args.machine.now) s.0 refl r.away r.part made s.2)

pub returns-in-Ec-clause-rises : goal.returns-in-Ec-clause-rises
returns-in-Ec-clause-rises c =
    let s = c.step-in-Ec.ensures.steps in
    let r = subst (λ x. IsReady c.args.world.now.table.now.table.shared.table_id (who x) (stands x) c.args.world.now.seat.now) c.in-Ec.is c.requires.ready in
    let made = subst (λ (m : MachineData). SeatMakes m c.args.world.now.seat.now.view s.0 c.step-in-Ec.new.world.seat.now.view) c.requires.machine s.1.3 in
    let stepped = free_stepped c.args.machine.now actor.Ec c.args.world.now.seat.now.view c.step-in-Ec.new.world.seat.now.view c.step-in-Ec.result false (ctl_adds c.args.machine.now) s.0 refl r.away r.part made s.2 in
    stepped.rises

pub returns-in-Worker-clause-ready : goal.returns-in-Worker-clause-ready
returns-in-Worker-clause-ready c =
    let s = c.step-in-Worker.ensures.steps in
    let r = subst (λ x. IsReady c.args.world.now.table.now.table.shared.table_id (who x) (stands x) c.args.world.now.seat.now) c.in-Worker.is c.requires.ready in
    let made = subst (λ (m : MachineData). SeatMakes m c.args.world.now.seat.now.view s.0 c.step-in-Worker.new.world.seat.now.view) c.requires.machine s.1.3 in
    subst (λ (n : ℕ). IsReady c.args.world.now.table.now.table.shared.table_id (actor.Worker n) (Lock c.step-in-Worker.new.self.phase) c.step-in-Worker.new.world.seat.now) (sym c.step-in-Worker.ensures.number)
    (ready_again c.args.machine.now _ c.step-in-Worker.result (actor.Worker c.in-Worker.worker.number) (Lock c.in-Worker.worker.phase) (Lock c.step-in-Worker.new.self.phase) _ _ r s.1.2 (script_stepped c.args.machine.now (actor.Worker c.in-Worker.worker.number) c.in-Worker.worker.phase c.args.world.now.seat.now.view c.step-in-Worker.new.world.seat.now.view c.step-in-Worker.result c.step-in-Worker.new.self.phase s.0 refl r.away r.part made s.2))

pub returns-in-Firmware-clause-ready : goal.returns-in-Firmware-clause-ready
returns-in-Firmware-clause-ready c =
    let s = c.step-in-Firmware.ensures.steps in
    let r = subst (λ x. IsReady c.args.world.now.table.now.table.shared.table_id (who x) (stands x) c.args.world.now.seat.now) c.in-Firmware.is c.requires.ready in
    let made = subst (λ (m : MachineData). SeatMakes m c.args.world.now.seat.now.view s.0 c.step-in-Firmware.new.world.seat.now.view) c.requires.machine s.1.3 in
    subst (λ (n : ℕ). IsReady c.args.world.now.table.now.table.shared.table_id (actor.Firmware n) (Lock c.step-in-Firmware.new.self.phase) c.step-in-Firmware.new.world.seat.now) (sym c.step-in-Firmware.ensures.number)
    (ready_again c.args.machine.now _ c.step-in-Firmware.result (actor.Firmware c.in-Firmware.firmware.number) (Lock c.in-Firmware.firmware.phase) (Lock c.step-in-Firmware.new.self.phase) _ _ r s.1.2 (script_stepped c.args.machine.now (actor.Firmware c.in-Firmware.firmware.number) c.in-Firmware.firmware.phase c.args.world.now.seat.now.view c.step-in-Firmware.new.world.seat.now.view c.step-in-Firmware.result c.step-in-Firmware.new.self.phase s.0 refl r.away r.part made s.2))

pub returns-in-Firmware-clause-rises : goal.returns-in-Firmware-clause-rises
returns-in-Firmware-clause-rises c =
    let s = c.step-in-Firmware.ensures.steps in
    let r = subst (λ x. IsReady c.args.world.now.table.now.table.shared.table_id (who x) (stands x) c.args.world.now.seat.now) c.in-Firmware.is c.requires.ready in
    let made = subst (λ (m : MachineData). SeatMakes m c.args.world.now.seat.now.view s.0 c.step-in-Firmware.new.world.seat.now.view) c.requires.machine s.1.3 in
    let stepped = script_stepped c.args.machine.now (actor.Firmware c.in-Firmware.firmware.number) c.in-Firmware.firmware.phase c.args.world.now.seat.now.view c.step-in-Firmware.new.world.seat.now.view c.step-in-Firmware.result c.step-in-Firmware.new.self.phase s.0 refl r.away r.part made s.2 in
    stepped.rises

pub returns-in-Int-clause-answers : goal.returns-in-Int-clause-answers
returns-in-Int-clause-answers c =
    let s = c.step.ensures.steps in
    let m = c.args.machine.now in
    let v = c.args.world.now.seat.now.view in
    let w = c.step.new.world.seat.now.view in
    let made = subst (λ (m : MachineData). SeatMakes m v s.0 w) c.requires.machine s.1.3 in
    subst (λ x. SeatSteps m x v c.step.result w (any.Int c.step.new.self)) (sym c.in-Int.is) (s.0, made, s.2)

pub returns-in-Poll-clause-answers : goal.returns-in-Poll-clause-answers
returns-in-Poll-clause-answers c =
    let s = c.step-in-Poll.ensures.steps in
    let m = c.args.machine.now in
    let v = c.args.world.now.seat.now.view in
    let w = c.step-in-Poll.new.world.seat.now.view in
    let made = subst (λ (m : MachineData). SeatMakes m v s.0 w) c.requires.machine s.1.3 in
    subst (λ x. SeatSteps m x v c.step-in-Poll.result w (any.Poll c.step-in-Poll.new.self)) (sym c.in-Poll.is) (s.0, made, s.2)

pub returns-in-Ec-clause-answers : goal.returns-in-Ec-clause-answers
returns-in-Ec-clause-answers c =
    let s = c.step-in-Ec.ensures.steps in
    let m = c.args.machine.now in
    let v = c.args.world.now.seat.now.view in
    let w = c.step-in-Ec.new.world.seat.now.view in
    let made = subst (λ (m : MachineData). SeatMakes m v s.0 w) c.requires.machine s.1.3 in
    subst (λ x. SeatSteps m x v c.step-in-Ec.result w (any.Ec c.step-in-Ec.new.self)) (sym c.in-Ec.is) (s.0, made, s.2)

pub returns-in-Worker-clause-answers : goal.returns-in-Worker-clause-answers
returns-in-Worker-clause-answers c =
    let s = c.step-in-Worker.ensures.steps in
    let m = c.args.machine.now in
    let v = c.args.world.now.seat.now.view in
    let w = c.step-in-Worker.new.world.seat.now.view in
    let made = subst (λ (m : MachineData). SeatMakes m v s.0 w) c.requires.machine s.1.3 in
    subst (λ x. SeatSteps m x v c.step-in-Worker.result w (any.Worker c.step-in-Worker.new.self)) (sym c.in-Worker.is) (c.step-in-Worker.new.self.phase, refl, (s.0, made, s.2))

pub returns-in-Firmware-clause-answers : goal.returns-in-Firmware-clause-answers
returns-in-Firmware-clause-answers c =
    let s = c.step-in-Firmware.ensures.steps in
    let m = c.args.machine.now in
    let v = c.args.world.now.seat.now.view in
    let w = c.step-in-Firmware.new.world.seat.now.view in
    let made = subst (λ (m : MachineData). SeatMakes m v s.0 w) c.requires.machine s.1.3 in
    subst (λ x. SeatSteps m x v c.step-in-Firmware.result w (any.Firmware c.step-in-Firmware.new.self)) (sym c.in-Firmware.is) (c.step-in-Firmware.new.self.phase, refl, (s.0, made, s.2))

pub returns-in-Device-clause-answers : goal.returns-in-Device-clause-answers
returns-in-Device-clause-answers c =
    let m = c.args.machine.now in
    let d = c.in-Device.device in
    let e = c.step-in-Device.new.self in
    let o = c.step-in-Device.result in
    let v = c.args.world.now.seat.now.view in
    let w = c.step-in-Device.new.world.seat.now.view in
    let seen = pulses_seen m (actor.Device d.number) c.args.world.now c.step-in-Device.new.world (next_pulse m d.number d.pulses) d.pulses e.pulses o c.step-in-Device.ensures.steps in
    subst (λ x. SeatSteps m x v o w (any.Device e)) (sym c.in-Device.is) (e.pulses, refl, seen)
