-- The step of an actor of each kind is what it is given.
use Rattle.std.proofs.Common.{◌≡◌, false, refl, sym, ap, subst}
use Rattle.acpi_regs.specs.declared.actor.Actor.{Actor}
use Rattle.acpi_regs.specs.declared.actor.Actor.TheVariants as actor
use Rattle.acpi_regs.specs.Phases.{Free, Lock, Phase, Pulsed, first_phase, put}
use Rattle.fw_actors.specs.declared.controller.Controller.{Controller}
use Rattle.fw_actors.specs.Hardware.{CtlSteps, DeviceData, DeviceSteps}
use Rattle.fw_actors.proofs.Giving.{ctl-gives, ctl-stays, device-gives, device-stays}
use Rattle.machine_desc.specs.Machine.{MachineData}
use Rattle.machine_history.specs.Steps.{gives}
use Rattle.os_actors.specs.declared.interrupt.Interrupt.{Interrupt}
use Rattle.os_actors.specs.declared.poll.Poll.{Poll}
use Rattle.os_actors.specs.Hosts.{HostSteps}
use Rattle.os_actors.proofs.Giving.{host-gives, host-stays}
use Rattle.sci_threads.specs.declared.any.AnyActor.{AnyActor}
use Rattle.sci_threads.specs.declared.any.AnyActor.TheVariants as any
use Rattle.sci_threads.specs.Actors.{StepsAs, stands, who}
use Rattle.world.specs.declared.outcome.StepOutcome.{StepOutcome}
use Rattle.world.specs.Serial.{Serial, SerialMakes, core_of}
use Rattle.world.specs.Stepping.{Runner, ScriptSteps, after_step, is_stepped}
use Rattle.world.proofs.Giving.{script-gives, script-stays}

-- a step that leads to this phase is what the actor is given, and its own kind's; and where it does nothing all stays
pub record Steps (m : MachineData) (x : AnyActor) (w : Serial) (o : StepOutcome) (w' : Serial) (q : Phase) : Type 0 where
  pub given : (phases : Actor → Phase) → phases (who x) ≡ stands x → gives m (core_of w phases) (who x) ≡ after_step o (core_of w' (put (who x) q phases))
  pub still : is_stepped o ≡ false → ((phases : Actor → Phase) → core_of w' phases ≡ core_of w phases) × (q ≡ stands x)
  pub as_kind : (y : AnyActor) → stands y ≡ q → StepsAs SerialMakes m x w o w' y

same_as : (m : MachineData) (x y : AnyActor) (w : Serial) (o : StepOutcome) (w' : Serial) (q : Phase) → x ≡ y → Steps m y w o w' q → Steps m x w o w' q
same_as m x y w o w' q is steps = subst (λ z. Steps m z w o w' q) (sym is) steps

pub int-steps : (m : MachineData) (x : AnyActor) (i : Interrupt) (w : Serial) (o : StepOutcome) (w' : Serial) → x ≡ any.Int i → HostSteps SerialMakes m actor.Int w o w' → Steps m x w o w' Free
int-steps m x i w o w' is steps = same_as m x (any.Int i) w o w' Free is record {
  given = λ phases at. host-gives m actor.Int w w' phases o refl at steps;
  still = λ idle. ((λ phases. host-stays m actor.Int w w' phases o steps idle), refl);
  as_kind = λ y at. steps;
}

pub poll-steps : (m : MachineData) (x : AnyActor) (p : Poll) (w : Serial) (o : StepOutcome) (w' : Serial) → x ≡ any.Poll p → HostSteps SerialMakes m actor.Poll w o w' → Steps m x w o w' Free
poll-steps m x p w o w' is steps = same_as m x (any.Poll p) w o w' Free is record {
  given = λ phases at. host-gives m actor.Poll w w' phases o refl at steps;
  still = λ idle. ((λ phases. host-stays m actor.Poll w w' phases o steps idle), refl);
  as_kind = λ y at. steps;
}

pub ec-steps : (m : MachineData) (x : AnyActor) (e : Controller) (w : Serial) (o : StepOutcome) (w' : Serial) → x ≡ any.Ec e → CtlSteps SerialMakes m w o w' → Steps m x w o w' Free
ec-steps m x e w o w' is steps = same_as m x (any.Ec e) w o w' Free is record {
  given = λ phases at. ctl-gives m w w' phases o at steps;
  still = λ idle. ((λ phases. ctl-stays m w w' phases o steps idle), refl);
  as_kind = λ y at. steps;
}

pub worker-steps : (m : MachineData) (x : AnyActor) (r s : Runner) (w : Serial) (o : StepOutcome) (w' : Serial) → x ≡ any.Worker r → ScriptSteps SerialMakes m (actor.Worker r.number) w r.phase o w' s.phase → Steps m x w o w' (Lock s.phase)
worker-steps m x r s w o w' is steps = same_as m x (any.Worker r) w o w' (Lock s.phase) is record {
  given = λ phases at. script-gives m (actor.Worker r.number) w w' phases r.phase s.phase o at steps;
  still = λ idle. ((λ phases. (script-stays m (actor.Worker r.number) w w' phases r.phase s.phase o steps idle).0), ap Lock (script-stays m (actor.Worker r.number) w w' first_phase r.phase s.phase o steps idle).1);
  as_kind = λ y at. (s.phase, at, steps);
}

pub firmware-steps : (m : MachineData) (x : AnyActor) (r s : Runner) (w : Serial) (o : StepOutcome) (w' : Serial) → x ≡ any.Firmware r → ScriptSteps SerialMakes m (actor.Firmware r.number) w r.phase o w' s.phase → Steps m x w o w' (Lock s.phase)
firmware-steps m x r s w o w' is steps = same_as m x (any.Firmware r) w o w' (Lock s.phase) is record {
  given = λ phases at. script-gives m (actor.Firmware r.number) w w' phases r.phase s.phase o at steps;
  still = λ idle. ((λ phases. (script-stays m (actor.Firmware r.number) w w' phases r.phase s.phase o steps idle).0), ap Lock (script-stays m (actor.Firmware r.number) w w' first_phase r.phase s.phase o steps idle).1);
  as_kind = λ y at. (s.phase, at, steps);
}

pub device-steps : (m : MachineData) (x : AnyActor) (d e : DeviceData) (w : Serial) (o : StepOutcome) (w' : Serial) → x ≡ any.Device d → DeviceSteps SerialMakes m d.number w d.pulses o w' e.pulses → Steps m x w o w' (Pulsed e.pulses)
device-steps m x d e w o w' is steps = same_as m x (any.Device d) w o w' (Pulsed e.pulses) is record {
  given = λ phases at. device-gives m d.number w w' phases d.pulses e.pulses o at steps;
  still = λ idle. ((λ phases. (device-stays m d.number w w' phases d.pulses e.pulses o steps idle).0), ap Pulsed (device-stays m d.number w w' first_phase d.pulses e.pulses o steps idle).1);
  as_kind = λ y at. (e.pulses, at, steps);
}
