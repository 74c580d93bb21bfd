-- The actors of a machine in a row, and the core that they stand for beside a world of one thread.
use Rattle.std.specs.Prelude.{◌≡◌, List, [], ◌∷◌, if◌then◌else◌}
use Rattle.acpi_regs.specs.declared.actor.Actor.{Actor}
use Rattle.acpi_regs.specs.declared.actor.Actor.TheVariants as actor
use Rattle.acpi_regs.specs.declared.phase.LockPhase.{LockPhase}
use Rattle.acpi_regs.specs.declared.phase.Pulse.{Pulse}
use Rattle.acpi_regs.specs.Actor.{same_actor}
use Rattle.acpi_regs.specs.Core.{Core}
use Rattle.acpi_regs.specs.Phases.{Free, Lock, Phase, Pulsed, first_phase}
use Rattle.core_laws.specs.Gives.{NobodyHolds}
use Rattle.core_laws.specs.Sound.{Sound}
use Rattle.fw_actors.specs.Hardware.{CtlSteps, DeviceSteps}
use Rattle.machine_desc.specs.Machine.{MachineData}
use Rattle.os_actors.specs.Hosts.{HostSteps}
use Rattle.sci_threads.specs.declared.any.AnyActor.{AnyActor}
use Rattle.sci_threads.specs.declared.any.AnyActor.TheVariants as any
use Rattle.world.specs.declared.outcome.StepOutcome.{StepOutcome}
use Rattle.world.specs.Calls.{Call}
use Rattle.world.specs.Serial.{Serial, core_of}
use Rattle.world.specs.Stepping.{ScriptSteps}

-- which actor it is, and its phase
abbrev pub who : AnyActor → Actor
who (any.Int i) = actor.Int
who (any.Poll p) = actor.Poll
who (any.Worker w) = actor.Worker w.number
who (any.Ec c) = actor.Ec
who (any.Device d) = actor.Device d.number
who (any.Firmware f) = actor.Firmware f.number

abbrev pub stands : AnyActor → Phase
stands (any.Int i) = Free
stands (any.Poll p) = Free
stands (any.Worker w) = Lock w.phase
stands (any.Ec c) = Free
stands (any.Device d) = Pulsed d.pulses
stands (any.Firmware f) = Lock f.phase

-- One step of an actor as its own kind has it, over a world whose calls make this of it: one call, the outcome that
-- the call's answer gives, and the actor behind it. A device whose list is through makes none.
abbrev pub StepsAs : {W : Type 0} → (W → Actor → Call → W → Type 0) → MachineData → AnyActor → W → StepOutcome → W
    → AnyActor → Type 0
StepsAs makes m (any.Int i) before o after y = HostSteps makes m actor.Int before o after
StepsAs makes m (any.Poll p) before o after y = HostSteps makes m actor.Poll before o after
StepsAs makes m (any.Ec c) before o after y = CtlSteps makes m before o after
StepsAs makes m (any.Worker w) before o after y = (q : LockPhase) × (stands y ≡ Lock q)
    × ScriptSteps makes m (actor.Worker w.number) before w.phase o after q
StepsAs makes m (any.Firmware f) before o after y = (q : LockPhase) × (stands y ≡ Lock q)
    × ScriptSteps makes m (actor.Firmware f.number) before f.phase o after q
StepsAs makes m (any.Device d) before o after y = (ps : List Pulse) × (stands y ≡ Pulsed ps)
    × DeviceSteps makes m d.number before d.pulses o after ps

-- the phases of the actors in a row; every other actor is at its start
abbrev pub phases_of : List AnyActor → Actor → Phase
phases_of [] a = first_phase a
phases_of (x ∷ actors) a = if same_actor (who x) a then stands x else phases_of actors a

-- the core that a world and actors stand for
abbrev pub core_in : Serial → List AnyActor → Core
core_in w actors = core_of w (phases_of actors)

-- the core is sound, and nobody is in the midst of a collect
pub record IsSound (m : MachineData) (c : Core) : Type 0 where
  pub sound : Sound m c
  pub nobody : NobodyHolds c
