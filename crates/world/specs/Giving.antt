-- What the steps of workers and firmware are over the world of one thread.
use Rattle.std.specs.Prelude.{◌≡◌, false}
use Rattle.acpi_regs.specs.declared.actor.Actor.{Actor}
use Rattle.acpi_regs.specs.declared.phase.LockPhase.{LockPhase}
use Rattle.acpi_regs.specs.Phases.{Lock, Phase, put}
use Rattle.machine_desc.specs.Machine.{MachineData}
use Rattle.machine_history.specs.Steps.{gives}
use Rattle.world.specs.declared.outcome.StepOutcome.{StepOutcome}
use Rattle.world.specs.Serial.{Serial, SerialMakes, core_of}
use Rattle.world.specs.Stepping.{ScriptSteps, after_step, is_stepped}

-- from every core that world and phase stand for, a step is exactly what the actor is given
abbrev pub ScriptGives : Type 0
ScriptGives = (m : MachineData) (a : Actor) (w w' : Serial) (phases : Actor → Phase) (p q : LockPhase)
    (o : StepOutcome) → phases a ≡ Lock p → ScriptSteps SerialMakes m a w p o w' q
    → gives m (core_of w phases) a ≡ after_step o (core_of w' (put a (Lock q) phases))

-- where a step does nothing, all stays
abbrev pub ScriptStays : Type 0
ScriptStays = (m : MachineData) (a : Actor) (w w' : Serial) (phases : Actor → Phase) (p q : LockPhase)
    (o : StepOutcome) → ScriptSteps SerialMakes m a w p o w' q → is_stepped o ≡ false
    → (core_of w' phases ≡ core_of w phases) × (q ≡ p)
