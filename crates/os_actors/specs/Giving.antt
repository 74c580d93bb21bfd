-- What a step of int or poll is over the world of one thread.
use Rattle.std.specs.Prelude.{◌≡◌, true, false}
use Rattle.acpi_regs.specs.declared.actor.Actor.{Actor}
use Rattle.acpi_regs.specs.Phases.{Free, Phase, put}
use Rattle.machine_desc.specs.Machine.{MachineData}
use Rattle.machine_history.specs.Legal.{is_host}
use Rattle.machine_history.specs.Steps.{gives}
use Rattle.os_actors.specs.Hosts.{HostSteps}
use Rattle.world.specs.declared.outcome.StepOutcome.{StepOutcome}
use Rattle.world.specs.Serial.{Serial, SerialMakes, core_of}
use Rattle.world.specs.Stepping.{after_step, is_stepped}

-- from every core in which it is free, a step is exactly what int or poll is given
abbrev pub HostGives : Type 0
HostGives = (m : MachineData) (a : Actor) (w w' : Serial) (phases : Actor → Phase) (o : StepOutcome)
    → is_host a ≡ true → phases a ≡ Free → HostSteps SerialMakes m a w o w'
    → gives m (core_of w phases) a ≡ after_step o (core_of w' (put a Free phases))

-- where a step does nothing, all stays
abbrev pub HostStays : Type 0
HostStays = (m : MachineData) (a : Actor) (w w' : Serial) (phases : Actor → Phase) (o : StepOutcome)
    → HostSteps SerialMakes m a w o w' → is_stepped o ≡ false → core_of w' phases ≡ core_of w phases
