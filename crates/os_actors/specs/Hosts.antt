-- What one step of int or poll comes to.
use Rattle.std.specs.Prelude.{true, List, map, if◌then◌else◌}
use Rattle.acpi_regs.specs.declared.actor.Actor.{Actor}
use Rattle.acpi_regs.specs.declared.entry.Entry.{Entry}
use Rattle.acpi_regs.specs.declared.event.Event.{Event}
use Rattle.machine_desc.specs.Machine.{MachineData}
use Rattle.machine_history.specs.Steps.{host_entry, is_empty, latch}
use Rattle.world.specs.declared.outcome.StepOutcome.{StepOutcome}
use Rattle.world.specs.Calls.{Call}
use Rattle.world.specs.Duties.{added}
use Rattle.world.specs.Stepping.{TurnSteps}

-- a latch of each event that was collected, and where there was none, the host's next move for a worker or a claim
abbrev pub host_adds : MachineData → Actor → List Entry → List Event → List Entry
host_adds m a past events = if is_empty events then added a (host_entry m past a) else map (latch a) events

-- one step: one turn that collects the pins
abbrev pub HostSteps : {W : Type 0} → (W → Actor → Call → W → Type 0) → MachineData → Actor → W → StepOutcome → W
    → Type 0
HostSteps makes m a w o w' = TurnSteps makes true (host_adds m a) a w o w'
