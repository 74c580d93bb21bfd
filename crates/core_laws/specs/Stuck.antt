-- Cores in which no actor of the machine has a step.
use Rattle.std.specs.Prelude.{◌≡◌, true, None}
use Rattle.acpi_regs.specs.declared.actor.Actor.{Actor}
use Rattle.acpi_regs.specs.Core.{Core}
use Rattle.machine_desc.specs.Kept.{counts_in}
use Rattle.machine_desc.specs.Machine.{MachineData}
use Rattle.machine_desc.specs.Rules.{has_actor}
use Rattle.machine_history.specs.Steps.{gives}
use Rattle.core_laws.specs.Gives.{NobodyHolds}

-- nobody is in the midst of a collect, and each actor's step does nothing
pub record IsStuck (m : MachineData) (c : Core) : Type 0 where
  pub nobody : NobodyHolds c
  pub none_steps : (a : Actor) → has_actor (counts_in m) a ≡ true → gives m c a ≡ None
