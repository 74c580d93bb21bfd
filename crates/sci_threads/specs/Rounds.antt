-- What steps in a row lead to. Each lessens what is to come.
use Rattle.std.specs.Prelude.{◌≡◌, ◌<◌, Bool, true, false, List, ◌++◌, None}
use Rattle.acpi_regs.specs.declared.actor.Actor.{Actor}
use Rattle.acpi_regs.specs.declared.entry.Entry.{Entry}
use Rattle.acpi_regs.specs.Core.{Core}
use Rattle.core_laws.specs.Rounds.{to_come}
use Rattle.machine_desc.specs.Machine.{MachineData}
use Rattle.machine_history.specs.Played.{IsQuiet, stepped, steps}
use Rattle.machine_history.specs.Steps.{gives}
use Rattle.world.specs.declared.outcome.StepOutcome.{StepOutcome}
use Rattle.world.specs.Stepping.{is_stepped}

-- one step of an actor: the core is what it is given, or else it has no step; and less is left where it did something
pub record StepDone (m : MachineData) (a : Actor) (c : Core) (o : StepOutcome) (d : Core) : Type 0 where
  pub leads : d ≡ stepped m c a
  pub quiet : is_stepped o ≡ false → gives m c a ≡ None
  pub less : is_stepped o ≡ true → to_come m d < to_come m c

-- one step of each of these
pub record RowDone (m : MachineData) (names : List Actor) (c : Core) (moved : Bool) (d : Core) : Type 0 where
  pub leads : d ≡ steps m names c
  pub quiet : moved ≡ false → IsQuiet m names c × (d ≡ c)
  pub less : moved ≡ true → to_come m d < to_come m c

-- the history begins with this one
abbrev pub Begins : List Entry → List Entry → Type 0
Begins first history = (more : List Entry) × (history ≡ first ++ more)
