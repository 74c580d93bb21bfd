use Rattle.acpi_regs.proofs.Latching.{none_holds, one_holds, someone_holds}
use Rattle.acpi_regs.proofs.laws.soundness.law_one_holds.Goals as goal

pub returns-clause-one : goal.returns-clause-one
returns-clause-one c = one_holds

pub returns-clause-none : goal.returns-clause-none
returns-clause-none c = none_holds

pub returns-clause-some : goal.returns-clause-some
returns-clause-some c = someone_holds
