use Rattle.acpi_regs.proofs.Exact.{deeds, entries}
use Rattle.acpi_regs.proofs.laws.law_equality.Goals as goal

pub returns-clause-deed : goal.returns-clause-deed
returns-clause-deed c = deeds

pub returns-clause-entry : goal.returns-clause-entry
returns-clause-entry c = entries
