use Rattle.acpi_regs.proofs.Names.{spells}
use Rattle.acpi_regs.proofs.laws.law_names.Goals as goal

pub returns : goal.returns
returns c = spells
