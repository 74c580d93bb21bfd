use Rattle.acpi_regs.proofs.Codes.{apart, round_entry}
use Rattle.acpi_regs.proofs.laws.packing.law_packing.Goals as goal

pub returns-clause-apart : goal.returns-clause-apart
returns-clause-apart c = apart

pub returns-clause-reads_back : goal.returns-clause-reads_back
returns-clause-reads_back c = round_entry
