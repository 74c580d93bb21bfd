use Rattle.acpi_regs.proofs.Latching.{latches_within}
use Rattle.acpi_regs.proofs.laws.soundness.law_latches.Goals as goal

pub returns : goal.returns
returns c = latches_within
