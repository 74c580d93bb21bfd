use Rattle.acpi_regs.proofs.LockTurns.{kinds_step, lock_step}
use Rattle.acpi_regs.proofs.PinSteps.{pins_step}
use Rattle.acpi_regs.proofs.laws.soundness.law_parts_kept.Goals as goal

pub returns-clause-kinds : goal.returns-clause-kinds
returns-clause-kinds c = kinds_step

pub returns-clause-lock : goal.returns-clause-lock
returns-clause-lock c = lock_step

pub returns-clause-pins : goal.returns-clause-pins
returns-clause-pins c = pins_step
