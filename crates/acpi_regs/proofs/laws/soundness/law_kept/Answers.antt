use Rattle.acpi_regs.proofs.PinSteps.{core_first, core_known_step, core_step, core_turn}
use Rattle.acpi_regs.proofs.laws.soundness.law_kept.Goals as goal

pub returns-clause-first : goal.returns-clause-first
returns-clause-first c = core_first

pub returns-clause-step : goal.returns-clause-step
returns-clause-step c = core_step

pub returns-clause-known : goal.returns-clause-known
returns-clause-known c = core_known_step

pub returns-clause-turn : goal.returns-clause-turn
returns-clause-turn c = core_turn
