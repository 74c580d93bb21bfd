use Rattle.acpi_regs.specs.CoreEvents.{past_in}
use Rattle.acpi_regs.specs.CoreSound.{lock_phases}
use Rattle.acpi_regs.proofs.Latching.{one_holds}
use Rattle.machine_history.proofs.Owning.{accesses_by_owner, disowns_between}
use Rattle.core_laws.proofs.laws.law_exclusion.Goals as goal

pub returns-clause-one : goal.returns-clause-one
returns-clause-one c = λ m core a b h mine its. one_holds core.word (past_in core) (lock_phases core.phases) a b h.core.lock mine its

pub returns-clause-owner : goal.returns-clause-owner
returns-clause-owner c = accesses_by_owner

pub returns-clause-between : goal.returns-clause-between
returns-clause-between c = disowns_between
