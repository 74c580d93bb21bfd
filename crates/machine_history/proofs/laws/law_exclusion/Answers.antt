use Rattle.machine_history.proofs.Owning.{accesses_by_owner, disowns_between, leaves_next}
use Rattle.machine_history.proofs.laws.law_exclusion.Goals as goal

pub returns-clause-owner : goal.returns-clause-owner
returns-clause-owner c = accesses_by_owner

pub returns-clause-between : goal.returns-clause-between
returns-clause-between c = disowns_between

pub returns-clause-leaves : goal.returns-clause-leaves
returns-clause-leaves c = leaves_next
