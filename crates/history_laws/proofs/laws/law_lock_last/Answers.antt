use Rattle.history_laws.proofs.LastEntries.{busy_last, disowned_last, gbl_last, owned_last, owner_last, seeker_last, wake_last}
use Rattle.history_laws.proofs.laws.law_lock_last.Goals as goal

pub returns-clause-owner : goal.returns-clause-owner
returns-clause-owner c = owner_last

pub returns-clause-seeker : goal.returns-clause-seeker
returns-clause-seeker c = seeker_last

pub returns-clause-owned : goal.returns-clause-owned
returns-clause-owned c = owned_last

pub returns-clause-disowned : goal.returns-clause-disowned
returns-clause-disowned c = disowned_last

pub returns-clause-busy : goal.returns-clause-busy
returns-clause-busy c = busy_last

pub returns-clause-wake : goal.returns-clause-wake
returns-clause-wake c = wake_last

pub returns-clause-gbl : goal.returns-clause-gbl
returns-clause-gbl c = gbl_last
