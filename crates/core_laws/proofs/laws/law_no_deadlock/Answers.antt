use Rattle.core_laws.proofs.Resting.{complete}
use Rattle.core_laws.proofs.Settling.{played_complete, settled_complete}
use Rattle.core_laws.proofs.laws.law_no_deadlock.Goals as goal

pub returns-clause-stuck : goal.returns-clause-stuck
returns-clause-stuck c = λ m core ok h stuck. complete m ok core h stuck

pub returns-clause-settled : goal.returns-clause-settled
returns-clause-settled c = settled_complete

pub returns-clause-played : goal.returns-clause-played
returns-clause-played c = played_complete
