use Rattle.core_laws.proofs.Lessening.{lessens, round_lessens, settles_some}
use Rattle.core_laws.proofs.Settling.{settles_once}
use Rattle.core_laws.proofs.laws.law_rounds.Goals as goal

pub returns-clause-step : goal.returns-clause-step
returns-clause-step c = lessens

pub returns-clause-round : goal.returns-clause-round
returns-clause-round c = round_lessens

pub returns-clause-settles : goal.returns-clause-settles
returns-clause-settles c = settles_some

pub returns-clause-once : goal.returns-clause-once
returns-clause-once c = settles_once
