use Rattle.history_laws.proofs.ActsOnce.{next_is_first}
use Rattle.history_laws.proofs.laws.law_next_act.Goals as goal

pub returns : goal.returns
returns c = next_is_first
