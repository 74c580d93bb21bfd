use Rattle.history_laws.proofs.LastEntries.{value_last}
use Rattle.history_laws.proofs.laws.law_value_last.Goals as goal

pub returns : goal.returns
returns c = value_last
