use Rattle.history_laws.proofs.LastEntries.{running_last}
use Rattle.history_laws.proofs.laws.law_running_last.Goals as goal

pub returns : goal.returns
returns c = running_last
