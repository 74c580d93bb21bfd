use Rattle.history_text.proofs.BadLines.{one_log}
use Rattle.history_text.proofs.laws.law_one_log.Goals as goal

pub returns : goal.returns
returns c = one_log
