use Rattle.history_text.proofs.Guesses.{one_entry}
use Rattle.history_text.proofs.laws.law_one_entry.Goals as goal

pub returns : goal.returns
returns c = one_entry
