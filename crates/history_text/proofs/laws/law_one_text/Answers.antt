use Rattle.history_text.proofs.BadLines.{one_machine, one_text}
use Rattle.history_text.proofs.laws.law_one_text.Goals as goal

pub returns : goal.returns
returns c = record {
  machine = one_machine;
  pair = one_text;
}
