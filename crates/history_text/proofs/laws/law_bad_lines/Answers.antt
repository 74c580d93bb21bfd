use Rattle.history_text.proofs.BadLines.{no_bad_line, one_bad_line}
use Rattle.history_text.proofs.laws.law_bad_lines.Goals as goal

pub returns : goal.returns
returns c = record {
  one = one_bad_line;
  none = no_bad_line;
}
