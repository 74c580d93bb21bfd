use Rattle.history_text.proofs.FirstLine.{no_line}
use Rattle.history_text.proofs.read.next_line.Goals as goal

pub returns-in-None-clause-cases : goal.returns-in-None-clause-cases
returns-in-None-clause-cases c = no_line c.args.bytes.now c.in-None.ensures
