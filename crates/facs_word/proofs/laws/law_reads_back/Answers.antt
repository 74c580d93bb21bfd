use Rattle.facs_word.proofs.Tables.{reads_back}
use Rattle.facs_word.proofs.laws.law_reads_back.Goals as goal

pub returns : goal.returns
returns c = reads_back
