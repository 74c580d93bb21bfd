use Rattle.machine_history.proofs.Owning.{reads_last}
use Rattle.machine_history.proofs.laws.law_reads_last.Goals as goal

pub returns : goal.returns
returns c = reads_last
