use Rattle.std.proofs.Common.{length}
use Rattle.gate_logs.proofs.judge.count.Given as goal

abbrev pub decreases-loop-left : goal.decreases-loop-left
decreases-loop-left l = length l.left
