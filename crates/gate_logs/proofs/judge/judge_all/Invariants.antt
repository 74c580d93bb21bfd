use Rattle.std.proofs.Common.{length}
use Rattle.gate_logs.proofs.judge.judge_all.Given as goal

abbrev pub decreases-loop-case : goal.decreases-loop-case
decreases-loop-case g l = length l.left
