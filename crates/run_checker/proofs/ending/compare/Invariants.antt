use Rattle.std.proofs.Common.{reverse}
use Rattle.machine_history.specs.Events.{parked}
use Rattle.run_checker.proofs.Told.{Agree}
use Rattle.run_checker.proofs.ending.compare.Given as goal

-- The stuck lines so far are the parked events so far.
abbrev pub invariant-loop-place : goal.invariant-loop-place
invariant-loop-place l = Agree (parked l.board.machine (reverse l.board.entries)) l.told l.count l.place
