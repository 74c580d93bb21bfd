use Rattle.std.proofs.Common.{length}
use Rattle.history_text.specs.Reading.{StuckRead}
use Rattle.history_text.proofs.log_read.read_stuck_lines.Given as goal

-- The events so far are those of the stuck lines with which the bytes begin.
abbrev pub invariant-loop-event : goal.invariant-loop-event
invariant-loop-event l = StuckRead l.bytes l.events.items l.left

abbrev pub decreases-loop-event : goal.decreases-loop-event
decreases-loop-event l = length l.left
