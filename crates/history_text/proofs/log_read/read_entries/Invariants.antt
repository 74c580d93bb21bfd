use Rattle.std.proofs.Common.{length}
use Rattle.history_text.specs.Reading.{EntriesRead}
use Rattle.history_text.proofs.log_read.read_entries.Given as goal

-- The entries so far are those with which the bytes begin.
abbrev pub invariant-loop-entry : goal.invariant-loop-entry
invariant-loop-entry l = EntriesRead l.bytes l.entries.items l.left

abbrev pub decreases-loop-entry : goal.decreases-loop-entry
decreases-loop-entry l = length l.left
