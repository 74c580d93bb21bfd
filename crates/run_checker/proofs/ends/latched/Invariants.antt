use Rattle.std.proofs.Common.{reverse, take}
use Rattle.run_checker.specs.Ends.{AreLatched}
use Rattle.run_checker.proofs.ends.latched.Given as goal

-- The events are those with a latch among the entries so far.
abbrev pub invariant-loop-entry : goal.invariant-loop-entry
invariant-loop-entry l = AreLatched (reverse (take l.entry-index l.entries)) l.latched
