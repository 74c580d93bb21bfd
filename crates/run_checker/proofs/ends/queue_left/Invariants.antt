use Rattle.std.proofs.Common.{◌≡◌, ◌≤◌, reverse, take}
use Rattle.run_checker.specs.Ends.{queue_of}
use Rattle.run_checker.proofs.ends.queue_left.Given as goal

-- The queue is that after the entries so far.
abbrev pub invariant-loop-entry : goal.invariant-loop-entry
invariant-loop-entry l = record {
  value : l.queue ≡ queue_of (reverse (take l.entry-index l.entries));
  bound : l.queue.waiting ≤ l.entry-index;
}
