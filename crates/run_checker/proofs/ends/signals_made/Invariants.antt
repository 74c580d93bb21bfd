use Rattle.std.proofs.Common.{◌≡◌, ◌≤◌, reverse, take}
use Rattle.run_checker.specs.Ends.{signals_of}
use Rattle.run_checker.proofs.ends.signals_made.Given as goal

-- The signals are those of the entries so far.
abbrev pub invariant-loop-entry : goal.invariant-loop-entry
invariant-loop-entry l = record {
  value : l.signals ≡ signals_of l.side (reverse (take l.entry-index l.entries));
  few_leaves : l.signals.leaves ≤ l.entry-index;
  few_busies : l.signals.busies ≤ l.entry-index;
}
