use Rattle.std.proofs.Common.{◌≡◌, take}
use Rattle.run_checker.proofs.replay.replay.Given as goal

-- The board has the entries so far.
abbrev pub invariant-loop-entry : goal.invariant-loop-entry
invariant-loop-entry l = record {
  machine : l.board.machine ≡ l.initial.board.machine;
  journal : l.board.entries ≡ take l.entry-index l.entries;
}
