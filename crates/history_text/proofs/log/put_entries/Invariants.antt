use Rattle.std.proofs.Common.{◌≡◌, ◌++◌, take}
use Rattle.history_text.specs.Text.{entry_lines}
use Rattle.history_text.specs.Written.{Leaves}
use Rattle.history_text.proofs.log.put_entries.Given as goal

-- The lines of the first entries are on their way.
abbrev pub invariant-loop-i : goal.invariant-loop-i
invariant-loop-i g l = record {
  put : Leaves (g.K.Sink.held l.initial.sink) (g.K.Sink.held l.sink) (l.initial.pieces ++ entry_lines (take l.i l.board.entries)) l.pieces;
  kept : g.K.Sink.faults l.sink ≡ g.K.Sink.faults l.initial.sink;
}
