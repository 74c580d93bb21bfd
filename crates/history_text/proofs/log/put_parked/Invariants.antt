use Rattle.std.proofs.Common.{◌≡◌, ◌++◌, reverse}
use Rattle.acpi_regs.specs.Core.{events_below}
use Rattle.machine_history.specs.Events.{parked}
use Rattle.history_text.specs.Text.{stuck_lines}
use Rattle.history_text.specs.Written.{Leaves}
use Rattle.history_text.proofs.log.put_parked.Given as goal

-- The lines of the first events are on their way.
abbrev pub invariant-loop-place : goal.invariant-loop-place
invariant-loop-place g l = record {
  put : Leaves (g.K.Sink.held l.initial.sink) (g.K.Sink.held l.sink) (l.initial.pieces ++ stuck_lines (events_below (parked l.board.machine (reverse l.board.entries)) l.place)) l.pieces;
  kept : g.K.Sink.faults l.sink ≡ g.K.Sink.faults l.initial.sink;
}
