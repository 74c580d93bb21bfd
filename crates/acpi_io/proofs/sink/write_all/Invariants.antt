use Rattle.std.proofs.Common.{◌≡◌, ℕ, ◌+◌, ◌≤◌, [], List, ◌++◌, length}
use Rattle.std.specs.Io.KnownBytes.{Appends}
use Rattle.acpi_io.proofs.sink.write_all.Given as goal

-- The bytes before the rest were added. With no bytes, nothing was done.
abbrev pub invariant-loop-rest : goal.invariant-loop-rest
invariant-loop-rest g l = record {
  added : (front : List ℕ) × (l.bytes ≡ front ++ l.rest) × Appends (g.K.Sink.held l.initial.sink) (g.K.Sink.held l.sink) front × (g.K.Sink.writes l.sink ≤ g.K.Sink.writes l.initial.sink + length front);
  kept : g.K.Sink.faults l.sink ≡ g.K.Sink.faults l.initial.sink;
  untouched : l.bytes ≡ [] → l.sink ≡ l.initial.sink;
}

abbrev pub decreases-loop-rest : goal.decreases-loop-rest
decreases-loop-rest g l = length l.rest
