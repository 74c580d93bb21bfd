use Rattle.std.proofs.Common.{◌≡◌, ℕ, ◌++◌, List, length}
use Rattle.history_text.specs.Written.{Leaves}
use Rattle.history_text.proofs.pieces.Pieces.put.Given as goal

-- The text before the rest is on its way.
abbrev pub invariant-loop-rest : goal.invariant-loop-rest
invariant-loop-rest g l = record {
  put : (done : List ℕ) × (l.text ≡ done ++ l.rest) × Leaves (g.K.Sink.held l.initial.sink) (g.K.Sink.held l.sink) (l.initial.self ++ done) l.self;
  kept : g.K.Sink.faults l.sink ≡ g.K.Sink.faults l.initial.sink;
}

abbrev pub decreases-loop-rest : goal.decreases-loop-rest
decreases-loop-rest g l = length l.rest
