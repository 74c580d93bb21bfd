use Rattle.std.proofs.Common.{◌≡◌, ◌+◌}
use Rattle.machine_maker.specs.Maker.{code_handler, each_of}
use Rattle.machine_maker.proofs.parts.controller.Given as goal

abbrev pub invariant-loop-k : goal.invariant-loop-k
invariant-loop-k l = l.queries.items ≡ each_of l.k (λ k. code_handler (k + 1))
