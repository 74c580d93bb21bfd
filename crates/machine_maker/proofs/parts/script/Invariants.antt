use Rattle.std.proofs.Common.{◌≡◌, ◌+◌, ◌*◌}
use Rattle.machine_maker.specs.Maker.{each_of, op_at}
use Rattle.machine_maker.proofs.parts.script.Given as goal

abbrev pub invariant-loop-j : goal.invariant-loop-j
invariant-loop-j l = l.ops.items ≡ each_of l.j (λ j. op_at l.number (16 * l.size * l.k + j))
