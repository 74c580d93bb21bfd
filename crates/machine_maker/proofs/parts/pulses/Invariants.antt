use Rattle.std.proofs.Common.{◌≡◌, ◌+◌, ◌*◌}
use Rattle.machine_maker.specs.Maker.{each_of, pulse_at}
use Rattle.machine_maker.proofs.parts.pulses.Given as goal

abbrev pub invariant-loop-j : goal.invariant-loop-j
invariant-loop-j l = l.pulses.items ≡ each_of l.j (λ j. pulse_at (4 * l.size * l.k + j))
