use Rattle.std.proofs.Common.{◌≡◌}
use Rattle.machine_maker.specs.Maker.{each_of, pulses_of}
use Rattle.machine_maker.proofs.parts.devices.Given as goal

abbrev pub invariant-loop-k : goal.invariant-loop-k
invariant-loop-k l = l.devices.items ≡ each_of l.k (pulses_of l.size)
