use Rattle.std.proofs.Common.{◌≡◌}
use Rattle.machine_maker.specs.Maker.{each_of, script_of}
use Rattle.machine_maker.proofs.parts.firmware.Given as goal

abbrev pub invariant-loop-k : goal.invariant-loop-k
invariant-loop-k l = l.scripts.items ≡ each_of l.k (script_of l.number l.size)
