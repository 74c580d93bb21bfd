use Rattle.std.proofs.Common.{◌≡◌, map, take}
use Rattle.machine_reader.proofs.apart.parts.Given as goal

abbrev pub invariant-loop-one : goal.invariant-loop-one
invariant-loop-one g l = l.parts.items ≡ map g.T.HasPart.part (take l.one-index l.all)
