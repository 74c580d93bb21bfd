use Rattle.std.proofs.Common.{All, take}
use Rattle.machine_reader.proofs.ranges.law_ranges.Given as goal

abbrev pub invariant-loop-part : goal.invariant-loop-part
invariant-loop-part g l = All g.T.Ranged.InRange (take l.part-index l.parts)
