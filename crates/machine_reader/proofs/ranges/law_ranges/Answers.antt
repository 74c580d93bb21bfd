use Rattle.std.proofs.Common.{All, take_all, subst}
use Rattle.machine_reader.proofs.ReadBack.{All-more}
use Rattle.machine_reader.proofs.ranges.law_ranges.Goals as goal

pub loop-part-preserved : goal.loop-part-preserved
loop-part-preserved g c =
    All-more g.T.Ranged.InRange c.args.parts.now c.loop-part.part-index c.part-item.result c.loop-part-test.true c.part-item.is c.loop-part.invariant c.law_range.ensures

pub returns : goal.returns
returns g c = subst (All g.T.Ranged.InRange) (take_all c.loop-part.part-index c.args.parts.now c.loop-part-test.false) c.loop-part.invariant
