use Rattle.machine_reader.proofs.Zeros.{without_zeros-front, without_zeros-whole}
use Rattle.machine_reader.proofs.members.without_zeros.Goals as goal

pub loop-last-preserved : goal.loop-last-preserved
loop-last-preserved c = without_zeros-front c.args.cells.now c.loop-last.bytes.now c.in-Some.front.now c.in-Some.last.now c.in-Some.ensures.cases.0 c.if-last-ne0.false c.loop-last.invariant

pub returns-then-last-ne0 : goal.returns-then-last-ne0
returns-then-last-ne0 c = without_zeros-whole c.args.cells.now c.loop-last.bytes.now c.in-Some.front.now c.in-Some.last.now c.in-Some.ensures.cases.0 c.if-last-ne0.true c.loop-last.invariant
