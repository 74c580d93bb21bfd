use Rattle.machine_reader.proofs.Lists.{rest_step, rest_end}
use Rattle.machine_reader.proofs.list.put_rest.Goals as goal

pub loop-part-preserved : goal.loop-part-preserved
loop-part-preserved g c =
    rest_step g.T.Written.json c.args.parts.now c.loop-part.part-index c.part-item.result c.args.out.now.items _ _ _ c.loop-part-test.true c.part-item.is c.loop-part.invariant c.in_ok-put_byte.ensures c.in_ok-put.ensures

pub returns : goal.returns
returns g c =
    rest_end g.T.Written.json c.args.parts.now c.loop-part.part-index c.args.out.now.items _ _ c.put_byte-2.result c.loop-part-test.false c.loop-part.invariant c.put_byte-2.ensures
