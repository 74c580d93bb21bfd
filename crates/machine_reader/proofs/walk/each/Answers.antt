use Rattle.std.proofs.lemmas.List.Elements.{All-push}
use Rattle.machine_reader.proofs.Elements.{each-more, each-stops}
use Rattle.machine_reader.proofs.walk.each.Goals as goal

pub returns-in-Err-clause-reads : goal.returns-in-Err-clause-reads
returns-in-Err-clause-reads g c =
    each-stops g.T.Shaped.shape c.args.items.now c.loop-number.number _ _ c.in-Err.fault _ c.loop-number-test.true c.index-items-number.is c.loop-number.invariant.read c.in-Err.ensures.reads c.at_number.ensures

pub loop-number-preserved : goal.loop-number-preserved
loop-number-preserved g c = record {
  read = rw c.in_ok-push-in-Ok.ensures.items (each-more g.T.Shaped.shape c.args.items.now c.loop-number.number _ _ _ c.loop-number-test.true c.index-items-number.is c.loop-number.invariant.read c.in-Ok.ensures.reads);
  given = rw c.in_ok-push-in-Ok.ensures.items (All-push g.T.Shaped.Given _ _ c.loop-number.invariant.given c.in-Ok.ensures.given);
}
