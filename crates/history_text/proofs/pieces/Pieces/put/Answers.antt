use Rattle.std.proofs.Common.{◌∙◌}
use Rattle.std.proofs.lemmas.Result.{err_from_is_err_and}
use Rattle.history_text.proofs.Writing.{part_put, part_failed}
use Rattle.history_text.proofs.pieces.Pieces.put.Goals as goal

pub returns-in_err-gather-clause-goes_on : goal.returns-in_err-gather-clause-goes_on
returns-in_err-gather-clause-goes_on g c =
    let before = c.loop-rest.invariant.put in
    let p = err_from_is_err_and c.from_residual.result c.from_residual.ensures.1 in
    rw p.1 (part_failed _ _ _ c.args.self.now c.args.text.now before.0 c.loop-rest.rest.now _ _ _ c.split_at.ensures.front before.1 before.2 c.in_err-gather.ensures.goes_on)

pub loop-rest-preserved : goal.loop-rest-preserved
loop-rest-preserved g c =
    let before = c.loop-rest.invariant.put in
    record {
      put = part_put _ _ _ c.args.self.now c.args.text.now before.0 c.loop-rest.rest.now _ _ _ _ _ c.split_at.ensures.front c.split_at.ensures.back before.1 before.2 c.in_ok-gather.ensures.goes_on;
      kept = c.in_ok-gather.ensures.told ∙ c.loop-rest.invariant.kept;
    }
