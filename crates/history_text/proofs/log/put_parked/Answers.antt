use Rattle.std.proofs.Common.{rules, ◌∙◌, refl, reverse}
use Rattle.std.proofs.lemmas.Result.{err_from_is_err_and}
use Rattle.machine_history.specs.Events.{parked}
use Rattle.history_text.proofs.Parked.{parked_failed, parked_none, parked_put}
use Rattle.history_text.proofs.log.put_parked.Goals as goal

pub returns-in_err-put_if_parked-clause-goes_on : goal.returns-in_err-put_if_parked-clause-goes_on
returns-in_err-put_if_parked-clause-goes_on g c =
    let p = err_from_is_err_and c.from_residual.result c.from_residual.ensures.1 in
    rw p.1 (parked_failed _ _ _ c.args.pieces.now _ (parked c.args.board.now.machine (reverse c.args.board.now.entries)) c.loop-place.place _ c.event_at.ensures (search rules) c.loop-place.invariant.put c.in_err-put_if_parked.ensures.goes_on)

pub loop-place-preserved : goal.loop-place-preserved
loop-place-preserved g c = record {
  put = parked_put _ _ _ c.args.pieces.now _ _ (parked c.args.board.now.machine (reverse c.args.board.now.entries)) c.loop-place.place _ c.event_at.ensures c.loop-place.invariant.put c.in_ok-put_if_parked.ensures.goes_on;
  kept = c.in_ok-put_if_parked.ensures.told ∙ c.loop-place.invariant.kept;
}

pub loop-place-init : goal.loop-place-init
loop-place-init g c = record {
  put = parked_none _ c.args.pieces.now (parked c.args.board.now.machine (reverse c.args.board.now.entries));
  kept = refl;
}
