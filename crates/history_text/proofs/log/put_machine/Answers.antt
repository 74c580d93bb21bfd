use Rattle.std.proofs.Common.{◌∷◌, [], ◌++◌, codes}
use Rattle.std.proofs.lemmas.Result.{err_from_is_err_and}
use Rattle.history_text.proofs.Writing.{then_goes_on, then_fails, fails_before}
use Rattle.history_text.proofs.log.put_machine.Goals as goal

pub returns-in_err-put-clause-goes_on : goal.returns-in_err-put-clause-goes_on
returns-in_err-put-clause-goes_on g c =
    let p = err_from_is_err_and c.from_residual.result c.from_residual.ensures.1 in
    rw p.1 (fails_before _ _ c.args.pieces.now (codes "machine ") (c.args.machine_text.now ++ 10 ∷ []) c.in_err-put.ensures.goes_on)

pub returns-in_err-put-2-clause-goes_on : goal.returns-in_err-put-2-clause-goes_on
returns-in_err-put-2-clause-goes_on g c =
    let p = err_from_is_err_and c.from_residual-in_err-put-2.result c.from_residual-in_err-put-2.ensures.1 in
    rw p.1 (then_fails _ _ _ c.args.pieces.now (codes "machine ") (c.args.machine_text.now ++ 10 ∷ []) _ c.in_ok-put.ensures.goes_on (fails_before _ _ _ c.args.machine_text.now (10 ∷ []) c.in_err-put-2.ensures.goes_on))

pub returns-clause-goes_on : goal.returns-clause-goes_on
returns-clause-goes_on g c =
    then_goes_on _ _ _ c.args.pieces.now (codes "machine ") (c.args.machine_text.now ++ 10 ∷ []) _ _ c.put-3.result c.in_ok-put.ensures.goes_on (then_goes_on _ _ _ _ c.args.machine_text.now (10 ∷ []) _ _ c.put-3.result c.in_ok-put-2.ensures.goes_on c.put-3.ensures.goes_on)
