use Rattle.std.proofs.Common.{◌∷◌, []}
use Rattle.std.proofs.lemmas.Result.{err_from_is_err_and}
use Rattle.history_text.proofs.Writing.{fails_before, then_goes_on}
use Rattle.acpi_commands.proofs.ending.put_path.Goals as goal

pub returns-in_err-put-clause-goes_on : goal.returns-in_err-put-clause-goes_on
returns-in_err-put-clause-goes_on g c =
    let p = err_from_is_err_and c.from_residual.result c.from_residual.ensures.1 in
    rw p.1 (fails_before _ _ c.args.pieces.now (32 ∷ []) c.args.path.now c.in_err-put.ensures.goes_on)

pub returns-clause-goes_on : goal.returns-clause-goes_on
returns-clause-goes_on g c =
    then_goes_on _ _ _ c.args.pieces.now (32 ∷ []) c.args.path.now _ _ c.put-2.result c.in_ok-put.ensures.goes_on (rw (← c.as_bytes.ensures) c.put-2.ensures.goes_on)
