use Rattle.std.proofs.Common.{◌∙◌}
use Rattle.std.proofs.lemmas.Result.{err_from_is_err_and}
use Rattle.history_text.proofs.Writing.{entry_put, entry_failed}
use Rattle.history_text.proofs.log.put_entries.Goals as goal

pub returns-in_err-put-clause-goes_on : goal.returns-in_err-put-clause-goes_on
returns-in_err-put-clause-goes_on g c =
    let p = err_from_is_err_and c.from_residual.result c.from_residual.ensures.1 in
    rw p.1 (entry_failed _ _ _ c.args.pieces.now _ _ c.args.board.now.entries c.loop-i.i _ c.entry.ensures (c.as_slice.ensures ∙ c.line_of_entry.ensures) c.loop-i.invariant.put c.in_err-put.ensures.goes_on)

pub loop-i-preserved : goal.loop-i-preserved
loop-i-preserved g c = record {
  put = entry_put _ _ _ c.args.pieces.now _ _ _ c.args.board.now.entries c.loop-i.i _ c.entry.ensures (c.as_slice.ensures ∙ c.line_of_entry.ensures) c.loop-i.invariant.put c.in_ok-put.ensures.goes_on;
  kept = c.in_ok-put.ensures.told ∙ c.loop-i.invariant.kept;
}
