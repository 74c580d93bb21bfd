use Rattle.std.proofs.Common.{List, ℕ, ◌++◌, length, ap, ◌∙◌, subst}
use Rattle.std.proofs.lemmas.Result.{err_from_is_err_and}
use Rattle.acpi_io.specs.Sink.{AddsFront, WritesAll}
use Rattle.history_text.specs.Text.{entry_lines, last_lines, log_text, machine_line, rest_line, stuck, stuck_lines}
use Rattle.history_text.proofs.Writing.{Leaves-WritesAll, fails_before, then_Leaves, then_fails}
use Rattle.history_text.proofs.log.write_log.Goals as goal

pub returns-in_err-put_machine-clause-ends : goal.returns-in_err-put_machine-clause-ends
returns-in_err-put_machine-clause-ends g c =
    let p = err_from_is_err_and c.from_residual.result c.from_residual.ensures.1 in
    let b = c.args.board.now in
    let text = log_text b.machine c.args.machine_text.now b.entries in
    rw p.1 (subst (λ (first : List ℕ). AddsFront (g.K.Sink.held c.args.sink.now) (g.K.Sink.held c.put_machine.new.sink) (first ++ text)) c.new-pieces.ensures (fails_before _ _ c.new-pieces.result (machine_line c.args.machine_text.now) (entry_lines b.entries ++ last_lines b.machine b.entries) c.in_err-put_machine.ensures.goes_on))

pub returns-in_err-put_entries-clause-ends : goal.returns-in_err-put_entries-clause-ends
returns-in_err-put_entries-clause-ends g c =
    let p = err_from_is_err_and c.from_residual-in_err-put_entries.result c.from_residual-in_err-put_entries.ensures.1 in
    let b = c.args.board.now in
    let text = log_text b.machine c.args.machine_text.now b.entries in
    rw p.1 (subst (λ (first : List ℕ). AddsFront (g.K.Sink.held c.args.sink.now) (g.K.Sink.held c.put_entries.new.sink) (first ++ text)) c.new-pieces.ensures (then_fails _ _ _ c.new-pieces.result (machine_line c.args.machine_text.now) (entry_lines b.entries ++ last_lines b.machine b.entries) _ c.in_ok-put_machine.ensures.goes_on (fails_before _ _ _ (entry_lines b.entries) (last_lines b.machine b.entries) c.in_err-put_entries.ensures.goes_on)))

pub returns-in_err-put_parked-clause-ends : goal.returns-in_err-put_parked-clause-ends
returns-in_err-put_parked-clause-ends g c =
    let p = err_from_is_err_and c.from_residual-in_err-put_parked.result c.from_residual-in_err-put_parked.ensures.1 in
    let b = c.args.board.now in
    let text = log_text b.machine c.args.machine_text.now b.entries in
    let parked = stuck_lines (stuck b.machine b.entries) in
    let last = rest_line (length b.entries) in
    rw p.1 (subst (λ (first : List ℕ). AddsFront (g.K.Sink.held c.args.sink.now) (g.K.Sink.held c.put_parked.new.sink) (first ++ text)) c.new-pieces.ensures (then_fails _ _ _ c.new-pieces.result (machine_line c.args.machine_text.now) (entry_lines b.entries ++ (parked ++ last)) _ c.in_ok-put_machine.ensures.goes_on (then_fails _ _ _ _ (entry_lines b.entries) (parked ++ last) _ c.in_ok-put_entries.ensures.goes_on (fails_before _ _ _ parked last c.in_err-put_parked.ensures.goes_on))))

pub returns-in_err-put-clause-ends : goal.returns-in_err-put-clause-ends
returns-in_err-put-clause-ends g c =
    let p = err_from_is_err_and c.from_residual-in_err-put.result c.from_residual-in_err-put.ensures.1 in
    let b = c.args.board.now in
    let machine = machine_line c.args.machine_text.now in
    let parked = stuck_lines (stuck b.machine b.entries) in
    let Fails : List ℕ → List ℕ → Type 0 = λ first last. AddsFront (g.K.Sink.held c.args.sink.now) (g.K.Sink.held c.put.new.sink) (first ++ (machine ++ (entry_lines b.entries ++ (parked ++ last)))) in
    let last = c.as_slice.ensures ∙ (c.line_of_rest.ensures ∙ ap rest_line c.len.ensures) in
    let text = c.as_slice.result.now in
    let failed : Fails c.new-pieces.result text = then_fails _ _ _ c.new-pieces.result machine (entry_lines b.entries ++ (parked ++ text)) _ c.in_ok-put_machine.ensures.goes_on (then_fails _ _ _ _ (entry_lines b.entries) (parked ++ text) _ c.in_ok-put_entries.ensures.goes_on (then_fails _ _ _ _ parked text _ c.in_ok-put_parked.ensures.goes_on c.in_err-put.ensures.goes_on)) in
    rw p.1 (subst (λ first. Fails first (rest_line (length b.entries))) c.new-pieces.ensures (subst (Fails c.new-pieces.result) last failed))

pub returns-clause-ends : goal.returns-clause-ends
returns-clause-ends g c =
    let b = c.args.board.now in
    let machine = machine_line c.args.machine_text.now in
    let parked = stuck_lines (stuck b.machine b.entries) in
    let Writes : List ℕ → List ℕ → Type 0 = λ first last. WritesAll (g.K.Sink.held c.args.sink.now) (g.K.Sink.held c.finish.new.sink) (first ++ (machine ++ (entry_lines b.entries ++ (parked ++ last)))) c.finish.result in
    let last = c.as_slice.ensures ∙ (c.line_of_rest.ensures ∙ ap rest_line c.len.ensures) in
    let text = c.as_slice.result.now in
    let gathered = then_Leaves _ _ _ c.new-pieces.result machine (entry_lines b.entries ++ (parked ++ text)) _ _ c.in_ok-put_machine.ensures.goes_on (then_Leaves _ _ _ _ (entry_lines b.entries) (parked ++ text) _ _ c.in_ok-put_entries.ensures.goes_on (then_Leaves _ _ _ _ parked text _ _ c.in_ok-put_parked.ensures.goes_on c.in_ok-put.ensures.goes_on)) in
    let written : Writes c.new-pieces.result text = Leaves-WritesAll _ _ _ _ _ c.finish.result gathered c.finish.ensures.ends in
    subst (λ first. Writes first (rest_line (length b.entries))) c.new-pieces.ensures (subst (Writes c.new-pieces.result) last written)
