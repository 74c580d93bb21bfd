use Rattle.std.proofs.Common.{List, ℕ, ◌∷◌, [], ◌++◌, codes, ◌∙◌, subst}
use Rattle.std.proofs.lemmas.Result.{err_from_is_err_and}
use Rattle.acpi_io.specs.Sink.{AddsFront, WritesAll}
use Rattle.acpi_commands.specs.Ending.{carried, name_of, status_line}
use Rattle.history_text.proofs.Writing.{Leaves-WritesAll, fails_before, then_Leaves, then_fails}
use Rattle.acpi_commands.proofs.ending.tell_refusal.Goals as goal

abbrev head : List ℕ
head = codes "acpi_events: "

abbrev last : List ℕ
last = 10 ∷ []

pub returns-in_err-put-clause-ends : goal.returns-in_err-put-clause-ends
returns-in_err-put-clause-ends g c =
    let p = err_from_is_err_and c.from_residual.result c.from_residual.ensures.1 in
    let s = c.args.status.now in
    let Fails : List ℕ → Type 0 = λ first. AddsFront (g.K.Sink.held c.args.errors.now) (g.K.Sink.held c.put.new.sink) (first ++ status_line s) in
    rw p.1 (subst Fails c.new-pieces.ensures (fails_before _ _ c.new-pieces.result head (name_of s ++ (carried s ++ last)) c.in_err-put.ensures.goes_on))

pub returns-in_err-put-2-clause-ends : goal.returns-in_err-put-2-clause-ends
returns-in_err-put-2-clause-ends g c =
    let p = err_from_is_err_and c.from_residual-in_err-put-2.result c.from_residual-in_err-put-2.ensures.1 in
    let s = c.args.status.now in
    let name = c.as_bytes.ensures.value ∙ c.name_of.ensures in
    let Fails : List ℕ → List ℕ → Type 0 = λ first name. AddsFront (g.K.Sink.held c.args.errors.now) (g.K.Sink.held c.put-2.new.sink) (first ++ (head ++ (name ++ (carried s ++ last)))) in
    let failed : Fails c.new-pieces.result c.as_bytes.result.now = then_fails _ _ _ c.new-pieces.result head (c.as_bytes.result.now ++ (carried s ++ last)) _ c.in_ok-put.ensures.goes_on (fails_before _ _ _ c.as_bytes.result.now (carried s ++ last) c.in_err-put-2.ensures.goes_on) in
    rw p.1 (subst (λ first. Fails first (name_of s)) c.new-pieces.ensures (subst (Fails c.new-pieces.result) name failed))

pub returns-in_err-put_carried-clause-ends : goal.returns-in_err-put_carried-clause-ends
returns-in_err-put_carried-clause-ends g c =
    let p = err_from_is_err_and c.from_residual-in_err-put_carried.result c.from_residual-in_err-put_carried.ensures.1 in
    let s = c.args.status.now in
    let name = c.as_bytes.ensures.value ∙ c.name_of.ensures in
    let Fails : List ℕ → List ℕ → Type 0 = λ first name. AddsFront (g.K.Sink.held c.args.errors.now) (g.K.Sink.held c.put_carried.new.errors) (first ++ (head ++ (name ++ (carried s ++ last)))) in
    let failed : Fails c.new-pieces.result c.as_bytes.result.now = then_fails _ _ _ c.new-pieces.result head (c.as_bytes.result.now ++ (carried s ++ last)) _ c.in_ok-put.ensures.goes_on (then_fails _ _ _ _ c.as_bytes.result.now (carried s ++ last) _ c.in_ok-put-2.ensures.goes_on (fails_before _ _ _ (carried s) last c.in_err-put_carried.ensures.goes_on)) in
    rw p.1 (subst (λ first. Fails first (name_of s)) c.new-pieces.ensures (subst (Fails c.new-pieces.result) name failed))

pub returns-in_err-put-3-clause-ends : goal.returns-in_err-put-3-clause-ends
returns-in_err-put-3-clause-ends g c =
    let p = err_from_is_err_and c.from_residual-in_err-put-3.result c.from_residual-in_err-put-3.ensures.1 in
    let s = c.args.status.now in
    let name = c.as_bytes.ensures.value ∙ c.name_of.ensures in
    let Fails : List ℕ → List ℕ → Type 0 = λ first name. AddsFront (g.K.Sink.held c.args.errors.now) (g.K.Sink.held c.put-3.new.sink) (first ++ (head ++ (name ++ (carried s ++ last)))) in
    let failed : Fails c.new-pieces.result c.as_bytes.result.now = then_fails _ _ _ c.new-pieces.result head (c.as_bytes.result.now ++ (carried s ++ last)) _ c.in_ok-put.ensures.goes_on (then_fails _ _ _ _ c.as_bytes.result.now (carried s ++ last) _ c.in_ok-put-2.ensures.goes_on (then_fails _ _ _ _ (carried s) last _ c.in_ok-put_carried.ensures.goes_on c.in_err-put-3.ensures.goes_on)) in
    rw p.1 (subst (λ first. Fails first (name_of s)) c.new-pieces.ensures (subst (Fails c.new-pieces.result) name failed))

pub returns-clause-ends : goal.returns-clause-ends
returns-clause-ends g c =
    let s = c.args.status.now in
    let name = c.as_bytes.ensures.value ∙ c.name_of.ensures in
    let Writes : List ℕ → List ℕ → Type 0 = λ first name. WritesAll (g.K.Sink.held c.args.errors.now) (g.K.Sink.held c.finish.new.sink) (first ++ (head ++ (name ++ (carried s ++ last)))) c.finish.result in
    let gathered = then_Leaves _ _ _ c.new-pieces.result head (c.as_bytes.result.now ++ (carried s ++ last)) _ _ c.in_ok-put.ensures.goes_on (then_Leaves _ _ _ _ c.as_bytes.result.now (carried s ++ last) _ _ c.in_ok-put-2.ensures.goes_on (then_Leaves _ _ _ _ (carried s) last _ _ c.in_ok-put_carried.ensures.goes_on c.in_ok-put-3.ensures.goes_on)) in
    let written : Writes c.new-pieces.result c.as_bytes.result.now = Leaves-WritesAll _ _ _ _ _ c.finish.result gathered c.finish.ensures.ends in
    subst (λ first. Writes first (name_of s)) c.new-pieces.ensures (subst (Writes c.new-pieces.result) name written)
