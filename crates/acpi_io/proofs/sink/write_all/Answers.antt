use Rattle.std.proofs.Common.{◌≡◌, ℕ, ◌<◌, ◌≤◌, [], List, length, take, ◌++◌, sym, ◌∙◌, ap, append_assoc, arith, length-append, length-take-le}
use Rattle.std.proofs.lemmas.List.{take-append-drop}
use Rattle.acpi_io.proofs.KnownBytes.{Appends-append}
use Rattle.acpi_io.proofs.sink.write_all.Goals as goal

-- a list with a part that is not empty is not empty
not_empty : (bytes front rest : List ℕ) → bytes ≡ front ++ rest → 0 < length rest → bytes ≡ [] → ⊥
not_empty bytes front rest split some none =
    let whole : length bytes ≡ length (front ++ rest) = ap length split in
    let nothing : length bytes ≡ 0 = ap length none in
    absurd (omega (arith, length-append front rest))

pub loop-rest-preserved : goal.loop-rest-preserved
loop-rest-preserved g c =
    let front = c.loop-rest.invariant.added.0 in
    let taken = take c.in-Took.count c.loop-rest.rest.now in
    let split : c.loop-rest.rest.now ≡ taken ++ c.split_at.result.1.now = rw c.split_at.ensures.back (sym (take-append-drop c.in-Took.count c.loop-rest.rest.now)) in
    let some : 1 ≤ c.in-Took.count = c.in-Took.ensures.bytes.0 in
    let within : c.in-Took.count ≤ length c.loop-rest.rest.now = c.in-Took.ensures.bytes.1 in
    record {
      added = (front ++ taken, c.loop-rest.invariant.added.1 ∙ ap (λ (l : List ℕ). front ++ l) split ∙ sym (append_assoc front taken c.split_at.result.1.now), Appends-append _ (g.K.Sink.held c.loop-rest.sink) _ front taken c.loop-rest.invariant.added.2 c.in-Took.ensures.bytes.2, let w = c.loop-rest.invariant.added.3 in let a = c.in-Took.ensures.asked in omega (arith, length-append front taken, length-take-le c.in-Took.count c.loop-rest.rest.now within));
      kept = c.in-Took.ensures.told (λ same. cc) ∙ c.loop-rest.invariant.kept;
      untouched = λ none. absurd (not_empty _ front _ c.loop-rest.invariant.added.1 (omega arith) none);
    }
