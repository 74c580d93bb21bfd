-- A log has one verdict at most.
use Rattle.std.proofs.Common.{ℕ, zero, suc, ◌+◌, ◌<◌, ◌≤◌, ◌≡◌, ◌⊎◌, inl, inr, List, [], ◌∷◌, ◌++◌, length, reverse, take, Option, Some, None, slice_get, refl, sym, ap, ◌∙◌, subst, arith}
use Rattle.std.proofs.lemmas.Bool.{cases_order}
use Rattle.std.proofs.lemmas.List.{take-take}
use Rattle.acpi_regs.specs.declared.actor.Actor.{Actor}
use Rattle.acpi_regs.specs.declared.entry.Entry.{Entry}
use Rattle.acpi_regs.specs.declared.event.Event.{Event}
use Rattle.acpi_regs.specs.History.{before, past_of}
use Rattle.history_text.specs.Text.{stuck}
use Rattle.machine_desc.specs.Actors.{actors_of}
use Rattle.machine_desc.specs.Machine.{MachineData}
use Rattle.machine_history.specs.declared.rule.LogRule.{LogRule}
use Rattle.machine_history.specs.declared.rule.LogRule.TheVariants as rule
use Rattle.machine_history.specs.Complete.{Complete}
use Rattle.machine_history.specs.Legal.{Legal, refusal}
use Rattle.machine_history.proofs.Places.{legal-each}
use Rattle.run_checker.specs.declared.verdict.Verdict.{Verdict}
use Rattle.run_checker.specs.declared.verdict.Verdict.TheVariants as verdict
use Rattle.run_checker.specs.Laws.{OneVerdict}
use Rattle.run_checker.specs.Reasons.{HasReason, IsFirstUnfinished}
use Rattle.run_checker.specs.Verdict.{BrokenAt, DiffersAt, IsRightEnd, IsWrongLine, Judges}
use Rattle.run_checker.proofs.Completing.{none_has}

-- an element of the first ones
in_front : {A : Type 0} (xs : List A) (n i : ℕ) → i < n → slice_get (take n xs) i ≡ slice_get xs i
in_front [] zero i less = refl
in_front [] (suc n) i less = refl
in_front (x ∷ xs) zero i less = absurd (omega (arith, less))
in_front (x ∷ xs) (suc n) zero less = refl
in_front (x ∷ xs) (suc n) (suc i) less = in_front xs n i (omega (arith, less))

some_apart : {A X : Type 0} (x : A) (o : Option A) → o ≡ None → o ≡ Some x → X
some_apart x o none some = absurd (let e : None ≡ Some x = sym none ∙ some in cc)

some_same : {A : Type 0} (x y : A) (o : Option A) → o ≡ Some x → o ≡ Some y → x ≡ y
some_same x y o one other = let e : Some x ≡ Some y = sym one ∙ other in cc

-- no entry of a legal history is refused
legal_allows : (m : MachineData) (entries : List Entry) (i : ℕ) (e : Entry) (r : LogRule) → Legal m entries → slice_get entries i ≡ Some e → refusal m (past_of entries i) e ≡ Some r → ⊥
legal_allows m entries i e r legal here refused = some_apart r (refusal m (past_of entries i) e) (legal-each m entries legal i e here) refused

-- of two that are refused neither stands before the other
not_before : (m : MachineData) (entries : List Entry) (i j : ℕ) (e : Entry) (r : LogRule) → i < j → slice_get entries i ≡ Some e → refusal m (past_of entries i) e ≡ Some r → Legal m (before entries j) → ⊥
not_before m entries i j e r less here refused legal =
    legal_allows m (before entries j) i e r legal (in_front entries j i less ∙ here) (ap (λ (h : List Entry). refusal m (reverse h) e) (take-take i j entries (omega (arith, less))) ∙ refused)

illegal : (line line2 : ℕ) (r r2 : LogRule) → line ≡ line2 → r ≡ r2 → verdict.Illegal line r ≡ verdict.Illegal line2 r2
illegal line line2 r r2 same same2 = ap (λ n. verdict.Illegal n r) same ∙ ap (λ x. verdict.Illegal line2 x) same2

broken_once : (m : MachineData) (entries : List Entry) (line line2 : ℕ) (r r2 : LogRule) → BrokenAt m entries line r → BrokenAt m entries line2 r2 → verdict.Illegal line r ≡ verdict.Illegal line2 r2
broken_once m entries line line2 r r2 one other = by_order (cases_order one.place other.place)
  where
    at_one : one.place ≡ other.place → verdict.Illegal line r ≡ verdict.Illegal line2 r2
    at_one same =
        let entry_is : one.entry ≡ other.entry = some_same one.entry other.entry (slice_get entries one.place) one.here (ap (slice_get entries) same ∙ other.here) in
        let rule_is : r ≡ r2 = some_same r r2 (refusal m (past_of entries one.place) one.entry) one.refused (ap (λ i. refusal m (past_of entries i) one.entry) same ∙ (ap (refusal m (past_of entries other.place)) entry_is ∙ other.refused)) in
        illegal line line2 r r2 (one.at_line ∙ (ap (λ i. i + 2) same ∙ sym other.at_line)) rule_is

    by_order : (one.place ≡ other.place) ⊎ ((one.place < other.place) ⊎ (other.place < one.place)) → verdict.Illegal line r ≡ verdict.Illegal line2 r2
    by_order (inl same) = at_one same
    by_order (inr (inl less)) = absurd (not_before m entries one.place other.place one.entry r less one.here one.refused other.legal)
    by_order (inr (inr less)) = absurd (not_before m entries other.place one.place other.entry r2 less other.here other.refused one.legal)

-- ---- the lines behind the entries

differs_not_before : (told given : List Event) (j k : ℕ) → DiffersAt told given j → DiffersAt told given k → j < k → ⊥
differs_not_before told given j k one other less =
    one.2 (sym (in_front told k j less) ∙ (ap (λ xs. slice_get xs j) other.0 ∙ in_front given k j less))

front_same : (told missing : List Event) (j : ℕ) → j < length told → slice_get told j ≡ slice_get (told ++ missing) j
front_same [] missing j less = absurd (omega (arith, less))
front_same (x ∷ told) missing zero less = refl
front_same (x ∷ told) missing (suc j) less = front_same told missing j (omega (arith, less))

not_missing : (told given missing : List Event) (j : ℕ) → DiffersAt told given j → given ≡ told ++ missing → ⊥
not_missing told given missing j differs is = differs.2 (front_same told missing j differs.1 ∙ ap (λ xs. slice_get xs j) (sym is))

differs_once : (told given : List Event) (j k : ℕ) → DiffersAt told given j → DiffersAt told given k → j ≡ k
differs_once told given j k one other = by_order (cases_order j k)
  where
    by_order : (j ≡ k) ⊎ ((j < k) ⊎ (k < j)) → j ≡ k
    by_order (inl same) = same
    by_order (inr (inl less)) = absurd (differs_not_before told given j k one other less)
    by_order (inr (inr less)) = absurd (differs_not_before told given k j other one less)

wrong_once : (m : MachineData) (entries : List Entry) (told : List Event) (last line line2 : ℕ) → IsWrongLine m entries told last line → IsWrongLine m entries told last line2 → line ≡ line2
wrong_once m entries told last line line2 (inl one) (inl other) = one.2 ∙ (ap (λ j. length entries + j + 2) (differs_once told (stuck m entries) one.0 other.0 one.1 other.1) ∙ sym other.2)
wrong_once m entries told last line line2 (inl one) (inr other) = absurd (not_missing told (stuck m entries) other.0 one.0 one.1 other.1)
wrong_once m entries told last line line2 (inr one) (inl other) = absurd (not_missing told (stuck m entries) one.0 other.0 other.1 one.1)
wrong_once m entries told last line line2 (inr one) (inr other) = one.3 ∙ sym other.3

right_or_wrong : (m : MachineData) (entries : List Entry) (told : List Event) (last line : ℕ) → IsRightEnd m entries told last → IsWrongLine m entries told last line → ⊥
right_or_wrong m entries told last line right (inl wrong) = wrong.1.2 (ap (λ xs. slice_get xs wrong.0) right.0)
right_or_wrong m entries told last line right (inr wrong) = wrong.2 right

-- ---- unfinished

first_once : (m : MachineData) (past : List Entry) (a b : Actor) → IsFirstUnfinished m past a → IsFirstUnfinished m past b → a ≡ b
first_once m past a b one other = by_order (cases_order one.place other.place)
  where
    by_order : (one.place ≡ other.place) ⊎ ((one.place < other.place) ⊎ (other.place < one.place)) → a ≡ b
    by_order (inl same) = some_same a b (slice_get (actors_of m) one.place) one.here (ap (slice_get (actors_of m)) same ∙ other.here)
    by_order (inr (inl less)) = absurd (other.first one.place a less one.here one.reason)
    by_order (inr (inr less)) = absurd (one.first other.place b less other.here other.reason)

-- ---- verdicts

illegal_once : (m : MachineData) (entries : List Entry) (told : List Event) (last line line2 : ℕ) (r r2 : LogRule) → Judges m entries told last (verdict.Illegal line r) → Judges m entries told last (verdict.Illegal line2 r2) → verdict.Illegal line r ≡ verdict.Illegal line2 r2
illegal_once m entries told last line line2 r r2 (inl one) (inl other) = broken_once m entries line line2 r r2 one other
illegal_once m entries told last line line2 r r2 (inl one) (inr other) = absurd (legal_allows m entries one.place one.entry r other.0 one.here one.refused)
illegal_once m entries told last line line2 r r2 (inr one) (inl other) = absurd (legal_allows m entries other.place other.entry r2 one.0 other.here other.refused)
illegal_once m entries told last line line2 r r2 (inr one) (inr other) = illegal line line2 r r2 (wrong_once m entries told last line line2 one.1 other.1) (one.2 ∙ sym other.2)

legal_not_illegal : (m : MachineData) (entries : List Entry) (told : List Event) (last line : ℕ) (r : LogRule) → Legal m entries → IsRightEnd m entries told last → Judges m entries told last (verdict.Illegal line r) → ⊥
legal_not_illegal m entries told last line r legal right (inl broken) = legal_allows m entries broken.place broken.entry r legal broken.here broken.refused
legal_not_illegal m entries told last line r legal right (inr wrong) = right_or_wrong m entries told last line right wrong.1

pub one_verdict : OneVerdict
one_verdict m entries told last verdict.Complete verdict.Complete one other = refl
one_verdict m entries told last verdict.Complete (verdict.Illegal line r) one other = absurd (legal_not_illegal m entries told last line r one.0.legal one.1 other)
one_verdict m entries told last verdict.Complete (verdict.Unfinished a) one other = absurd (none_has m entries one.0 a other.2.reason.0 other.2.reason.1)
one_verdict m entries told last (verdict.Illegal line r) verdict.Complete one other = absurd (legal_not_illegal m entries told last line r other.0.legal other.1 one)
one_verdict m entries told last (verdict.Illegal line r) (verdict.Illegal line2 r2) one other = illegal_once m entries told last line line2 r r2 one other
one_verdict m entries told last (verdict.Illegal line r) (verdict.Unfinished a) one other = absurd (legal_not_illegal m entries told last line r other.0 other.1 one)
one_verdict m entries told last (verdict.Unfinished a) verdict.Complete one other = absurd (none_has m entries other.0 a one.2.reason.0 one.2.reason.1)
one_verdict m entries told last (verdict.Unfinished a) (verdict.Illegal line r) one other = absurd (legal_not_illegal m entries told last line r one.0 one.1 other)
one_verdict m entries told last (verdict.Unfinished a) (verdict.Unfinished b) one other = ap verdict.Unfinished (first_once m (reverse entries) a b one.2 other.2)
