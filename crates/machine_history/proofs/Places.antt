-- A history by its places: legal exactly where each entry is allowed after those before it.
use Rattle.std.proofs.Common.{ℕ, ◌<◌, ◌≤◌, ◌≡◌, ◌⊎◌, inl, inr, zero, suc, List, [], ◌∷◌, ◌++◌, length, reverse, take, drop, Some, slice_get, arith, refl, sym, ap, ◌∙◌, subst}
use Rattle.std.proofs.Math.Seq.{take-append_seam}
use Rattle.std.proofs.lemmas.Grind.{reverse_onto}
use Rattle.std.proofs.lemmas.List.{reverse-append, reverse-reverse, take-append-drop, take-append-le}
use Rattle.std.proofs.lemmas.Option.{slice_get_within}
use Rattle.acpi_regs.specs.declared.entry.Entry.{Entry}
use Rattle.acpi_regs.specs.History.{past_of}
use Rattle.machine_desc.specs.Machine.{MachineData}
use Rattle.machine_history.specs.Legal.{Allowed, LegalPast, Legal}
use Rattle.machine_history.specs.Legal.{EachAllowed}

pub reverse-cons : {X : Type 0} (x : X) (xs : List X) → reverse (x ∷ xs) ≡ reverse xs ++ x ∷ []
reverse-cons x xs = reverse_onto xs x []

-- an element of a list with one more at its end
pub slice_get-push : {X : Type 0} (xs : List X) (y : X) (i : ℕ) (x : X) → slice_get (xs ++ y ∷ []) i ≡ Some x → ((i < length xs) × (slice_get xs i ≡ Some x)) ⊎ ((i ≡ length xs) × (y ≡ x))
slice_get-push [] y zero x at = inr (refl, cc)
slice_get-push [] y (suc i) x at = cc
slice_get-push (z ∷ xs) y zero x at = inl (omega arith, at)
slice_get-push (z ∷ xs) y (suc i) x at =
    elim (slice_get-push xs y i x at) [
      | inl left ↦ inl (omega (arith, left.0), left.1)
      | inr last ↦ inr (omega (arith, last.0), last.1)
    ]

pub slice_get-append_left : {X : Type 0} (xs ys : List X) (i : ℕ) (x : X) → slice_get xs i ≡ Some x → slice_get (xs ++ ys) i ≡ Some x
slice_get-append_left [] ys i x at = cc
slice_get-append_left (z ∷ xs) ys zero x at = at
slice_get-append_left (z ∷ xs) ys (suc i) x at = slice_get-append_left xs ys i x at

pub slice_get-seam : {X : Type 0} (xs : List X) (y : X) → slice_get (xs ++ y ∷ []) (length xs) ≡ Some y
slice_get-seam [] y = refl
slice_get-seam (x ∷ xs) y = slice_get-seam xs y

-- what stands before an entry stays when the history grows
pub allowed_push : (m : MachineData) (history : List Entry) (newest e : Entry) (i : ℕ) → i ≤ length history → Allowed m (reverse (take i (history ++ newest ∷ []))) e ≡ Allowed m (reverse (take i history)) e
allowed_push m history newest e i within = ap (λ h. Allowed m (reverse h) e) (take-append-le i history (newest ∷ []) within)

pub allowed_newest : (m : MachineData) (past : List Entry) (newest e : Entry) → Allowed m (reverse (take (length (reverse past)) (reverse past ++ newest ∷ []))) e ≡ Allowed m past e
allowed_newest m past newest e =
    ap (λ h. Allowed m (reverse h) e) (take-append_seam (reverse past) (newest ∷ [])) ∙ ap (λ h. Allowed m h e) (reverse-reverse past)

pub each_allowed : (m : MachineData) (past : List Entry) → LegalPast m past → EachAllowed m (reverse past)
each_allowed m [] legal = λ i e at. cc
each_allowed m (newest ∷ past) legal = subst (EachAllowed m) (sym (reverse-cons newest past)) (grown (each_allowed m past legal.1))
  where
    grown : EachAllowed m (reverse past) → EachAllowed m (reverse past ++ newest ∷ [])
    grown each i e at =
        elim (slice_get-push (reverse past) newest i e at) [
          | inl left ↦ subst (λ T. T) (sym (allowed_push m (reverse past) newest e i (omega (arith, left.0)))) (each i e left.1)
          | inr last ↦ subst (λ j. Allowed m (reverse (take j (reverse past ++ newest ∷ []))) e) (sym last.0) (subst (λ T. T) (sym (allowed_newest m past newest e)) (subst (Allowed m past) last.1 legal.0))
        ]

pub legal_from_each : (m : MachineData) (past : List Entry) → EachAllowed m (reverse past) → LegalPast m past
legal_from_each m [] each = tt
legal_from_each m (newest ∷ past) each =
    (subst (λ T. T) (allowed_newest m past newest newest) (at_seam (length (reverse past)) newest (slice_get-seam (reverse past) newest)), legal_from_each m past (λ i e at. subst (λ T. T) (allowed_push m (reverse past) newest e i (omega (arith, slice_get_within (reverse past) i e at))) (at_seam i e (slice_get-append_left (reverse past) (newest ∷ []) i e at))))
  where
    at_seam : EachAllowed m (reverse past ++ newest ∷ [])
    at_seam = subst (EachAllowed m) (reverse-cons newest past) each

pub legal-each : (m : MachineData) (history : List Entry) → Legal m history → EachAllowed m history
legal-each m history legal = subst (EachAllowed m) (reverse-reverse history) (each_allowed m (reverse history) legal)

pub each-legal : (m : MachineData) (history : List Entry) → EachAllowed m history → Legal m history
each-legal m history each = legal_from_each m (reverse history) (subst (EachAllowed m) (sym (reverse-reverse history)) each)

-- what is legal was legal before its newest entries
pub legal-tail : (m : MachineData) (newer past : List Entry) → LegalPast m (newer ++ past) → LegalPast m past
legal-tail m [] past legal = legal
legal-tail m (e ∷ newer) past legal = legal-tail m newer past legal.1

-- the front of a legal history is legal
pub legal-front : (m : MachineData) (history : List Entry) (i : ℕ) → Legal m history → LegalPast m (past_of history i)
legal-front m history i legal =
    legal-tail m (reverse (drop i history)) (past_of history i) (subst (LegalPast m) (ap reverse (sym (take-append-drop i history)) ∙ reverse-append (take i history) (drop i history)) legal)
