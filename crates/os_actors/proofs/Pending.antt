-- The first event of a set, in the order in which events are served.
use Rattle.std.proofs.Common.{◌≡◌, inl, inr, ℕ, zero, suc, ◌<◌, Bool, true, false, List, [], ◌∷◌, ◌++◌, Some, if◌then◌else◌, refl, sym, ap, ◌∙◌, arith}
use Rattle.std.proofs.lemmas.Bool.{cases_eq}
use Rattle.acpi_regs.specs.declared.event.Event.{Event}
use Rattle.acpi_regs.specs.Core.{event_at, events_below, if_in}
use Rattle.acpi_regs.specs.Event.{event_rank}
use Rattle.machine_history.specs.Steps.{first}
use Rattle.world.proofs.Events.{at_rank, events_first, events_more}

rank_at : (k : ℕ) → event_rank (event_at k) ≡ k
rank_at zero = refl
rank_at (suc zero) = refl
rank_at (suc (suc zero)) = refl
rank_at (suc (suc (suc zero))) = refl
rank_at (suc (suc (suc (suc zero)))) = refl
rank_at (suc (suc (suc (suc (suc k))))) = omega arith

pub none-below : (set : Event → Bool) (k : ℕ) → ((n : Event) → event_rank n < k → set n ≡ false) → events_below set k ≡ []
none-below set zero none = events_first set
none-below set (suc k) none =
    let last : set (event_at k) ≡ false = none (event_at k) (let e = rank_at k in omega arith) in
    events_more set k ∙ ((λ i. none-below set k (λ n within. none n (omega arith)) i ++ (if last i then event_at k ∷ [] else [])))

first-front : (xs ys : List Event) (x : Event) → first xs ≡ Some x → first (xs ++ ys) ≡ Some x
first-front [] ys x is = cc
first-front (y ∷ xs) ys x is = is

pub first-below : (set : Event → Bool) (k : ℕ) (x : Event) → event_rank x < k → set x ≡ true → ((n : Event) → event_rank n < event_rank x → set n ≡ false) → first (events_below set k) ≡ Some x
first-below set zero x within is before = absurd (omega arith)
first-below set (suc k) x within is before =
    elim (cases_eq (event_rank x) k) [
      | inl same ↦
          let at : event_at k ≡ x = ap event_at (sym same) ∙ at_rank x in
          let none = none-below set k (λ n less. before n (omega (arith, same, less))) in
          ap first (events_more set k) ∙ ((λ i. first (none i ++ if_in set (at i))) ∙ ap (λ b. first (if b then x ∷ [] else [])) is)
      | inr other ↦ ap first (events_more set k) ∙ first-front (events_below set k) (if_in set (event_at k)) x (first-below set k x (omega (arith, other)) is before)
    ]
