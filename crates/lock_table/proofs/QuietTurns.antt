-- A turn that adds nothing, and one that adds one entry, by an actor with no pins in hand.
use Rattle.std.proofs.Common.{◌≡◌, ◌≤◌, ◌+◌, ◌&&◌, cond, not, ℕ, zero, suc, Bool, true, false, List, [], ◌∷◌, ◌++◌, map, refl, sym, ap, ◌∙◌, arith}
use Rattle.acpi_regs.specs.declared.actor.Actor.{Actor}
use Rattle.acpi_regs.specs.declared.entry.Deed.{Deed}
use Rattle.acpi_regs.specs.declared.entry.Deed.TheVariants as deed
use Rattle.acpi_regs.specs.declared.entry.Entry.{Entry}
use Rattle.acpi_regs.specs.declared.event.Event.{Event}
use Rattle.acpi_regs.specs.Core.{all_events, event_at, events_below, events_of, if_in}
use Rattle.acpi_regs.specs.CoreEvents.{IsTurn, IsUnsought, in_hand, is_holding, is_latch, may_add, one}
use Rattle.acpi_regs.specs.Phases.{Free, Holding, Lock, Phase, Pulsed, is_lock_deed}

first : (set : Event → Bool) → events_below set 0 ≡ []
unfolding events_below
first set = refl

next : (set : Event → Bool) (k : ℕ) → events_below set (suc k) ≡ events_below set k ++ if_in set (event_at k)
unfolding events_below
next set k = refl

none_in : (set : Event → Bool) → ((n : Event) → set n ≡ false) → (n : Event) → if_in set n ≡ []
none_in set none n = ap (λ b. cond b (n ∷ []) []) (none n)

none_below : (set : Event → Bool) → ((n : Event) → set n ≡ false) → (k : ℕ) → events_below set k ≡ []
none_below set none zero = first set
none_below set none (suc k) = next set k ∙ (λ i. none_below set none k i ++ none_in set none (event_at k) i)

empty_handed : (p : Phase) → is_holding p ≡ false → (n : Event) → in_hand p n ≡ false
empty_handed (Lock p) isnt n = refl
empty_handed Free isnt n = refl
empty_handed (Holding words hand) isnt n = cc
empty_handed (Pulsed ps) isnt n = refl

none_held : (p : Phase) → is_holding p ≡ false → events_of (in_hand p) ≡ []
none_held p isnt = none_below (in_hand p) (empty_handed p isnt) all_events

pub adds_nothing : (p : Phase) (past : List Entry) (a : Actor) → is_holding p ≡ false → IsTurn p past a []
adds_nothing p past a isnt = record {
  latches = ([], sym (ap (λ es. map deed.Latch es ++ []) (none_held p isnt)), refl);
  few = omega arith;
  each = tt;
}

pub adds_one : (p : Phase) (past : List Entry) (a : Actor) (d : Deed) → is_holding p ≡ false → is_latch d ≡ false → may_add p d ≡ true → IsUnsought past a d → IsTurn p past a (d ∷ [])
adds_one p past a d isnt quiet may unsought = record {
  latches = (d ∷ [], sym (ap (λ es. map deed.Latch es ++ d ∷ []) (none_held p isnt)), ap (λ b. not b && true) quiet);
  few = at_most (is_lock_deed d);
  each = (may, unsought, tt);
}
  where
    at_most : (b : Bool) → one b + 0 ≤ 1
    at_most true = omega arith
    at_most false = omega arith
