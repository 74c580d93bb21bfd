-- Sets of events, event by event.
use Rattle.std.proofs.Common.{◌≡◌, inl, inr, ℕ, zero, suc, ◌+◌, ◌<◌, ◌&&◌, nat_lt, Bool, true, false, List, [], ◌∷◌, ◌++◌, if◌then◌else◌, refl, sym, ap, ◌∙◌, arith}
use Rattle.std.proofs.lemmas.Bool.{cases_eq, ltb-true}
use Rattle.acpi_regs.specs.declared.event.Event.{Event}
use Rattle.acpi_regs.specs.declared.event.Event.TheVariants as event
use Rattle.acpi_regs.specs.declared.event.Fixed.TheVariants as fixed
use Rattle.acpi_regs.specs.Core.{all_events, event_at, events_below, events_of, if_in, no_event}
use Rattle.acpi_regs.specs.Event.{event_rank}
use Rattle.lock_table.specs.declared.words.Bits.{Bits}
use Rattle.lock_table.specs.Bits.{is_set}
use Rattle.world.specs.Duties.{pinned}

pub at_rank : (n : Event) → event_at (event_rank n) ≡ n
at_rank (event.Fixed fixed.Tmr) = refl
at_rank (event.Fixed fixed.Gbl) = refl
at_rank (event.Fixed fixed.Pwr) = refl
at_rank (event.Fixed fixed.Slp) = refl
at_rank (event.Fixed fixed.Rtc) = refl
at_rank (event.Gpe m) = let e : 5 + m ≡ suc (suc (suc (suc (suc m)))) = omega arith in ap event_at e

-- ---- the first k events

pub events_first : (set : Event → Bool) → events_below set 0 ≡ []
unfolding events_below
events_first set = refl

pub events_more : (set : Event → Bool) (k : ℕ) → events_below set (suc k) ≡ events_below set k ++ if_in set (event_at k)
unfolding events_below
events_more set k = refl

nothing : (xs ys : List Event) → xs ++ ys ≡ [] → (xs ≡ []) × (ys ≡ [])
nothing [] ys e = (refl, e)
nothing (x ∷ xs) ys e = cc

not_in : (set : Event → Bool) (n : Event) → if_in set n ≡ [] → set n ≡ false
not_in set n = by_set (set n)
  where
    by_set : (b : Bool) → (if b then n ∷ [] else []) ≡ [] → b ≡ false
    by_set true e = cc
    by_set false e = refl

none_below : (set : Event → Bool) (k : ℕ) → events_below set k ≡ [] → (n : Event) → event_rank n < k → set n ≡ false
none_below set zero e n h = absurd (omega arith)
none_below set (suc k) e n h =
    let parts = nothing (events_below set k) (if_in set (event_at k)) (sym (events_more set k) ∙ e) in
    elim (cases_eq (event_rank n) k) [
      | inl same ↦ not_in set n (ap (if_in set) (sym (at_rank n) ∙ ap event_at same) ∙ parts.1)
      | inr other ↦ none_below set k parts.0 n (omega arith)
    ]

-- where there is no event, no pin is set
pub none_of : (b : Bits) → events_of (pinned b) ≡ [] → pinned b ≡ no_event
none_of b e = λ i n. by_test n (nat_lt (event_rank n) all_events) refl i
  where
    by_test : (n : Event) (t : Bool) → nat_lt (event_rank n) all_events ≡ t → (t && is_set b n) ≡ false
    by_test n true is = ap (λ t. t && is_set b n) (sym is) ∙ none_below (pinned b) all_events e n (ltb-true (event_rank n) all_events is)
    by_test n false is = refl

none_up_to : (k : ℕ) → events_below no_event k ≡ []
none_up_to zero = events_first no_event
none_up_to (suc k) = events_more no_event k ∙ ap (λ l. l ++ []) (none_up_to k)

pub no_events : events_of no_event ≡ []
no_events = none_up_to all_events
