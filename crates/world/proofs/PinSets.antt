-- Sets of pins as functions of events.
use Rattle.std.proofs.Common.{◌≡◌, inl, inr, ℕ, ◌+◌, ◌&&◌, ◌||◌, ◌==◌, nat_lt, Bool, true, false, refl, sym, ap, ◌∙◌}
use Rattle.std.proofs.lemmas.Bool.{cases_eq, eq-eqb, eqb-true, lt-ltb, ltb-true, ne_eqb}
use Rattle.acpi_regs.specs.declared.event.Event.{Event}
use Rattle.acpi_regs.specs.declared.event.Event.TheVariants as event
use Rattle.acpi_regs.specs.Core.{all_events, no_event}
use Rattle.acpi_regs.specs.Event.{event_rank, fixed_rank, same_event}
use Rattle.lock_table.specs.declared.words.Bits.{Bits}
use Rattle.lock_table.specs.Bits.{IsEvent, is_set}
use Rattle.world.specs.Duties.{pinned}
use Rattle.world.specs.Serial.{with_pin}

-- where there is no pin
pub none_pinned : (b : Bits) → ((n : Event) → IsEvent n → is_set b n ≡ false) → pinned b ≡ no_event
none_pinned b h = λ i n. by_test n (nat_lt (event_rank n) all_events) refl i
  where
    by_test : (n : Event) (t : Bool) → nat_lt (event_rank n) all_events ≡ t → (t && is_set b n) ≡ false
    by_test n true is = h n (ltb-true (event_rank n) all_events is)
    by_test n false is = refl

-- an event has its pin where its bit is set
pub pinned_at : (b : Bits) (n : Event) → IsEvent n → pinned b n ≡ is_set b n
pinned_at b n is = rw (lt-ltb (event_rank n) all_events is) refl

eqb-swap : (j k : ℕ) → (j == k) ≡ (k == j)
eqb-swap j k = elim (cases_eq j k) [
  | inl e ↦ eq-eqb j k e ∙ sym (eq-eqb k j (sym e))
  | inr d ↦ ne_eqb j k d ∙ sym (ne_eqb k j (λ e. d (sym e)))
]

swapped : (x n : Event) → same_event x n ≡ same_event n x
swapped (event.Fixed f) (event.Fixed g) = eqb-swap (fixed_rank f) (fixed_rank g)
swapped (event.Fixed f) (event.Gpe k) = refl
swapped (event.Gpe n) (event.Fixed g) = refl
swapped (event.Gpe n) (event.Gpe k) = eqb-swap n k

or-swap : (a b : Bool) → (a || b) ≡ (b || a)
or-swap true true = refl
or-swap true false = refl
or-swap false true = refl
or-swap false false = refl

pub same-rank : (x n : Event) → same_event x n ≡ true → event_rank x ≡ event_rank n
same-rank (event.Fixed f) (event.Fixed g) is = eqb-true (fixed_rank f) (fixed_rank g) is
same-rank (event.Fixed f) (event.Gpe k) is = cc
same-rank (event.Gpe n) (event.Fixed g) is = cc
same-rank (event.Gpe n) (event.Gpe k) is = ap (λ j. 5 + j) (eqb-true n k is)

-- one pin is set
pub pin_set : (b b' : Bits) (n : Event) → IsEvent n → ((x : Event) → IsEvent x → is_set b' x ≡ (same_event n x || is_set b x)) → pinned b' ≡ with_pin n (pinned b)
pin_set b b' n within h = λ i x. by_test x (nat_lt (event_rank x) all_events) refl i
  where
    outside : (x : Event) (t : Bool) → nat_lt (event_rank x) all_events ≡ false → same_event x n ≡ t → false ≡ t
    outside x true is same = let below = lt-ltb (event_rank x) all_events (rw (same-rank x n same) within) in sym is ∙ below
    outside x false is same = refl

    by_test : (x : Event) (t : Bool) → nat_lt (event_rank x) all_events ≡ t → (t && is_set b' x) ≡ ((t && is_set b x) || same_event x n)
    by_test x true is = h x (ltb-true (event_rank x) all_events is) ∙ (or-swap (same_event n x) (is_set b x) ∙ ap (λ t. is_set b x || t) (swapped n x))
    by_test x false is = outside x (same_event x n) is refl
