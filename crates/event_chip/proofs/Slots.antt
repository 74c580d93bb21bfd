-- One slot is written.
use Rattle.std.proofs.Common.{◌≡◌, inl, inr, ℕ, ◌<◌, ◌≤◌, ◌==◌, ◌+◌, ◌-◌, true, false, List, length, drop, suc, Some, drop-cons, replicate, slice_set, get_or, if◌then◌else◌, refl, arith, get_or-set_other, ap, sym, ◌∙◌}
use Rattle.std.proofs.lemmas.Grind.{get_or-set_at}
use Rattle.std.proofs.lemmas.Bool.{cases_eq, cases_lt, ne_eqb, eq-eqb}
use Rattle.std.proofs.lemmas.List.{get_or_default, get_or_past, get_or-replicate, length-replicate}
use Rattle.acpi_regs.specs.declared.event.Event.{Event}
use Rattle.acpi_regs.specs.declared.event.Event.TheVariants as event
use Rattle.acpi_regs.specs.declared.event.Fixed.{Fixed}
use Rattle.acpi_regs.specs.declared.event.Fixed.TheVariants as fixed
use Rattle.acpi_regs.specs.declared.event.Listed.{Listed}
use Rattle.acpi_regs.specs.Event.{event_rank, fixed_rank, same_event}
use Rattle.event_chip.specs.declared.state.Slot.{Slot}
use Rattle.event_chip.specs.Chip.{listing, listed_slot, no_slot, slot_of, slot_or, touched}
use Rattle.event_chip.specs.declared.state.Touch.{Touch}
use Rattle.event_chip.specs.Kept.{IsQuiet}

fixed_below : (f : Fixed) → fixed_rank f < 5
fixed_below fixed.Tmr = omega arith
fixed_below fixed.Gbl = omega arith
fixed_below fixed.Pwr = omega arith
fixed_below fixed.Slp = omega arith
fixed_below fixed.Rtc = omega arith

-- two events are one where their places are
pub same_by_rank : (a b : Event) → same_event a b ≡ (event_rank a == event_rank b)
same_by_rank (event.Fixed f) (event.Fixed g) = refl
same_by_rank (event.Fixed f) (event.Gpe k) = let h = fixed_below f in sym (ne_eqb (fixed_rank f) (5 + k) (λ e. omega (arith, h, e)))
same_by_rank (event.Gpe n) (event.Fixed g) = let h = fixed_below g in sym (ne_eqb (5 + n) (fixed_rank g) (λ e. omega (arith, h, e)))
same_by_rank (event.Gpe n) (event.Gpe k) = elim (cases_eq n k) [
  | inl e ↦ eq-eqb n k e ∙ sym (eq-eqb (5 + n) (5 + k) (omega arith))
  | inr d ↦ ne_eqb n k d ∙ sym (ne_eqb (5 + n) (5 + k) (λ e. d (omega arith)))
]

pub written : (slots : List Slot) (e : Event) (s : Slot) → event_rank e < length slots → (n : Event) → slot_of (slice_set slots (event_rank e) s) n ≡ (if same_event e n then s else slot_of slots n)
written slots e s h n = elim (cases_eq (event_rank n) (event_rank e)) [
  | inl x ↦ get_or-set_at slots (event_rank e) (event_rank n) s no_slot x h ∙ sym (rw (same_by_rank e n) (rw (eq-eqb (event_rank e) (event_rank n) (sym x)) refl))
  | inr d ↦ get_or-set_other slots (event_rank e) (event_rank n) s no_slot d ∙ sym (rw (same_by_rank e n) (rw (ne_eqb (event_rank e) (event_rank n) (λ x. d (sym x))) refl))
]

-- a slot at which nothing happened is written
pub quiet : (slots : List Slot) (k : ℕ) (s : Slot) → k < length slots → s.state.status ≡ false → IsQuiet slots → IsQuiet (slice_set slots k s)
quiet slots k s h fresh old n = elim (cases_eq n k) [
  | inl e ↦ ap (λ x. x.state.status) (get_or-set_at slots k n s no_slot e h) ∙ fresh
  | inr d ↦ ap (λ x. x.state.status) (get_or-set_other slots k n s no_slot d) ∙ old n
]

-- the slot of an event is touched
pub touched_one : (slots : List Slot) (e : Event) (t : Touch) (k : ℕ) (x s : Slot) → k ≡ event_rank e → k < length slots → x ≡ get_or slots k x → s ≡ touched t x → (n : Event) → slot_of (slice_set slots k s) n ≡ (if same_event e n then touched t (slot_of slots n) else slot_of slots n)
touched_one slots e t k x s at h read after n = elim (cases_eq (event_rank n) k) [
  | inl y ↦ get_or-set_at slots k (event_rank n) s no_slot y h ∙ after
      ∙ ap (touched t) (read ∙ get_or_default slots k x no_slot h ∙ ap (λ j. get_or slots j no_slot) (sym y))
      ∙ sym (rw (same_by_rank e n) (rw (eq-eqb (event_rank e) (event_rank n) (sym (y ∙ at))) refl))
  | inr d ↦ get_or-set_other slots k (event_rank n) s no_slot d ∙ sym (rw (same_by_rank e n) (rw (ne_eqb (event_rank e) (event_rank n) (λ z. d (sym z ∙ sym at))) refl))
]

-- the last item that was not written yet is written
pub listed_more : (items : List Listed) (k : ℕ) (d : Listed) (n : Event) (s : Slot) → k < length items → slot_or (listing (drop k items) n) s ≡ (if same_event (get_or items k d).event n then listed_slot (get_or items k d) else slot_or (listing (drop (suc k) items) n) s)
listed_more items k d n s h = rw (drop-cons items k d h) (elim (same_event (get_or items k d).event n) as (λ b. slot_or (if b then Some (get_or items k d) else listing (drop (suc k) items) n) s ≡ (if b then listed_slot (get_or items k d) else slot_or (listing (drop (suc k) items) n) s)) [ true ↦ refl | false ↦ refl ])

pub listed_back : (items : List Listed) (w : ℕ) (d : Listed) (n : Event) (s old x new : Slot) → w < length items → x ≡ listed_slot (get_or items (length items - 1 - w) d) → new ≡ (if same_event (get_or items (length items - 1 - w) d).event n then x else old) → old ≡ slot_or (listing (drop (length items - w) items) n) s → new ≡ slot_or (listing (drop (length items - (w + 1)) items) n) s
listed_back items w d n s old x new h is set before =
    let k = length items - 1 - w in
    let within : k < length items = omega arith in
    let next : length items - w ≡ suc k = omega arith in
    let here : length items - (w + 1) ≡ k = omega arith in
    set
    ∙ ap (λ y. if same_event (get_or items k d).event n then y else old) is
    ∙ ap (λ y. if same_event (get_or items k d).event n then listed_slot (get_or items k d) else y) (before ∙ ap (λ j. slot_or (listing (drop j items) n) s) next)
    ∙ sym (listed_more items k d n s within)
    ∙ ap (λ j. slot_or (listing (drop j items) n) s) (sym here)

-- every slot of a chip that knows no event
pub all_unknown : (slots : List Slot) (s : Slot) → s ≡ no_slot → slots ≡ replicate 261 s → (k : ℕ) → get_or slots k no_slot ≡ no_slot
all_unknown slots s none all k = elim (cases_lt k 261) [
  | inl h ↦ ap (λ x. get_or x k no_slot) all ∙ get_or-replicate 261 k s no_slot h ∙ none
  | inr h ↦ let size : length slots ≤ k = let z = ap length all ∙ length-replicate 261 s in omega arith in get_or_past slots k no_slot size
]
