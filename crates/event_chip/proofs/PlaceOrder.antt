-- The places of events: each event's bit stands for it alone, and bits come in the order of events.
use Rattle.std.proofs.Common.{◌≡◌, ◌≢◌, inl, inr, ℕ, ◌<◌, ◌≤◌, ◌==◌, ◌+◌, ◌/◌, ◌%◌, ◌*◌, ◌&&◌, Bool, true, false, List, length, Some, None, slice_set, get_or, if◌then◌else◌, refl, arith, get_or-set_other, ap, sym, subst, ◌∙◌, zero, suc, not, bit_and}
use Rattle.std.proofs.lemmas.Grind.{get_or-set_at}
use Rattle.std.proofs.lemmas.Bool.{cases_eq, cases_lt, ne_eqb, eq-eqb}
use Rattle.std.proofs.lemmas.Bool.Decides.{nat_tests}
use Rattle.std.proofs.lemmas.List.{get_or_default, get_or_past, length-set}
use Rattle.std.proofs.lemmas.Nat.Bits.{bit_at-lt, bit_at-zero}
use Rattle.std.specs.Int.{bit_at}
use Rattle.acpi_regs.specs.declared.event.Event.{Event}
use Rattle.acpi_regs.specs.declared.event.Event.TheVariants as event
use Rattle.acpi_regs.specs.declared.event.Fixed.TheVariants as fixed
use Rattle.acpi_regs.specs.Event.{event_rank}
use Rattle.acpi_regs.specs.Registers.{place_of, register_bit, register_of}
use Rattle.event_chip.specs.declared.state.Slot.{Slot}
use Rattle.event_chip.specs.Chip.{IsFirst, no_slot, pends, slot_of}
use Rattle.event_chip.specs.Kept.{IsKept, IsQuiet, Shows, enables, is_set, slot_in}
use Rattle.event_chip.specs.Places.{IsFirstPlace, IsSummary, has, meets, one, rank_in}
use Rattle.event_chip.specs.Words.{IsWord}

pub rank_there : (n : Event) → rank_in (place_of n) ≡ event_rank n
rank_there (event.Fixed fixed.Tmr) = refl
rank_there (event.Fixed fixed.Gbl) = refl
rank_there (event.Fixed fixed.Pwr) = refl
rank_there (event.Fixed fixed.Slp) = refl
rank_there (event.Fixed fixed.Rtc) = refl
rank_there (event.Gpe n) = grind (arith, nat_tests)

pub place_there : (n : Event) (p : ℕ) → event_rank n < 261 → rank_in p ≡ event_rank n → p ≡ place_of n
place_there (event.Fixed fixed.Tmr) p l e = grind (arith, nat_tests)
place_there (event.Fixed fixed.Gbl) p l e = grind (arith, nat_tests)
place_there (event.Fixed fixed.Pwr) p l e = grind (arith, nat_tests)
place_there (event.Fixed fixed.Slp) p l e = grind (arith, nat_tests)
place_there (event.Fixed fixed.Rtc) p l e = grind (arith, nat_tests)
place_there (event.Gpe n) p l e = grind (arith, nat_tests)

pub place_before : (n : Event) (p : ℕ) → rank_in p < 261 → event_rank n < rank_in p → place_of n < p
place_before (event.Fixed fixed.Tmr) p l e = grind (arith, nat_tests)
place_before (event.Fixed fixed.Gbl) p l e = grind (arith, nat_tests)
place_before (event.Fixed fixed.Pwr) p l e = grind (arith, nat_tests)
place_before (event.Fixed fixed.Slp) p l e = grind (arith, nat_tests)
place_before (event.Fixed fixed.Rtc) p l e = grind (arith, nat_tests)
place_before (event.Gpe n) p l e = grind (arith, nat_tests)

place_below : (n : Event) → event_rank n < 261 → place_of n < 272
place_below (event.Fixed fixed.Tmr) l = omega arith
place_below (event.Fixed fixed.Gbl) l = omega arith
place_below (event.Fixed fixed.Pwr) l = omega arith
place_below (event.Fixed fixed.Slp) l = omega arith
place_below (event.Fixed fixed.Rtc) l = omega arith
place_below (event.Gpe n) l = omega (arith, l)

-- ---- one event's bit follows its slot

pub bit_kept : (test : Slot → Bool) (slots : List Slot) (words words' : List ℕ) (n : Event) (k p : ℕ) (s : Slot) (b : Bool) → length slots ≡ 261 → k ≡ event_rank n → k < 261 → p ≡ place_of n → b ≡ test s
    → ((q : ℕ) → q < 272 → has words' q ≡ (if q == p then b else has words q)) → Shows test slots words → Shows test (slice_set slots k s) words'
bit_kept test slots words words' n k p s b size rank small place is bits old q l = elim (cases_eq q p) [
  | inl e ↦
      let there : rank_in q ≡ k = ap rank_in (e ∙ place) ∙ rank_there n ∙ sym rank in
      bits q l ∙ rw (eq-eqb q p e) (is ∙ ap test (sym (get_or-set_at slots k (rank_in q) s no_slot there (omega (arith, size, small)))))
  | inr d ↦
      let elsewhere : rank_in q ≢ k = λ e. d (place_there n q (omega (arith, rank, small)) (e ∙ rank) ∙ sym place) in
      bits q l ∙ rw (ne_eqb q p d) (old q l ∙ ap test (sym (get_or-set_other slots k (rank_in q) s no_slot elsewhere)))
]

pub kept : (slots : List Slot) (status enable status' enable' : List ℕ) (m m' : ℕ) (n : Event) (k p : ℕ) (s : Slot) → k ≡ event_rank n → k < 261 → p ≡ place_of n
    → ((q : ℕ) → q < 272 → has status' q ≡ (if q == p then is_set s else has status q))
    → ((q : ℕ) → q < 272 → has enable' q ≡ (if q == p then enables s else has enable q))
    → (IsSummary status enable m → IsSummary status' enable' m')
    → IsKept slots status enable m → IsKept (slice_set slots k s) status' enable' m'
kept slots status enable status' enable' m m' n k p s rank small place bits_s bits_e sums old = record {
  size = length-set slots k s ∙ old.size;
  status_bits = bit_kept is_set slots status status' n k p s (is_set s) old.size rank small place refl bits_s old.status_bits;
  enable_bits = bit_kept enables slots enable enable' n k p s (enables s) old.size rank small place refl bits_e old.enable_bits;
  summary_bits = sums old.summary_bits;
}

-- ---- the first one that is pending

test_of : (test : Slot → Bool) (slots : List Slot) (words : List ℕ) (n : Event) → event_rank n < 261 → Shows test slots words → has words (place_of n) ≡ test (slot_of slots n)
test_of test slots words n l shows = shows (place_of n) (place_below n l) ∙ ap (λ k. test (get_or slots k no_slot)) (rank_there n)

pends_there : (slots : List Slot) (status enable : List ℕ) (m : ℕ) (n : Event) → event_rank n < 261 → IsKept slots status enable m → meets status enable (place_of n) ≡ pends slots n
pends_there slots status enable m n l kept = rw (test_of is_set slots status n l kept.status_bits) (rw (test_of enables slots enable n l kept.enable_bits) refl)

pends_none : (slots : List Slot) (n : Event) → length slots ≡ 261 → 261 ≤ event_rank n → pends slots n ≡ false
pends_none slots n size h = rw (get_or_past slots (event_rank n) no_slot (omega (arith, size, h))) refl

pub first_none : (slots : List Slot) (status enable : List ℕ) (m : ℕ) → IsKept slots status enable m → IsFirstPlace status enable None → IsFirst slots None
first_none slots status enable m kept none n = elim (cases_lt (event_rank n) 261) [
  | inl l ↦ sym (pends_there slots status enable m n l kept) ∙ none (place_of n) (place_below n l)
  | inr h ↦ pends_none slots n kept.size h
]

pub both_within : (slots : List Slot) (status enable : List ℕ) (m p : ℕ) → IsKept slots status enable m → p < 272 → meets status enable p ≡ true → rank_in p < 261
both_within slots status enable m p kept l met = elim (cases_lt (rank_in p) 261) [
  | inl h ↦ h
  | inr h ↦
      let size = kept.size in
      let unset : has status p ≡ false = kept.status_bits p l ∙ ap is_set (get_or_past slots (rank_in p) no_slot (omega (arith, size, h))) in
      absurd (wrong (has status p) (has enable p) unset met)
]
  where
    wrong : (a b : Bool) → a ≡ false → (a && b) ≡ true → ⊥
    wrong true b e h = cc
    wrong false b e h = cc

pub first_some : (slots : List Slot) (status enable : List ℕ) (m p : ℕ) (n : Event) → IsKept slots status enable m → event_rank n ≡ rank_in p → IsFirstPlace status enable (Some p) → IsFirst slots (Some n)
first_some slots status enable m p n kept rank first =
    let l : event_rank n < 261 = subst (λ k. k < 261) (sym rank) (both_within slots status enable m p kept first.0 first.1) in
    let here : p ≡ place_of n = place_there n p l (sym rank) in (
      sym (pends_there slots status enable m n l kept) ∙ ap (meets status enable) (sym here) ∙ first.1,
      λ k less.
          let lk : event_rank k < 261 = omega (arith, less, l) in
          let before : place_of k < p = place_before k p (subst (λ j. j < 261) rank l) (subst (λ j. event_rank k < j) rank less) in
          sym (pends_there slots status enable m k lk kept) ∙ first.2 (place_of k) before,
    )

-- ---- words

-- the place of a register's bit
in_register : (n : Event) → (place_of n / 16 ≡ register_of n) × (place_of n % 16 ≡ register_bit n)
in_register (event.Fixed fixed.Tmr) = (refl, refl)
in_register (event.Fixed fixed.Gbl) = (refl, refl)
in_register (event.Fixed fixed.Pwr) = (refl, refl)
in_register (event.Fixed fixed.Slp) = (refl, refl)
in_register (event.Fixed fixed.Rtc) = (refl, refl)
in_register (event.Gpe n) = (omega arith, omega arith)

-- below 17 registers there are 272 places, so these are events of the chip
in_range : (n : Event) → register_of n < 17 → event_rank n < 261
in_range (event.Fixed fixed.Tmr) l = omega arith
in_range (event.Fixed fixed.Gbl) l = omega arith
in_range (event.Fixed fixed.Pwr) l = omega arith
in_range (event.Fixed fixed.Slp) l = omega arith
in_range (event.Fixed fixed.Rtc) l = omega arith
in_range (event.Gpe n) l = omega (arith, l)

-- a bit of no event is at a place without a rank
no_fixed : (i : ℕ) → i < 16 → i ≢ 0 → i ≢ 5 → i ≢ 8 → i ≢ 9 → i ≢ 10 → 261 ≤ rank_in i
no_fixed i l d0 d5 d8 d9 d10 = grind (arith, nat_tests)

no_rank : (k i : ℕ) → i < 16 → ((n : Event) → register_of n ≡ k → register_bit n ≡ i → ⊥) → 261 ≤ rank_in (16 * k + i)
no_rank zero i l none =
    let same : i ≡ 16 * zero + i = omega arith in
    subst (λ p. 261 ≤ rank_in p) same
    (no_fixed i l (λ e. none (event.Fixed fixed.Tmr) refl (sym e)) (λ e. none (event.Fixed fixed.Gbl) refl (sym e)) (λ e. none (event.Fixed fixed.Pwr) refl (sym e)) (λ e. none (event.Fixed fixed.Slp) refl (sym e)) (λ e. none (event.Fixed fixed.Rtc) refl (sym e)))
no_rank (suc k) i l none = absurd (none (event.Gpe (16 * k + i)) (omega (arith, l)) (omega (arith, l)))

clear_bit : (x i : ℕ) → (bit_at x i == 1) ≡ false → bit_at x i ≡ 0
clear_bit x i h = elim (cases_eq (bit_at x i) 1) [
  | inl e ↦ absurd (wrong (bit_at x i == 1) (eq-eqb (bit_at x i) 1 e) h)
  | inr d ↦ let z = bit_at-lt x i in omega (arith, d, z)
]
  where
    wrong : (b : Bool) → b ≡ true → b ≡ false → ⊥
    wrong b e h = cc

pub word_is : (test : Slot → Bool) (slots : List Slot) (words : List ℕ) (k : ℕ) → k < 17 → length slots ≡ 261 → test no_slot ≡ false → Shows test slots words → IsWord test slots k (get_or words k 0)
word_is test slots words k l size unknown shows = record {
  events = λ n e.
      let at = in_register n in
      ap (λ j. bit_at (get_or words j 0) (register_bit n) == 1) (sym (at.0 ∙ e))
      ∙ ap (λ i. bit_at (get_or words (place_of n / 16) 0) i == 1) (sym at.1)
      ∙ test_of test slots words n (in_range n (subst (λ j. j < 17) (sym e) l)) shows;
  others = λ i h none.
      let past : slot_in slots (16 * k + i) ≡ no_slot = let far = no_rank k i h none in get_or_past slots (rank_in (16 * k + i)) no_slot (omega (arith, size, far)) in
      let word : (16 * k + i) / 16 ≡ k = omega (arith, h) in
      let bit : (16 * k + i) % 16 ≡ i = omega (arith, h) in
      clear_bit (get_or words k 0) i
      (ap (λ j. bit_at (get_or words j 0) i == 1) (sym word)
      ∙ ap (λ j. bit_at (get_or words ((16 * k + i) / 16) 0) j == 1) (sym bit)
      ∙ shows (16 * k + i) (omega (arith, l, h))
      ∙ ap test past ∙ unknown);
}

-- ---- the start

empty_has : (words : List ℕ) → ((k : ℕ) → get_or words k 0 ≡ 0) → (p : ℕ) → has words p ≡ false
empty_has words empty p = ap (λ x. bit_at x (p % 16) == 1) (empty (p / 16)) ∙ ap (λ x. x == 1) (bit_at-zero (p % 16))

-- nothing is enabled where no event is known
pub unknown_shows : (slots : List Slot) (words : List ℕ) → ((k : ℕ) → get_or slots k no_slot ≡ no_slot) → ((k : ℕ) → get_or words k 0 ≡ 0) → Shows enables slots words
unknown_shows slots words unknown empty p l = empty_has words empty p ∙ sym (ap enables (unknown (rank_in p)))

pub fresh_kept : (slots : List Slot) (status enable : List ℕ) → length slots ≡ 261 → ((k : ℕ) → get_or status k 0 ≡ 0) → IsQuiet slots → Shows enables slots enable → IsKept slots status enable 0
fresh_kept slots status enable size none quiet shows = record {
  size = size;
  status_bits = λ p l. empty_has status none p ∙ sym (quiet (rank_in p));
  enable_bits = shows;
  summary_bits = λ k l. bit_at-zero k ∙ sym (ap (λ x. one (not (bit_and x (get_or enable k 0) == 0))) (none k));
}

-- ---- one event

pub pends_at : (slots : List Slot) (status enable : List ℕ) (m : ℕ) (n : Event) (p : ℕ) (b : Bool) → IsKept slots status enable m → p ≡ place_of n → p < 272 → b ≡ meets status enable p → b ≡ pends slots n
pends_at slots status enable m n p b kept place l is =
    is ∙ ap (meets status enable) place ∙ pends_there slots status enable m n (small n (subst (λ q. q < 272) place l)) kept
  where
    small : (n : Event) → place_of n < 272 → event_rank n < 261
    small (event.Fixed fixed.Tmr) l = omega arith
    small (event.Fixed fixed.Gbl) l = omega arith
    small (event.Fixed fixed.Pwr) l = omega arith
    small (event.Fixed fixed.Slp) l = omega arith
    small (event.Fixed fixed.Rtc) l = omega arith
    small (event.Gpe n) l = omega (arith, l)

-- a bit of an event's place is what its slot says
pub shown_at : (test : Slot → Bool) (slots : List Slot) (words : List ℕ) (n : Event) (k p : ℕ) (d s : Slot) → length slots ≡ 261 → k ≡ event_rank n → k < 261 → p ≡ place_of n → s ≡ get_or slots k d → Shows test slots words → has words p ≡ test s
shown_at test slots words n k p d s size rank small place read shows =
    let within : k < length slots = omega (arith, size, small) in
    ap (has words) place
    ∙ test_of test slots words n (omega (arith, rank, small)) shows
    ∙ ap (λ j. test (get_or slots j no_slot)) (sym rank)
    ∙ ap test (sym (read ∙ get_or_default slots k d no_slot within))
