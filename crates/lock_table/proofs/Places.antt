-- One bit of one word is set.
use Rattle.std.proofs.Common.{◌≡◌, ◌≢◌, inl, inr, ℕ, suc, ◌<◌, ◌==◌, ◌||◌, ◌*◌, ◌+◌, ◌/◌, ◌%◌, ◌^◌, List, ◌∷◌, length, get_or, slice_set, bit_or, w64, refl, ap, sym, ◌∙◌, arith, get_or-set_other}
use Rattle.std.proofs.lemmas.Bool.{cases_eq, ne_eqb, eq-eqb}
use Rattle.std.proofs.lemmas.Grind.{get_or-set_at}
use Rattle.std.proofs.lemmas.Nat.Bits.{bit_at_set_same, bit_at_set_other}
use Rattle.std.specs.Int.{bit_at}
use Rattle.acpi_regs.specs.declared.event.Event.{Event}
use Rattle.acpi_regs.specs.declared.event.Event.TheVariants as event
use Rattle.acpi_regs.specs.declared.event.Fixed.{Fixed}
use Rattle.acpi_regs.specs.declared.event.Fixed.TheVariants as fixed
use Rattle.acpi_regs.specs.Event.{fixed_bit, fixed_rank, same_event}
use Rattle.lock_table.specs.declared.words.Bits.{Bits}
use Rattle.lock_table.specs.Bits.{is_set}

-- a bit of a word in which one bit is set
pub bit_put : (w k i : ℕ) → k < 64 → (bit_at (bit_or w (1 * 2 ^ k % 2 ^ 64)) i == 1) ≡ ((i == k) || (bit_at w i == 1))
bit_put w k i h = elim (cases_eq i k) [
  | inl e ↦ ap (λ x. x == 1) (ap (bit_at (bit_or w (1 * 2 ^ k % 2 ^ 64))) e ∙ bit_at_set_same w64 w k h) ∙ sym (ap (λ x. x || (bit_at w i == 1)) (eq-eqb i k e))
  | inr d ↦ ap (λ x. x == 1) (bit_at_set_other w64 w k h i d) ∙ sym (ap (λ x. x || (bit_at w i == 1)) (ne_eqb i k d))
]

pub bits_same : (f g : Fixed) → (fixed_bit g == fixed_bit f) ≡ (fixed_rank f == fixed_rank g)
bits_same fixed.Tmr fixed.Tmr = refl
bits_same fixed.Tmr fixed.Gbl = refl
bits_same fixed.Tmr fixed.Pwr = refl
bits_same fixed.Tmr fixed.Slp = refl
bits_same fixed.Tmr fixed.Rtc = refl
bits_same fixed.Gbl fixed.Tmr = refl
bits_same fixed.Gbl fixed.Gbl = refl
bits_same fixed.Gbl fixed.Pwr = refl
bits_same fixed.Gbl fixed.Slp = refl
bits_same fixed.Gbl fixed.Rtc = refl
bits_same fixed.Pwr fixed.Tmr = refl
bits_same fixed.Pwr fixed.Gbl = refl
bits_same fixed.Pwr fixed.Pwr = refl
bits_same fixed.Pwr fixed.Slp = refl
bits_same fixed.Pwr fixed.Rtc = refl
bits_same fixed.Slp fixed.Tmr = refl
bits_same fixed.Slp fixed.Gbl = refl
bits_same fixed.Slp fixed.Pwr = refl
bits_same fixed.Slp fixed.Slp = refl
bits_same fixed.Slp fixed.Rtc = refl
bits_same fixed.Rtc fixed.Tmr = refl
bits_same fixed.Rtc fixed.Gbl = refl
bits_same fixed.Rtc fixed.Pwr = refl
bits_same fixed.Rtc fixed.Slp = refl
bits_same fixed.Rtc fixed.Rtc = refl

pub bit_fits : (f : Fixed) → fixed_bit f < 64
bit_fits fixed.Tmr = omega arith
bit_fits fixed.Gbl = omega arith
bit_fits fixed.Pwr = omega arith
bit_fits fixed.Slp = omega arith
bit_fits fixed.Rtc = omega arith

get_more : (x : ℕ) (xs : List ℕ) (i : ℕ) → get_or (x ∷ xs) (1 + i) 0 ≡ get_or xs i 0
get_more x xs i = let e : 1 + i ≡ suc i = omega arith in ap (λ j. get_or (x ∷ xs) j 0) e

-- a fixed event is put in
pub put_fixed : (b : Bits) (f : Fixed) (k : ℕ) → k ≡ fixed_bit f → (n : Event) → is_set (record { fixed = bit_or b.fixed (1 * 2 ^ k % 2 ^ 64); gpe = b.gpe }) n ≡ (same_event (event.Fixed f) n || is_set b n)
put_fixed b f k at (event.Fixed g) =
    let h = bit_fits f in
    let fits : k < 64 = omega (arith, at, h) in
    bit_put b.fixed k (fixed_bit g) fits ∙ ap (λ x. x || is_set b (event.Fixed g)) (ap (λ j. fixed_bit g == j) at ∙ bits_same f g)
put_fixed b f k at (event.Gpe m) = ap (λ w. bit_at w (m % 64) == 1) (get_more _ b.gpe (m / 64) ∙ sym (get_more b.fixed b.gpe (m / 64)))

-- two numbers of one word are one where their bits are
pub same_word : (m k : ℕ) → m / 64 ≡ k / 64 → (k % 64 == m % 64) ≡ (m == k)
same_word m k e = elim (cases_eq (k % 64) (m % 64)) [
  | inl s ↦ let whole : m ≡ k = omega arith in eq-eqb (k % 64) (m % 64) s ∙ sym (eq-eqb m k whole)
  | inr d ↦ ne_eqb (k % 64) (m % 64) d ∙ sym (ne_eqb m k (λ w. d (ap (λ x. x % 64) (sym w))))
]

-- a GPE is put in
pub put_gpe : (b : Bits) (m j : ℕ) → j ≡ m / 64 → j < length b.gpe → (n : Event) → is_set (record { fixed = b.fixed; gpe = slice_set b.gpe j (bit_or (get_or b.gpe j 0) (1 * 2 ^ (m % 64) % 2 ^ 64)) }) n ≡ (same_event (event.Gpe m) n || is_set b n)
put_gpe b m j at within (event.Fixed g) = refl
put_gpe b m j at within (event.Gpe k) =
    let word = bit_or (get_or b.gpe j 0) (1 * 2 ^ (m % 64) % 2 ^ 64) in
    let more = get_more b.fixed (slice_set b.gpe j word) (k / 64) in
    let less = sym (get_more b.fixed b.gpe (k / 64)) in
    elim (cases_eq (k / 64) j) [
      | inl e ↦ let fits : m % 64 < 64 = omega arith in
          let same : (k % 64 == m % 64) ≡ (m == k) = same_word m k (sym at ∙ sym e) in
          ap (λ w. bit_at w (k % 64) == 1) (more ∙ get_or-set_at b.gpe j (k / 64) word 0 e within)
          ∙ bit_put (get_or b.gpe j 0) (m % 64) (k % 64) fits
          ∙ (λ i. same i || (bit_at ((ap (λ x. get_or b.gpe x 0) (sym e) ∙ less) i) (k % 64) == 1))
      | inr d ↦ let other : m ≢ k = λ e. d (ap (λ x. x / 64) (sym e) ∙ sym at) in
          ap (λ w. bit_at w (k % 64) == 1) (more ∙ get_or-set_other b.gpe j (k / 64) word 0 d ∙ less)
          ∙ sym (ap (λ x. x || is_set b (event.Gpe k)) (ne_eqb m k other))
    ]
