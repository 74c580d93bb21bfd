-- Bits of words, and the words that two sets share.
use Rattle.std.proofs.Common.{◌≡◌, ◌≢◌, inl, inr, ℕ, ◌<◌, ◌==◌, ◌+◌, ◌*◌, ◌/◌, ◌%◌, ◌&&◌, Bool, true, false, List, length, slice_set, slice_index, if◌then◌else◌, refl, arith, ◌^◌, bit_or, bit_and, w16, w32, get_or, get_or-set_other, ap, sym, ◌∙◌, zero, suc, min, not, Some, None}
use Rattle.std.proofs.lemmas.Bool.{cases_eq, cases_lt, ne_eqb, eq-eqb, eqb-true}
use Rattle.std.proofs.lemmas.Grind.{get_or-set_at}
use Rattle.std.proofs.lemmas.Nat.Bits.{bit_at_and, bit_at-lt, bit_at-zero, bit_at_set_same, bit_at_set_other, bit_at_clear_same, bit_at_clear_other, same_from_bits}
use Rattle.std.proofs.lemmas.List.{get_or_past}
use Rattle.std.specs.Int.{bit_at, bit_not}
use Rattle.event_chip.specs.Places.{IsFirstPlace, IsSummary, IsWithin, has, meets, one, shares}

-- a word with one bit set, and with one cleared
pub bit_set : (n k i : ℕ) → k < 16 → i < 16 → bit_at (bit_or n (1 * 2 ^ k % 2 ^ 16)) i ≡ (if i == k then 1 else bit_at n i)
bit_set n k i h l = grind (arith, bit_at_set_same w16 n k h, bit_at_set_other w16 n k h i)

pub bit_cleared : (n k i : ℕ) → k < 16 → i < 16 → bit_at (bit_and n (bit_not w16 (1 * 2 ^ k % 2 ^ 16))) i ≡ (if i == k then 0 else bit_at n i)
bit_cleared n k i h l = grind (arith, bit_at_clear_same w16 n k h, bit_at_clear_other w16 n k h i l)

-- the same of 32 bits
pub mark_set : (n k i : ℕ) → k < 32 → i < 32 → bit_at (bit_or n (1 * 2 ^ k % 2 ^ 32)) i ≡ (if i == k then 1 else bit_at n i)
mark_set n k i h l = grind (arith, bit_at_set_same w32 n k h, bit_at_set_other w32 n k h i)

pub mark_cleared : (n k i : ℕ) → k < 32 → i < 32 → bit_at (bit_and n (bit_not w32 (1 * 2 ^ k % 2 ^ 32))) i ≡ (if i == k then 0 else bit_at n i)
mark_cleared n k i h l = grind (arith, bit_at_clear_same w32 n k h, bit_at_clear_other w32 n k h i l)

one_is : (b : Bool) → (one b == 1) ≡ b
one_is true = refl
one_is false = refl

same_word : (words : List ℕ) (k w : ℕ) (b : Bool) (n : ℕ) → n / 16 ≡ k / 16 → n % 16 < 16 → ((i : ℕ) → i < 16 → bit_at w i ≡ (if i == k % 16 then one b else bit_at (get_or words (k / 16) 0) i)) → (bit_at w (n % 16) == 1) ≡ (if n == k then b else has words n)
same_word words k w b n e h bits =
    elim (cases_eq (n % 16) (k % 16)) [
      | inl s ↦ let whole : n ≡ k = omega arith in
          rw (bits (n % 16) h) (rw (eq-eqb (n % 16) (k % 16) s) (rw (eq-eqb n k whole) (one_is b)))
      | inr d ↦ let ne : n ≢ k = λ x. d (ap (λ j. j % 16) x) in
          rw (bits (n % 16) h) (rw (ne_eqb (n % 16) (k % 16) d) (rw (ne_eqb n k ne) (ap (λ j. bit_at (get_or words j 0) (n % 16) == 1) (sym e))))
    ]

-- one bit of one word, in the set
pub set_has : (words : List ℕ) (k w : ℕ) (b : Bool) → k < 272 → length words ≡ 17 → ((i : ℕ) → i < 16 → bit_at w i ≡ (if i == k % 16 then one b else bit_at (slice_index words (k / 16)) i)) → (n : ℕ) → n < 272 → has (slice_set words (k / 16) w) n ≡ (if n == k then b else has words n)
set_has words k w b h all bits n l =
    elim (cases_eq (n / 16) (k / 16)) [
      | inl e ↦ let at : get_or (slice_set words (k / 16) w) (n / 16) 0 ≡ w = get_or-set_at words (k / 16) (n / 16) w 0 e (omega arith) in
          rw at (same_word words k w b n e (omega arith) bits)
      | inr d ↦ let ne : n ≢ k = λ e. d (ap (λ j. j / 16) e) in
          rw (get_or-set_other words (k / 16) (n / 16) w 0 d) (rw (ne_eqb n k ne) refl)
    ]

-- the words that are not written share what they shared
pub summary_kept : (s e s' e' : List ℕ) (m m' k : ℕ)
    → ((j : ℕ) → (j == k) ≡ false → slice_index s' j ≡ slice_index s j)
    → ((j : ℕ) → (j == k) ≡ false → slice_index e' j ≡ slice_index e j)
    → ((j : ℕ) → j < 32 → bit_at m' j ≡ (if j == k then one (shares s' e' k) else bit_at m j))
    → IsSummary s e m → IsSummary s' e' m'
summary_kept s e s' e' m m' k same_s same_e bits old j l =
    elim (cases_eq j k) [
      | inl x ↦ bits j l ∙ rw (eq-eqb j k x) (ap (λ i. one (shares s' e' i)) (sym x))
      | inr d ↦ bits j l ∙ rw (ne_eqb j k d) (old j l ∙ rw (same_s j (ne_eqb j k d)) (rw (same_e j (ne_eqb j k d)) refl))
    ]

-- two bits, each 0 or 1
both_ones : (x y : ℕ) → x < 2 → y < 2 → ((x == 1) && (y == 1)) ≡ (min x y == 1)
both_ones zero zero h l = refl
both_ones zero (suc zero) h l = refl
both_ones zero (suc (suc y)) h l = absurd (omega (arith, l))
both_ones (suc zero) zero h l = refl
both_ones (suc zero) (suc zero) h l = refl
both_ones (suc zero) (suc (suc y)) h l = absurd (omega (arith, l))
both_ones (suc (suc x)) y h l = absurd (omega (arith, h))

-- what two words share, bit by bit
pub meet_bit : (s e : List ℕ) (p : ℕ) → meets s e p ≡ (bit_at (bit_and (get_or s (p / 16) 0) (get_or e (p / 16) 0)) (p % 16) == 1)
meet_bit s e p =
    let a = get_or s (p / 16) 0 in
    let b = get_or e (p / 16) 0 in
    both_ones (bit_at a (p % 16)) (bit_at b (p % 16)) (bit_at-lt a (p % 16)) (bit_at-lt b (p % 16)) ∙ ap (λ x. x == 1) (sym (bit_at_and a b (p % 16)))

zero_of : (x : ℕ) → one (not (x == 0)) ≡ 0 → x ≡ 0
zero_of x h = elim (cases_eq x 0) [
  | inl e ↦ e
  | inr d ↦ absurd (wrong (x == 0) (ne_eqb x 0 d) h)
]
  where
    wrong : (b : Bool) → b ≡ false → one (not b) ≡ 0 → ⊥
    wrong true e z = cc
    wrong false e z = cc

above_zero : (x : ℕ) → one (not (x == 0)) ≡ 1 → 0 < x
above_zero x h = elim (cases_eq x 0) [
  | inl e ↦ absurd (wrong (x == 0) (eq-eqb x 0 e) h)
  | inr d ↦ omega (arith, d)
]
  where
    wrong : (b : Bool) → b ≡ true → one (not b) ≡ 1 → ⊥
    wrong true e z = cc
    wrong false e z = cc

-- no place of a word whose mark is clear is in both
pub unmarked : (s e : List ℕ) (m p : ℕ) → IsSummary s e m → p / 16 < 32 → bit_at m (p / 16) ≡ 0 → meets s e p ≡ false
unmarked s e m p is l clear =
    let none = zero_of (bit_and (get_or s (p / 16) 0) (get_or e (p / 16) 0)) (sym (is (p / 16) l) ∙ clear) in
    meet_bit s e p ∙ ap (λ x. bit_at x (p % 16) == 1) none ∙ ap (λ x. x == 1) (bit_at-zero (p % 16))

-- a mark stands for one of the 17 words, and there the two share a bit
pub mark_within : (s e : List ℕ) (m k : ℕ) → length s ≡ 17 → IsSummary s e m → k < 32 → bit_at m k ≡ 1 → k < 17
mark_within s e m k size is l mark = elim (cases_lt k 17) [
  | inl h ↦ h
  | inr h ↦
      let past : get_or s k 0 ≡ 0 = get_or_past s k 0 (omega (arith, size, h)) in
      let some = above_zero (bit_and (get_or s k 0) (get_or e k 0)) (sym (is k l) ∙ mark) in
      let none : bit_and (get_or s k 0) (get_or e k 0) ≡ 0 = ap (λ x. bit_and x (get_or e k 0)) past in
      absurd (omega (arith, some, none))
]

pub mark_shares : (s e : List ℕ) (m k : ℕ) → IsSummary s e m → k < 32 → bit_at m k ≡ 1 → 0 < bit_and (get_or s k 0) (get_or e k 0)
mark_shares s e m k is l mark = above_zero (bit_and (get_or s k 0) (get_or e k 0)) (sym (is k l) ∙ mark)

pub no_first : (s e : List ℕ) (m : ℕ) → IsSummary s e m → m ≡ 0 → IsFirstPlace s e None
no_first s e m is none p l = unmarked s e m p is (omega (arith, l)) (ap (λ x. bit_at x (p / 16)) none ∙ bit_at-zero (p / 16))

pub some_first : (s e : List ℕ) (m k b : ℕ) → IsSummary s e m → k < 17 → ((j : ℕ) → j < k → bit_at m j ≡ 0) → b < 16 → bit_at (bit_and (get_or s k 0) (get_or e k 0)) b ≡ 1 → ((i : ℕ) → i < b → bit_at (bit_and (get_or s k 0) (get_or e k 0)) i ≡ 0) → IsFirstPlace s e (Some (16 * k + b))
some_first s e m k b is l clear lb set below =
    let word : (16 * k + b) / 16 ≡ k = omega (arith, lb) in
    let bit : (16 * k + b) % 16 ≡ b = omega (arith, lb) in
    let met : meets s e (16 * k + b) ≡ true =
    meet_bit s e (16 * k + b)
    ∙ ap (λ j. bit_at (bit_and (get_or s j 0) (get_or e j 0)) ((16 * k + b) % 16) == 1) word
    ∙ ap (λ i. bit_at (bit_and (get_or s k 0) (get_or e k 0)) i == 1) bit
    ∙ ap (λ x. x == 1) set in
    (omega (arith, l, lb), met, λ q less. earlier q less)
  where
    earlier : (q : ℕ) → q < 16 * k + b → meets s e q ≡ false
    earlier q less = elim (cases_lt (q / 16) k) [
      | inl h ↦ unmarked s e m q is (omega (arith, h, l)) (clear (q / 16) h)
      | inr h ↦
          let same : q / 16 ≡ k = omega (arith, h, less, lb) in
          let low : q % 16 < b = omega (arith, h, less, lb, same) in
          meet_bit s e q
          ∙ ap (λ j. bit_at (bit_and (get_or s j 0) (get_or e j 0)) (q % 16) == 1) same
          ∙ ap (λ x. x == 1) (below (q % 16) low)
    ]

-- ---- words that grew or shrank

-- a bit of a word of 16 bits is set, and no other changes
pub set_grows : (n k : ℕ) → k < 16 → IsWithin n (bit_or n (1 * 2 ^ k % 2 ^ 16))
set_grows n k h i at = elim (cases_eq i k) [
  | inl e ↦ ap (bit_at (bit_or n (1 * 2 ^ k % 2 ^ 16))) e ∙ bit_at_set_same w16 n k h
  | inr d ↦ bit_at_set_other w16 n k h i d ∙ at
]

pub and_shrinks : (n m : ℕ) → IsWithin (bit_and n m) n
and_shrinks n m i at = low (bit_at n i) (bit_at m i) (bit_at-lt n i) (sym (bit_at_and n m i) ∙ at)
  where
    low : (x y : ℕ) → x < 2 → min x y ≡ 1 → x ≡ 1
    low x y l e = omega (arith, l, e)

-- words that share a bit still do once their bits are within those of others
pub still_shares : (s e s' e' : List ℕ) (k : ℕ) → IsWithin (slice_index s k) (slice_index s' k) → IsWithin (slice_index e k) (slice_index e' k) → shares s e k ≡ true → shares s' e' k ≡ true
still_shares s e s' e' k ws we some = elim (cases_eq (bit_and (get_or s' k 0) (get_or e' k 0)) 0) [
  | inr d ↦ ap not (ne_eqb (bit_and (get_or s' k 0) (get_or e' k 0)) 0 d)
  | inl none ↦ absurd (apart (bit_and (get_or s k 0) (get_or e k 0)) (same_from_bits (bit_and (get_or s k 0) (get_or e k 0)) 0 (λ i. clear i none)) some)
]
  where
    apart : (x : ℕ) → x ≡ 0 → not (x == 0) ≡ true → ⊥
    apart zero e h = cc
    apart (suc x) e h = cc

    both : (a b a' b' : ℕ) → a < 2 → b < 2 → (a ≡ 1 → a' ≡ 1) → (b ≡ 1 → b' ≡ 1) → min a' b' ≡ 0 → min a b ≡ 0
    both zero b a' b' la lb fa fb z = omega arith
    both (suc a) zero a' b' la lb fa fb z = omega arith
    both (suc a) (suc b) a' b' la lb fa fb z =
        let one_a : suc a ≡ 1 = omega (arith, la) in
        let one_b : suc b ≡ 1 = omega (arith, lb) in
        let x = fa one_a in
        let y = fb one_b in
        absurd (omega (arith, x, y, z))

    clear : (i : ℕ) → bit_and (get_or s' k 0) (get_or e' k 0) ≡ 0 → bit_at (bit_and (get_or s k 0) (get_or e k 0)) i ≡ bit_at 0 i
    clear i none =
        bit_at_and (get_or s k 0) (get_or e k 0) i
        ∙ both (bit_at (get_or s k 0) i) (bit_at (get_or e k 0) i) (bit_at (get_or s' k 0) i) (bit_at (get_or e' k 0) i) (bit_at-lt (get_or s k 0) i) (bit_at-lt (get_or e k 0) i) (ws i) (we i)
        (sym (bit_at_and (get_or s' k 0) (get_or e' k 0) i) ∙ ap (λ x. bit_at x i) none ∙ bit_at-zero i)
        ∙ sym (bit_at-zero i)

-- a mark that is added where the words share a bit, when bits were set
pub summary_grown : (s e s' e' : List ℕ) (m m' k : ℕ)
    → ((j : ℕ) → (j == k) ≡ false → slice_index s' j ≡ slice_index s j)
    → ((j : ℕ) → (j == k) ≡ false → slice_index e' j ≡ slice_index e j)
    → (shares s e k ≡ true → shares s' e' k ≡ true)
    → ((j : ℕ) → j < 32 → bit_at m' j ≡ (if (j == k) && shares s' e' k then 1 else bit_at m j))
    → IsSummary s e m → IsSummary s' e' m'
summary_grown s e s' e' m m' k same_s same_e grows bits old =
    summary_kept s e s' e' m m' k same_s same_e (λ j l. bits j l ∙ at j l (j == k) refl) old
  where
    here : (a b : Bool) (x : ℕ) → x ≡ one a → (a ≡ true → b ≡ true) → (if b then 1 else x) ≡ one b
    here a true x is grow = refl
    here true false x is grow = absurd (let z = grow refl in cc)
    here false false x is grow = is

    at : (j : ℕ) → j < 32 → (b : Bool) → (j == k) ≡ b → (if b && shares s' e' k then 1 else bit_at m j) ≡ (if b then one (shares s' e' k) else bit_at m j)
    at j l false n = refl
    at j l true y = here (shares s e k) (shares s' e' k) (bit_at m j) (old j l ∙ ap (λ i. one (shares s e i)) (eqb-true j k y)) grows

-- a mark that is dropped where the words share no bit, when bits were cleared
pub summary_shrunk : (s e s' e' : List ℕ) (m m' k : ℕ)
    → ((j : ℕ) → (j == k) ≡ false → slice_index s' j ≡ slice_index s j)
    → ((j : ℕ) → (j == k) ≡ false → slice_index e' j ≡ slice_index e j)
    → (shares s' e' k ≡ true → shares s e k ≡ true)
    → ((j : ℕ) → j < 32 → bit_at m' j ≡ (if (j == k) && not (shares s' e' k) then 0 else bit_at m j))
    → IsSummary s e m → IsSummary s' e' m'
summary_shrunk s e s' e' m m' k same_s same_e shrinks bits old =
    summary_kept s e s' e' m m' k same_s same_e (λ j l. bits j l ∙ at j l (j == k) refl) old
  where
    here : (a b : Bool) (x : ℕ) → x ≡ one a → (b ≡ true → a ≡ true) → (if not b then 0 else x) ≡ one b
    here a false x is shrink = refl
    here true true x is shrink = is
    here false true x is shrink = absurd (let z = shrink refl in cc)

    at : (j : ℕ) → j < 32 → (b : Bool) → (j == k) ≡ b → (if b && not (shares s' e' k) then 0 else bit_at m j) ≡ (if b then one (shares s' e' k) else bit_at m j)
    at j l false n = refl
    at j l true y = here (shares s e k) (shares s' e' k) (bit_at m j) (old j l ∙ ap (λ i. one (shares s e i)) (eqb-true j k y)) shrinks

-- one word is written
pub set_up : (words : List ℕ) (j w : ℕ) → j < length words → IsWithin (slice_index words j) w → (k : ℕ) → IsWithin (slice_index words k) (slice_index (slice_set words j w) k)
set_up words j w h within k = elim (cases_eq k j) [
  | inl e ↦ λ i at. ap (λ x. bit_at x i) (get_or-set_at words j k w 0 e h) ∙ within i (ap (λ x. bit_at (get_or words x 0) i) (sym e) ∙ at)
  | inr d ↦ λ i at. ap (λ x. bit_at x i) (get_or-set_other words j k w 0 d) ∙ at
]

pub set_down : (words : List ℕ) (j w : ℕ) → j < length words → IsWithin w (slice_index words j) → (k : ℕ) → IsWithin (slice_index (slice_set words j w) k) (slice_index words k)
set_down words j w h within k = elim (cases_eq k j) [
  | inl e ↦ λ i at. ap (λ x. bit_at (get_or words x 0) i) e ∙ within i (sym (ap (λ x. bit_at x i) (get_or-set_at words j k w 0 e h)) ∙ at)
  | inr d ↦ λ i at. sym (ap (λ x. bit_at x i) (get_or-set_other words j k w 0 d)) ∙ at
]

pub stays_within : (n : ℕ) → IsWithin n n
stays_within n i at = at
