-- Facts about single bits of a number.
use Rattle.std.proofs.Common.{◌≡◌, ℕ, zero, suc, ◌+◌, ◌-◌, ◌*◌, ◌/◌, ◌%◌, ◌^◌, ◌<◌, ◌≤◌, min, max, bit_and, bit_or, inl, inr, refl, sym, ap, subst, ◌∙◌, arith}
use Rattle.std.specs.Int.{bit_at, w8}
use Rattle.std.proofs.Math.Nat.{pow-suc, pow-le-pow_right}
use Rattle.std.proofs.lemmas.Bool.{cases_lt}
use Rattle.std.proofs.lemmas.Nat.{and_mask, mul-le, one_shl, or_shifted, pow-add, pow_below, pow_pos, shr-shr, shr_split, shl_whole, mod_below}
use Rattle.std.proofs.lemmas.Nat.Bits.{bit_at_and, bit_at_or, bit_at_not, bit_at_lowest, bit_at_cat_low, bit_at_cat_high, bit_at_mask_above, bit_at_mask_below, bit_at_mask_inside, bit_at-lt, same_from_bits_below}
use Rattle.field_units.specs.Bits.{from_bits}

-- ---- a number by its bits

pub from_bits-lt : (n : ℕ) (f : ℕ → ℕ) → ((i : ℕ) → i < n → f i < 2) → from_bits n f < 2 ^ n
unfolding from_bits
from_bits-lt zero f h = omega arith
from_bits-lt (suc n) f h =
    let top : f n < 2 = h n (omega arith) in
    let rest : from_bits n f < 2 ^ n = from_bits-lt n f (λ i less. h i (omega arith)) in
    let product = mul-le (f n) (2 ^ n) 1 (2 ^ n) (omega arith) (omega arith) in
    rw pow-suc (omega arith)

pub bit_at-from_bits : (n : ℕ) (f : ℕ → ℕ) → ((i : ℕ) → i < n → f i < 2) → (i : ℕ) → i < n → bit_at (from_bits n f) i ≡ f i
unfolding from_bits
bit_at-from_bits zero f h i less = absurd (omega arith)
bit_at-from_bits (suc n) f h i less =
    let rest : from_bits n f < 2 ^ n = from_bits-lt n f (λ j below. h j (omega arith)) in
    elim (cases_lt i n) [
      | inl p ↦ bit_at_cat_low (f n) n (from_bits n f) i p ∙ bit_at-from_bits n f (λ j below. h j (omega arith)) i p
      | inr q ↦
          let top : f n < 2 = h n (omega arith) in
          let none : n - n ≡ 0 = omega arith in
          let here : bit_at (f n) 0 ≡ f n = bit_at_lowest (f n) ∙ omega arith in
          let e : n ≡ i = omega arith in
          subst (λ m. bit_at (f n * 2 ^ n + from_bits n f) m ≡ f m) e (bit_at_cat_high (f n) n (from_bits n f) n rest (omega arith) ∙ ap (λ k. bit_at (f n) k) none ∙ here)
    ]

pub from_bits-ext : (n : ℕ) (f g : ℕ → ℕ) → ((i : ℕ) → i < n → f i ≡ g i) → from_bits n f ≡ from_bits n g
unfolding from_bits
from_bits-ext zero f g h = refl
from_bits-ext (suc n) f g h =
    let top : f n ≡ g n = h n (omega arith) in
    let rest = from_bits-ext n f g (λ i less. h i (omega arith)) in
    ap (λ x. x * 2 ^ n + from_bits n f) top ∙ ap (λ y. g n * 2 ^ n + y) rest

pub from_bits-none : (n : ℕ) (f : ℕ → ℕ) → n ≡ 0 → 0 ≡ from_bits n f
unfolding from_bits
from_bits-none zero f e = refl
from_bits-none (suc n) f e = absurd (omega arith)

-- a number of n bits is told by them
pub from_bits-is : (n : ℕ) (f : ℕ → ℕ) (x : ℕ) → x < 2 ^ n → ((i : ℕ) → i < n → bit_at x i ≡ f i) → x ≡ from_bits n f
from_bits-is n f x small h =
    let each : (i : ℕ) → i < n → f i < 2 = λ i less. subst (λ y. y < 2) (h i less) (bit_at-lt x i) in
    same_from_bits_below n x (from_bits n f) small (from_bits-lt n f each) (λ i less. h i less ∙ sym (bit_at-from_bits n f each i less))

pub bit_at-mod : (x n i : ℕ) → i < n → bit_at (x % 2 ^ n) i ≡ bit_at x i
bit_at-mod x n i less = sym (bit_at_cat_low (x / 2 ^ n) n (x % 2 ^ n) i less) ∙ ap (λ y. bit_at y i) (shr_split x n)

pub bit_at-shr : (x s i : ℕ) → bit_at (x / 2 ^ s) i ≡ bit_at x (s + i)
bit_at-shr x s i = ap (λ y. y % 2) (shr-shr x s i)

pub bit_at-shl : (x k i : ℕ) → k ≤ i → bit_at (x * 2 ^ k) i ≡ bit_at x (i - k)
bit_at-shl x k i h =
    let e : x * 2 ^ k + 0 ≡ x * 2 ^ k = omega arith in
    sym (ap (λ y. bit_at y i) e) ∙ bit_at_cat_high x k 0 i (pow_pos k) h

-- ---- what the code computes

pub low_bits : (x n : ℕ) → n < 64 → bit_and x (1 * 2 ^ n % 2 ^ 64 - 1) ≡ x % 2 ^ n
low_bits x n h = ap (λ m. bit_and x (m - 1)) (one_shl n 64 h) ∙ and_mask x n

pub or_joined : (p s b n : ℕ) → p < 2 ^ n → n + b ≤ 64 → b < 64 → bit_or (p * 2 ^ b % 2 ^ 64) (bit_and s (1 * 2 ^ b % 2 ^ 64 - 1)) ≡ p * 2 ^ b + s % 2 ^ b
or_joined p s b n small within less =
    ap (λ x. bit_or x (bit_and s (1 * 2 ^ b % 2 ^ 64 - 1))) (shl_whole p n b 64 small within)
    ∙ ap (λ y. bit_or (p * 2 ^ b) y) (low_bits s b less)
    ∙ or_shifted p b (s % 2 ^ b) (mod_below s (2 ^ b) (pow_pos b))

-- the mask of the bits from lo up to hi
abbrev mask : ℕ → ℕ → ℕ
mask lo hi = 1 * 2 ^ hi % 2 ^ 16 - 1 * 2 ^ lo % 2 ^ 16

mask-is : (lo hi : ℕ) → lo < hi → hi ≤ 8 → mask lo hi ≡ 2 ^ hi - 2 ^ lo
mask-is lo hi order within =
    let high = one_shl hi 16 (omega arith) in
    let low = one_shl lo 16 (omega arith) in
    ap (λ x. x - 1 * 2 ^ lo % 2 ^ 16) high ∙ ap (λ y. 2 ^ hi - y) low

pub mask_order : (lo hi : ℕ) → lo < hi → hi ≤ 8 → 1 * 2 ^ lo % 2 ^ 16 ≤ 1 * 2 ^ hi % 2 ^ 16
mask_order lo hi order within =
    let high = one_shl hi 16 (omega arith) in
    let low = one_shl lo 16 (omega arith) in
    let less : 2 ^ lo < 2 ^ hi = pow_below lo hi order in
    omega arith

-- the bits of `merge`
bit_at_parts : (r i m j : ℕ) → j < 8 → m < 2 ^ 8 → bit_at (bit_or (bit_and r (255 - m)) (bit_and i m)) j ≡ max (min (bit_at r j) (1 - bit_at m j)) (min (bit_at i j) (bit_at m j))
bit_at_parts r i m j less small =
    let flip : bit_at (255 - m) j ≡ 1 - bit_at m j = bit_at_not w8 m j small less in
    bit_at_or (bit_and r (255 - m)) (bit_and i m) j
    ∙ ap (λ x. max x (bit_at (bit_and i m) j)) (bit_at_and r (255 - m) j)
    ∙ ap (λ x. max (min (bit_at r j) x) (bit_at (bit_and i m) j)) flip
    ∙ ap (λ y. max (min (bit_at r j) (1 - bit_at m j)) y) (bit_at_and i m j)

small_mask : (lo hi : ℕ) → hi ≤ 8 → 2 ^ hi - 2 ^ lo < 2 ^ 8
small_mask lo hi within =
    let most : 2 ^ hi ≤ 2 ^ 8 = pow-le-pow_right (omega arith) within in
    let some = pow_pos lo in
    omega arith

abbrev pub merged : ℕ → ℕ → ℕ → ℕ → ℕ
merged r i lo hi = bit_or (bit_and r (255 - mask lo hi)) (bit_and i (mask lo hi))

bit_at-merged : (r i lo hi j : ℕ) → lo < hi → hi ≤ 8 → j < 8
    → bit_at (merged r i lo hi) j ≡ max (min (bit_at r j) (1 - bit_at (2 ^ hi - 2 ^ lo) j)) (min (bit_at i j) (bit_at (2 ^ hi - 2 ^ lo) j))
bit_at-merged r i lo hi j order within less =
    ap (λ m. bit_at (bit_or (bit_and r (255 - m)) (bit_and i m)) j) (mask-is lo hi order within)
    ∙ bit_at_parts r i (2 ^ hi - 2 ^ lo) j less (small_mask lo hi within)

picks_second : (x y m : ℕ) → x < 2 → y < 2 → m ≡ 1 → max (min x (1 - m)) (min y m) ≡ y
picks_second x y m p q e = omega arith

picks_first : (x y m : ℕ) → x < 2 → y < 2 → m ≡ 0 → max (min x (1 - m)) (min y m) ≡ x
picks_first x y m p q e = omega arith

pub merged_here : (r i lo hi j : ℕ) → lo < hi → hi ≤ 8 → lo ≤ j → j < hi → bit_at (merged r i lo hi) j ≡ bit_at i j
merged_here r i lo hi j order within from to =
    bit_at-merged r i lo hi j order within (omega arith)
    ∙ picks_second (bit_at r j) (bit_at i j) (bit_at (2 ^ hi - 2 ^ lo) j) (bit_at-lt r j) (bit_at-lt i j) (bit_at_mask_inside lo hi j from to)

pub merged_below : (r i lo hi j : ℕ) → lo < hi → hi ≤ 8 → j < lo → bit_at (merged r i lo hi) j ≡ bit_at r j
merged_below r i lo hi j order within to =
    bit_at-merged r i lo hi j order within (omega arith)
    ∙ picks_first (bit_at r j) (bit_at i j) (bit_at (2 ^ hi - 2 ^ lo) j) (bit_at-lt r j) (bit_at-lt i j) (bit_at_mask_below lo hi j to)

pub merged_above : (r i lo hi j : ℕ) → lo < hi → hi ≤ 8 → hi ≤ j → j < 8 → bit_at (merged r i lo hi) j ≡ bit_at r j
merged_above r i lo hi j order within from less =
    bit_at-merged r i lo hi j order within less
    ∙ picks_first (bit_at r j) (bit_at i j) (bit_at (2 ^ hi - 2 ^ lo) j) (bit_at-lt r j) (bit_at-lt i j) (bit_at_mask_above lo hi j from)

-- a piece behind the bits of a number
pub cat_lt : (p s b n : ℕ) → p < 2 ^ n → p * 2 ^ b + s % 2 ^ b < 2 ^ (b + n)
cat_lt p s b n small =
    let rest : s % 2 ^ b < 2 ^ b = mod_below s (2 ^ b) (pow_pos b) in
    let whole = mul-le (p + 1) (2 ^ b) (2 ^ n) (2 ^ b) (omega arith) (omega arith) in
    let split : 2 ^ (b + n) ≡ 2 ^ n * 2 ^ b = pow-add 2 b n ∙ omega arith in
    let spread : (p + 1) * 2 ^ b ≡ p * 2 ^ b + 2 ^ b = omega arith in
    omega arith

-- bit j of eight bits of a value from `before` on, moved up by `low`
pub bit_of_moved : (value before low j : ℕ) → low ≤ j → j < 8 → bit_at (value / 2 ^ before % 2 ^ 8 * 2 ^ low % 2 ^ 8) j ≡ bit_at value (before + (j - low))
bit_of_moved value before low j from less =
    bit_at-mod (value / 2 ^ before % 2 ^ 8 * 2 ^ low) 8 j less
    ∙ bit_at-shl (value / 2 ^ before % 2 ^ 8) low j from
    ∙ bit_at-mod (value / 2 ^ before) 8 (j - low) (omega arith)
    ∙ bit_at-shr value before (j - low)
