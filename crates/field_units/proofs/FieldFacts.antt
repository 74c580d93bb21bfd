-- Which bits of a byte a field has, and what reading and writing its bytes comes to.
use Rattle.std.proofs.Common.{◌≡◌, ℕ, zero, suc, ◌+◌, ◌-◌, ◌*◌, ◌/◌, ◌%◌, ◌^◌, ◌<◌, ◌≤◌, min, Bool, true, false, cond, ◌||◌, nat_le, nat_lt, ◌⊎◌, inl, inr, refl, sym, ap, subst, ◌∙◌, arith}
use Rattle.std.specs.Int.{bit_at}
use Rattle.std.proofs.lemmas.Bool.{and_from, and_left, and_parts, leb-true, true≢false, and_right, and_cases, cases_lt, cond_above, cond_below, le-leb, leb-false, lt-leb, lt-ltb, le-ltb, ltb-false, ltb-true, or_cases}
use Rattle.std.proofs.lemmas.Nat.{mod_below, pow_pos}
use Rattle.std.proofs.lemmas.Nat.Bits.{bit_at_cat_low, bit_at_cat_high, bit_at-lt}
use Rattle.field_units.specs.declared.rules.UpdateRule.{UpdateRule}
use Rattle.field_units.specs.declared.rules.UpdateRule.TheVariants as update
use Rattle.field_units.specs.Field.{Field}
use Rattle.field_units.specs.Bits.{bit_of_byte, bits_in, byte_count, first_byte, from_bits, has_bit, in_span, joined, outside, read_bytes, region_bit, replaced, written}
use Rattle.field_units.specs.Laws.{HoldsBits, IsPartial, NineBytes, OldIsFree, ReadIsValue, ValueFits, WrittenBits, WrittenIsRead}
use Rattle.field_units.proofs.BitFacts.{bit_at-from_bits, bit_at-mod, bit_at-shr, bit_of_moved, cat_lt, from_bits-lt, from_bits-ext, from_bits-is, from_bits-none}

-- bits `low` up to `high` of byte k are the field's bits from `before` on
pub record Placed (field : Field) (k low high before : ℕ) : Type 0 where
  pub low_is : low ≡ field.bit - bit_of_byte field k
  pub high_is : high ≡ min (field.bit + field.width - bit_of_byte field k) 8
  pub before_is : before ≡ bit_of_byte field k - field.bit
  pub order : low < high

-- ---- one byte read

last_bit : (field : Field) (k low high before : ℕ) → Placed field k low high before → bits_in field (k + 1) ≡ before + (high - low)
last_bit field k low high before p =
    let a = p.low_is in
    let b = p.high_is in
    let c = p.before_is in
    let o = p.order in
    omega arith

first_bit : (field : Field) (k low high before : ℕ) → Placed field k low high before → bits_in field k ≡ before
first_bit field k low high before p =
    let a = p.low_is in
    let b = p.high_is in
    let c = p.before_is in
    let o = p.order in
    omega arith

place_of : (field : Field) (k low high before i : ℕ) → Placed field k low high before → before ≤ i → i < before + (high - low) → low + (i - before) ≡ (field.bit + i) % 8
place_of field k low high before i p from to =
    let a = p.low_is in
    let b = p.high_is in
    let c = p.before_is in
    let o = p.order in
    omega arith

pub joined_is : (field : Field) (k low high before byte s : ℕ) → Placed field k low high before
    → byte / 2 ^ low % 2 ^ (high - low) * 2 ^ before + s % 2 ^ before ≡ joined field k byte s
joined_is field k low high before byte s p =
    let piece = byte / 2 ^ low % 2 ^ (high - low) in
    let whole = piece * 2 ^ before + s % 2 ^ before in
    let last = last_bit field k low high before p in
    let first = first_bit field k low high before p in
    let small : piece < 2 ^ (high - low) = mod_below (byte / 2 ^ low) (2 ^ (high - low)) (pow_pos (high - low)) in
    let rest : s % 2 ^ before < 2 ^ before = mod_below s (2 ^ before) (pow_pos before) in
    let fits : whole < 2 ^ bits_in field (k + 1) = subst (λ n. whole < 2 ^ n) (sym last) (cat_lt piece s before (high - low) small) in
    from_bits-is (bits_in field (k + 1)) (λ i. cond (nat_lt i (bits_in field k)) (bit_at s i) (bit_at byte ((field.bit + i) % 8))) whole fits
    (λ i less. elim (cases_lt i (bits_in field k)) [
      | inl low_one ↦
          let below : i < before = omega arith in
          bit_at_cat_low piece before (s % 2 ^ before) i below ∙ bit_at-mod s before i below
          ∙ cond_below i (bits_in field k) (bit_at s i) (bit_at byte ((field.bit + i) % 8)) low_one
      | inr high_one ↦
          let above : before ≤ i = omega arith in
          let within : i < before + (high - low) = omega arith in
          let here : i - before < high - low = omega arith in
          bit_at_cat_high piece before (s % 2 ^ before) i rest above
          ∙ bit_at-mod (byte / 2 ^ low) (high - low) (i - before) here
          ∙ bit_at-shr byte low (i - before)
          ∙ cond_above i (bits_in field k) (bit_at s i) (bit_at byte ((field.bit + i) % 8)) (bit_at byte (low + (i - before))) high_one
          (ap (λ j. bit_at byte j) (place_of field k low high before i p above within))
    ])

-- ---- which bits a field has

has_inside : (field : Field) (p : ℕ) → field.bit ≤ p → p < field.bit + field.width → has_bit field p ≡ true
has_inside field p from to = and_from (nat_le field.bit p) (nat_lt p (field.bit + field.width)) (le-leb field.bit p from) (lt-ltb p (field.bit + field.width) to)

has_below : (field : Field) (p : ℕ) → p < field.bit → has_bit field p ≡ false
has_below field p to = and_left (nat_le field.bit p) (nat_lt p (field.bit + field.width)) (lt-leb field.bit p to)

has_above : (field : Field) (p : ℕ) → field.bit + field.width ≤ p → has_bit field p ≡ false
has_above field p from = and_right (nat_le field.bit p) (nat_lt p (field.bit + field.width)) (le-ltb p (field.bit + field.width) from)

has_not : (field : Field) (p : ℕ) → has_bit field p ≡ false → (p < field.bit) ⊎ (field.bit + field.width ≤ p)
has_not field p h = elim (and_cases (nat_le field.bit p) (nat_lt p (field.bit + field.width)) h) [
  | inl e ↦ inl (leb-false field.bit p e)
  | inr e ↦ inr (ltb-false p (field.bit + field.width) e)
]

at_true : {X : Type 0} (b : Bool) (x y z : X) → b ≡ true → z ≡ x → z ≡ cond b x y
at_true true x y z e h = h
at_true false x y z e h = cc

at_false : {X : Type 0} (b : Bool) (x y z : X) → b ≡ false → z ≡ y → z ≡ cond b x y
at_false false x y z e h = h
at_false true x y z e h = cc

-- ---- one byte written

-- bit j of byte k once it was replaced
abbrev new_bit : Field → ℕ → ℕ → ℕ → ℕ → ℕ
new_bit field k old value j =
    cond (has_bit field (bit_of_byte field k + j)) (bit_at value (bit_of_byte field k + j - field.bit)) (outside field.update (bit_at old j))

pub record Merged (result inside rest low high : ℕ) : Type 0 where
  pub below : (j : ℕ) → j < low → bit_at result j ≡ bit_at rest j
  pub here : (j : ℕ) → low ≤ j → j < high → bit_at result j ≡ bit_at inside j
  pub above : (j : ℕ) → high ≤ j → j < 8 → bit_at result j ≡ bit_at rest j

pub replaced_is : (field : Field) (k low high before old value inside rest result : ℕ)
    → Placed field k low high before → inside ≡ value / 2 ^ before % 2 ^ 8 * 2 ^ low % 2 ^ 8
    → result < 2 ^ 8 → Merged result inside rest low high → ((j : ℕ) → j < 8 → bit_at rest j ≡ outside field.update (bit_at old j))
    → result ≡ replaced field k old value
replaced_is field k low high before old value inside rest result p moved small m kept =
    let a = p.low_is in
    let b = p.high_is in
    let c = p.before_is in
    from_bits-is 8 (λ j. new_bit field k old value j) result small (λ j less. elim (cases_lt j low) [
      | inl under ↦
          at_false (has_bit field (bit_of_byte field k + j)) (bit_at value (bit_of_byte field k + j - field.bit)) (outside field.update (bit_at old j)) (bit_at result j)
          (has_below field (bit_of_byte field k + j) (omega arith)) (m.below j under ∙ kept j less)
      | inr from ↦ elim (cases_lt j high) [
        | inl to ↦
            let e : before + (j - low) ≡ bit_of_byte field k + j - field.bit = omega arith in
            at_true (has_bit field (bit_of_byte field k + j)) (bit_at value (bit_of_byte field k + j - field.bit)) (outside field.update (bit_at old j)) (bit_at result j)
            (has_inside field (bit_of_byte field k + j) (omega arith) (omega arith))
            (m.here j from to ∙ ap (λ x. bit_at x j) moved ∙ bit_of_moved value before low j from less ∙ ap (λ i. bit_at value i) e)
        | inr over ↦
            at_false (has_bit field (bit_of_byte field k + j)) (bit_at value (bit_of_byte field k + j - field.bit)) (outside field.update (bit_at old j)) (bit_at result j)
            (has_above field (bit_of_byte field k + j) (omega arith)) (m.above j over less ∙ kept j less)
      ]
    ])

small_choice : (b : Bool) (x y : ℕ) → x < 2 → y < 2 → cond b x y < 2
small_choice true x y p q = p
small_choice false x y p q = q

small_outside : (u : UpdateRule) (x : ℕ) → x < 2 → outside u x < 2
small_outside update.Preserve x h = h
small_outside update.WriteAsOnes x h = omega arith
small_outside update.WriteAsZeros x h = omega arith

bit_of_replaced : (field : Field) (k old value j : ℕ) → j < 8 → bit_at (replaced field k old value) j ≡ new_bit field k old value j
bit_of_replaced field k old value j less =
    bit_at-from_bits 8 (λ i. new_bit field k old value i)
    (λ i below. small_choice (has_bit field (bit_of_byte field k + i)) (bit_at value (bit_of_byte field k + i - field.bit)) (outside field.update (bit_at old i))
    (bit_at-lt value (bit_of_byte field k + i - field.bit)) (small_outside field.update (bit_at old i) (bit_at-lt old i)))
    j less

-- ---- bytes that are partial

or_first : (x y : Bool) → x ≡ true → (x || y) ≡ true
or_first true y e = refl
or_first false y e = cc

or_second : (x y : Bool) → y ≡ true → (x || y) ≡ true
or_second true y e = refl
or_second false y e = e

pub is_partial-is : (field : Field) (k : ℕ) → IsPartial field k
is_partial-is field k = (
  λ h. elim (or_cases (nat_lt (bit_of_byte field k) field.bit) (nat_lt (field.bit + field.width) (bit_of_byte field k + 8)) h) [
    | inl e ↦
        let less = ltb-true (bit_of_byte field k) field.bit e in
        (0, omega arith, has_below field (bit_of_byte field k + 0) (omega arith))
    | inr e ↦
        let more = ltb-true (field.bit + field.width) (bit_of_byte field k + 8) e in
        (7, omega arith, has_above field (bit_of_byte field k + 7) (omega arith))
  ],
  λ (j, less, h). elim (has_not field (bit_of_byte field k + j) h) [
    | inl to ↦ or_first (nat_lt (bit_of_byte field k) field.bit) (nat_lt (field.bit + field.width) (bit_of_byte field k + 8)) (lt-ltb (bit_of_byte field k) field.bit (omega arith))
    | inr from ↦ or_second (nat_lt (bit_of_byte field k) field.bit) (nat_lt (field.bit + field.width) (bit_of_byte field k + 8)) (lt-ltb (field.bit + field.width) (bit_of_byte field k + 8) (omega arith))
  ],
)

same_choice : (b : Bool) (x y z : ℕ) → (b ≡ false → y ≡ z) → cond b x y ≡ cond b x z
same_choice true x y z h = refl
same_choice false x y z h = h refl

same_outside : (u : UpdateRule) (x y : ℕ) → (u ≡ update.Preserve → ⊥) → outside u x ≡ outside u y
same_outside update.Preserve x y h = absurd (h refl)
same_outside update.WriteAsOnes x y h = refl
same_outside update.WriteAsZeros x y h = refl

-- ---- bits of the region

-- a bit of a byte that is replaced, or stays
spans : (s h : Bool) (j new old v o : ℕ) → (s ≡ true → bit_at new j ≡ cond h v o) → (s ≡ false → h ≡ false) → bit_at (cond s new old) j ≡ cond h v (cond s o (bit_at old j))
spans true h j new old v o f g = f refl
spans false false j new old v o f g = refl
spans false true j new old v o f g = let e = g refl in cc

span_parts : (field : Field) (b : ℕ) → in_span field b ≡ true → first_byte field ≤ b
span_parts field b h = leb-true (first_byte field) b (and_parts (nat_le (first_byte field) b) (nat_lt b (first_byte field + byte_count field)) h).0

outside_span : (field : Field) (p : ℕ) → in_span field (p / 8) ≡ false → has_bit field p ≡ false
outside_span field p h = elim (cases_lt p field.bit) [
  | inl under ↦ has_below field p under
  | inr from ↦ elim (cases_lt p (field.bit + field.width)) [
    | inr over ↦ has_above field p over
    | inl to ↦
        let starts : nat_le (first_byte field) (p / 8) ≡ true = le-leb (first_byte field) (p / 8) (omega arith) in
        let ends : nat_lt (p / 8) (first_byte field + byte_count field) ≡ true = lt-ltb (p / 8) (first_byte field + byte_count field) (omega arith) in
        let inside = and_from (nat_le (first_byte field) (p / 8)) (nat_lt (p / 8) (first_byte field + byte_count field)) starts ends in
        cc
  ]
]

pub written_bits : (field : Field) (cells : ℕ → ℕ) (value p : ℕ) → WrittenBits field cells value p
written_bits field cells value p =
    let k = p / 8 - first_byte field in
    let less : p % 8 < 8 = omega arith in
    spans (in_span field (p / 8)) (has_bit field p) (p % 8) (replaced field k (cells (p / 8)) value) (cells (p / 8)) (bit_at value (p - field.bit)) (outside field.update (region_bit cells p))
    (λ h.
    let from = span_parts field (p / 8) h in
    let e : bit_of_byte field k + p % 8 ≡ p = omega arith in
    bit_of_replaced field k (cells (p / 8)) value (p % 8) less
    ∙ ap (λ q. cond (has_bit field q) (bit_at value (q - field.bit)) (outside field.update (region_bit cells p))) e)
    (λ h. outside_span field p h)

pub old_is_free : (field : Field) (k old other value : ℕ) → OldIsFree field k old other value
old_is_free field k old other value h =
    from_bits-ext 8 (λ j. new_bit field k old value j) (λ j. new_bit field k other value j)
    (λ j less. same_choice (has_bit field (bit_of_byte field k + j)) (bit_at value (bit_of_byte field k + j - field.bit)) (outside field.update (bit_at old j)) (outside field.update (bit_at other j))
    (λ none. elim h [
      | inl whole ↦ absurd (true≢false (sym ((is_partial-is field k).1 (j, less, none)) ∙ whole))
      | inr drops ↦ same_outside field.update (bit_at old j) (bit_at other j) drops
    ]))

-- ---- the whole field

pub value_fits : (field : Field) (cells : ℕ → ℕ) → ValueFits field cells
value_fits field cells = from_bits-lt field.width (λ i. region_bit cells (field.bit + i)) (λ i less. bit_at-lt (cells ((field.bit + i) / 8)) ((field.bit + i) % 8))

pub written_is_read : (field : Field) (cells : ℕ → ℕ) (value : ℕ) → WrittenIsRead field cells value
written_is_read field cells value =
    sym (from_bits-is field.width (λ i. region_bit (written field cells value) (field.bit + i)) (value % 2 ^ field.width)
    (mod_below value (2 ^ field.width) (pow_pos field.width))
    (λ i less.
    let p = field.bit + i in
    let e : i ≡ p - field.bit = omega arith in
    let beside = cond (in_span field (p / 8)) (outside field.update (region_bit cells p)) (region_bit cells p) in
    bit_at-mod value field.width i less ∙ ap (λ q. bit_at value q) e
    ∙ at_true (has_bit field p) (bit_at value (p - field.bit)) beside (bit_at value (p - field.bit)) (has_inside field p (omega arith) (omega arith)) refl
    ∙ sym (written_bits field cells value p)))

-- the bytes that were joined give the first bits of the field
so_far_is : (field : Field) (cells : ℕ → ℕ) (n : ℕ) → read_bytes field cells n ≡ from_bits (bits_in field n) (λ i. region_bit cells (field.bit + i))
so_far_is field cells zero =
    let none : bits_in field 0 ≡ 0 = omega arith in
    from_bits-none (bits_in field 0) (λ i. region_bit cells (field.bit + i)) none
so_far_is field cells (suc n) =
    let before = so_far_is field cells n in
    let next : bits_in field (n + 1) ≡ bits_in field (suc n) = omega arith in
    let f = λ (i : ℕ). region_bit cells (field.bit + i) in
    from_bits-ext (bits_in field (n + 1)) (λ i. cond (nat_lt i (bits_in field n)) (bit_at (read_bytes field cells n) i) (bit_at (cells (field.bit / 8 + n)) ((field.bit + i) % 8))) f
    (λ i less. elim (cases_lt i (bits_in field n)) [
      | inl known ↦
          sym (cond_below i (bits_in field n) (bit_at (read_bytes field cells n) i) (bit_at (cells (field.bit / 8 + n)) ((field.bit + i) % 8)) known)
          ∙ ap (λ x. bit_at x i) before
          ∙ bit_at-from_bits (bits_in field n) f (λ j below. bit_at-lt (cells ((field.bit + j) / 8)) ((field.bit + j) % 8)) i known
      | inr found ↦
          let e : field.bit / 8 + n ≡ (field.bit + i) / 8 = omega arith in
          sym (cond_above i (bits_in field n) (bit_at (read_bytes field cells n) i) (bit_at (cells (field.bit / 8 + n)) ((field.bit + i) % 8)) (f i) found
          (ap (λ b. bit_at (cells b) ((field.bit + i) % 8)) (sym e)))
    ])
    ∙ ap (λ m. from_bits m f) next

pub read_is_value : (field : Field) (cells : ℕ → ℕ) → ReadIsValue field cells
read_is_value field cells wide =
    let all : bits_in field (byte_count field) ≡ field.width = omega arith in
    so_far_is field cells (byte_count field) ∙ ap (λ n. from_bits n (λ i. region_bit cells (field.bit + i))) all

-- ---- the bytes of a field

pub holds_bits : (field : Field) (b : ℕ) → HoldsBits field b
holds_bits field b wide = (
  λ (from, to). (8 * b - field.bit, omega arith, omega arith),
  λ (i, less, e). (omega arith, omega arith),
)

pub nine_bytes : (field : Field) → NineBytes field
nine_bytes field = (λ narrow. omega arith, λ place long. omega arith)
