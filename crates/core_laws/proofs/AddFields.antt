-- A field that is the eight bits of one cell has one byte, and reading and writing it gives that byte.
use Rattle.std.proofs.Common.{ℕ, ◌+◌, ◌-◌, ◌*◌, ◌<◌, ◌≡◌, ◌||◌, ◌&&◌, Bool, true, false, cond, nat_le, nat_lt, refl, sym, ap, ◌∙◌, arith}
use Rattle.std.specs.Int.{bit_at}
use Rattle.std.proofs.lemmas.Bool.{and_from, le-leb, le-ltb, lt-ltb}
use Rattle.field_units.specs.Bits.{bit_of_byte, byte_count, first_byte, has_bit, is_partial, joined, outside, replaced}
use Rattle.field_units.specs.Field.{Field}
use Rattle.field_units.proofs.BitFacts.{from_bits-is}
use Rattle.field_units.proofs.FieldFacts.{joined_is}
use Rattle.handler_script.specs.Parts.{is_preserve, reads_first}

-- the eight bits from the first of this byte on
pub record IsByte (field : Field) (offset : ℕ) : Type 0 where
  pub first : field.bit ≡ 8 * offset
  pub width : field.width ≡ 8

pub one_byte : (field : Field) (offset : ℕ) → IsByte field offset → byte_count field ≡ 1
one_byte field offset h = let first = h.first in let width = h.width in omega arith

pub at_offset : (field : Field) (offset : ℕ) → IsByte field offset → first_byte field + 0 ≡ offset
at_offset field offset h = let first = h.first in omega arith

neither : (x y : Bool) → x ≡ false → y ≡ false → (x || y) ≡ false
neither true y p q = p
neither false y p q = q

nothing_with : (x y : Bool) → x ≡ false → (x && y) ≡ false
nothing_with true y p = cc
nothing_with false y p = refl

pub whole_byte : (field : Field) (offset : ℕ) → IsByte field offset → reads_first field 0 ≡ false
whole_byte field offset h =
    let first = h.first in
    let width = h.width in
    nothing_with (is_partial field 0) (is_preserve field.update)
    (neither (nat_lt (bit_of_byte field 0) field.bit) (nat_lt (field.bit + field.width) (bit_of_byte field 0 + 8))
    (le-ltb (bit_of_byte field 0) field.bit (omega arith)) (le-ltb (field.bit + field.width) (bit_of_byte field 0 + 8) (omega arith)))

pub joined_byte : (field : Field) (offset byte : ℕ) → IsByte field offset → byte < 256 → joined field 0 byte 0 ≡ byte
joined_byte field offset byte h small =
    let first = h.first in
    let width = h.width in
    let whole = joined_is field 0 0 8 0 byte 0 (record { low_is = omega arith; high_is = omega arith; before_is = omega arith; order = omega arith }) in
    sym whole ∙ omega arith

at_true : {X : Type 0} (b : Bool) (x y z : X) → b ≡ true → z ≡ x → z ≡ cond b x y
at_true true x y z e h = h
at_true false x y z e h = cc

pub replaced_byte : (field : Field) (offset old value : ℕ) → IsByte field offset → value < 256 → replaced field 0 old value ≡ value
replaced_byte field offset old value h small =
    let first = h.first in
    let width = h.width in
    sym (from_bits-is 8 (λ j. cond (has_bit field (bit_of_byte field 0 + j)) (bit_at value (bit_of_byte field 0 + j - field.bit)) (outside field.update (bit_at old j))) value small
    (λ j less.
    let place : j ≡ bit_of_byte field 0 + j - field.bit = omega arith in
    at_true (has_bit field (bit_of_byte field 0 + j)) (bit_at value (bit_of_byte field 0 + j - field.bit)) (outside field.update (bit_at old j)) (bit_at value j)
    (and_from (nat_le field.bit (bit_of_byte field 0 + j)) (nat_lt (bit_of_byte field 0 + j) (field.bit + field.width)) (le-leb field.bit (bit_of_byte field 0 + j) (omega arith)) (lt-ltb (bit_of_byte field 0 + j) (field.bit + field.width) (omega arith)))
    (ap (bit_at value) place)))
