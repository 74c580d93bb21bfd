-- Which bits of a region a field has (ACPI 6.5, section 19.6.48): bit i of the field is bit `field.bit + i` of the
-- region, and bit p of a region is bit p % 8 of its byte p / 8. Bytes are given by their offset in the region, as
-- `cells b`.
use Rattle.std.specs.Prelude.{ℕ, zero, suc, ◌+◌, ◌-◌, ◌*◌, ◌/◌, ◌%◌, ◌^◌, min, Bool, ◌&&◌, ◌||◌, nat_le, nat_lt, if◌then◌else◌}
use Rattle.std.specs.Int.{bit_at}
use Rattle.field_units.specs.declared.rules.UpdateRule.{UpdateRule}
use Rattle.field_units.specs.declared.rules.UpdateRule.TheVariants as update
use Rattle.field_units.specs.Field.{Field}

-- the number of n bits whose bit i is f i
unfoldable pub from_bits : ℕ → (ℕ → ℕ) → ℕ
from_bits zero f = 0
from_bits (suc n) f = f n * 2 ^ n + from_bits n f

-- bit p of a region
abbrev pub region_bit : (ℕ → ℕ) → ℕ → ℕ
region_bit cells p = bit_at (cells (p / 8)) (p % 8)

-- the value of a field
abbrev pub field_value : Field → (ℕ → ℕ) → ℕ
field_value field cells = from_bits field.width (λ i. region_bit cells (field.bit + i))

-- bit p of the region is one of the field
abbrev pub has_bit : Field → ℕ → Bool
has_bit field p = nat_le field.bit p && nat_lt p (field.bit + field.width)

-- the first byte that holds a bit of the field, and how many do
abbrev pub first_byte : Field → ℕ
first_byte field = field.bit / 8

abbrev pub byte_count : Field → ℕ
byte_count field = (field.bit + field.width - 1) / 8 - field.bit / 8 + 1

-- the first bit of the region in byte k of the field
abbrev pub bit_of_byte : Field → ℕ → ℕ
bit_of_byte field k = 8 * (field.bit / 8 + k)

-- byte k of the field has a bit outside it
abbrev pub is_partial : Field → ℕ → Bool
is_partial field k = nat_lt (bit_of_byte field k) field.bit
    || nat_lt (field.bit + field.width) (bit_of_byte field k + 8)

-- how many bits of the field stand in its first n bytes
abbrev pub bits_in : Field → ℕ → ℕ
bits_in field n = min field.width (bit_of_byte field n - field.bit)

-- the field's bits of byte k, joined to those of the bytes before
abbrev pub joined : Field → ℕ → ℕ → ℕ → ℕ
joined field k byte so_far =
    from_bits (bits_in field (k + 1))
    (λ i. if nat_lt i (bits_in field k) then bit_at so_far i else bit_at byte ((field.bit + i) % 8))

-- what reading the first n bytes of a field in order gives
abbrev pub read_bytes : Field → (ℕ → ℕ) → ℕ → ℕ
read_bytes field cells zero = 0
read_bytes field cells (suc n) = joined field n (cells (field.bit / 8 + n)) (read_bytes field cells n)

-- what a write makes of a bit outside the field
abbrev pub outside : UpdateRule → ℕ → ℕ
outside update.Preserve old = old
outside update.WriteAsOnes old = 1
outside update.WriteAsZeros old = 0

-- byte k of a field once a value is written: the field's bits are those of the value, the others go by the update rule
abbrev pub replaced : Field → ℕ → ℕ → ℕ → ℕ
replaced field k old value =
    from_bits 8 (λ j. if has_bit field (bit_of_byte field k + j) then bit_at value
    (bit_of_byte field k + j - field.bit) else outside field.update (bit_at old j))

-- byte b of the region holds a bit of the field
abbrev pub in_span : Field → ℕ → Bool
in_span field b = nat_le (first_byte field) b && nat_lt b (first_byte field + byte_count field)

-- the bytes of a region once a value was written: those of the field are replaced, and the others stay
abbrev pub written : Field → (ℕ → ℕ) → ℕ → ℕ → ℕ
written field cells value b = if in_span field b then replaced field (b - first_byte field) (cells b) value else cells b
