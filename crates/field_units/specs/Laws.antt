-- What the definitions of fields come to, in sentences.
use Rattle.std.specs.Prelude.{◌≡◌, ◌↔◌, ℕ, ◌+◌, ◌/◌, ◌%◌, ◌-◌, ◌^◌, ◌<◌, ◌≤◌, ◌⊎◌, true, false, if◌then◌else◌}
use Rattle.std.specs.Int.{bit_at}
use Rattle.field_units.specs.Field.{Field}
use Rattle.field_units.specs.declared.rules.UpdateRule.TheVariants as update
use Rattle.field_units.specs.Bits.{bit_of_byte, byte_count, field_value, first_byte, has_bit, in_span, is_partial, outside, read_bytes, region_bit, replaced, written}

-- reading the bytes of a field in order gives its value
abbrev pub ReadIsValue : Field → (ℕ → ℕ) → Type 0
ReadIsValue field cells = 1 ≤ field.width → read_bytes field cells (byte_count field) ≡ field_value field cells

-- the value of a field has no more bits than the field
abbrev pub ValueFits : Field → (ℕ → ℕ) → Type 0
ValueFits field cells = field_value field cells < 2 ^ field.width

-- a field has the value that was written to it, modulo 2 to its width
abbrev pub WrittenIsRead : Field → (ℕ → ℕ) → ℕ → Type 0
WrittenIsRead field cells value = field_value field (written field cells value) ≡ value % 2 ^ field.width

-- bit p of the region once a value was written: the value's bit where the field has it; what the update rule makes of
-- the old bit where the field has another bit of its byte; else the old bit
abbrev pub WrittenBits : Field → (ℕ → ℕ) → ℕ → ℕ → Type 0
WrittenBits field cells value p =
    region_bit (written field cells value) p
    ≡ (if has_bit field p then bit_at value (p - field.bit) else
    (if in_span field (p / 8) then outside field.update (region_bit cells p) else region_bit cells p))

-- what stood in a byte matters only where it is partial and the rule preserves its other bits
abbrev pub OldIsFree : Field → ℕ → ℕ → ℕ → ℕ → Type 0
OldIsFree field k old other value =
    (is_partial field k ≡ false) ⊎ (field.update ≡ update.Preserve → ⊥)
    → replaced field k old value ≡ replaced field k other value

-- the bytes of a field are those that hold a bit of it
abbrev pub HoldsBits : Field → ℕ → Type 0
HoldsBits field b = 1 ≤ field.width
    → ((first_byte field ≤ b) × (b < first_byte field + byte_count field)) ↔
    ((i : ℕ) × (i < field.width) × ((field.bit + i) / 8 ≡ b))

-- a byte is partial exactly where one of its eight bits is none of the field's
abbrev pub IsPartial : Field → ℕ → Type 0
IsPartial field k = (is_partial field k ≡ true) ↔
    ((j : ℕ) × (j < 8) × (has_bit field (bit_of_byte field k + j) ≡ false))

-- a field of 64 bits that begins at bit 4 of a byte has 9 bytes, and no field has more
abbrev pub NineBytes : Field → Type 0
NineBytes field = (field.width ≤ 64 → byte_count field ≤ 9)
    × (field.bit % 8 ≡ 4 → field.width ≡ 64 → byte_count field ≡ 9)
