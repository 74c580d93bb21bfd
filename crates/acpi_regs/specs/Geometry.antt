-- Where the bits of general-purpose events are (ACPI 6.5, section 4.8.4.1).
--
-- A block of n bytes is a status register and an enable register of n / 2 bytes each, so it has 4n events.
-- Bit b of byte k of the status register is event 8k + b, to which the base is added in the second block.
use Rattle.std.specs.Prelude.{ℕ, ◌+◌, ◌-◌, ◌*◌, ◌/◌, ◌%◌, ◌==◌, ◌||◌, ◌&&◌, Bool, nat_lt, nat_le, Option, Some, None, if◌then◌else◌}
use Rattle.acpi_regs.specs.declared.geometry.GeometryField.{GeometryField}
use Rattle.acpi_regs.specs.declared.geometry.GeometryField.TheVariants as geometry_field
use Rattle.acpi_regs.specs.declared.geometry.GpePlace.{GpePlace}

-- the lengths of the two blocks in bytes, and the number of the first event of the second
pub record Blocks : Type 0 where
  pub gpe0 : ℕ
  pub base1 : ℕ
  pub gpe1 : ℕ

-- the length of a block is odd or above 64 bytes
abbrev pub is_bad_length : ℕ → Bool
is_bad_length n = (n % 2 == 1) || nat_lt 64 n

-- the second block is not empty, and begins before the end of the first or ends after event 255
abbrev pub is_bad_base : Blocks → Bool
is_bad_base b = nat_lt 0 b.gpe1 && (nat_lt b.base1 (4 * b.gpe0) || nat_lt 256 (b.base1 + 4 * b.gpe1))

-- the first of the three numbers that is wrong
abbrev pub bad_field : Blocks → Option GeometryField
bad_field b =
    if is_bad_length b.gpe0 then Some geometry_field.Gpe0
    else (if is_bad_length b.gpe1 then Some geometry_field.Gpe1
    else (if is_bad_base b then Some geometry_field.Base1 else None))

-- the event is one of the first block, or of the second
abbrev pub is_in_first : Blocks → ℕ → Bool
is_in_first b n = nat_lt n (4 * b.gpe0)

abbrev pub is_in_second : Blocks → ℕ → Bool
is_in_second b n = nat_le b.base1 n && nat_lt n (b.base1 + 4 * b.gpe1)

-- the place of the k-th event of a block
abbrev pub place_at : (block k : ℕ) → GpePlace
place_at block k = record { block = block; byte = k / 8; bit = k % 8 }

-- the place of an event, if it is in a block
abbrev pub place_in : Blocks → ℕ → Option GpePlace
place_in b n =
    if is_in_first b n then Some (place_at 0 n)
    else (if is_in_second b n then Some (place_at 1 (n - b.base1)) else None)

-- the greatest event of the two blocks plus 1, or 0 if they have none
abbrev pub end_of : Blocks → ℕ
end_of b = if nat_lt 0 b.gpe1 then b.base1 + 4 * b.gpe1 else 4 * b.gpe0
