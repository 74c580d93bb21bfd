-- What the controller does with one byte of the host's, by the command that is half given (ACPI 6.5, section 12.3).
--
-- The commands are 128 to 132: 80h RD_EC, 81h WR_EC, 82h BE_EC, 83h BD_EC, 84h QR_EC.
use Rattle.std.specs.Prelude.{ℕ, ◌==◌, nat_le, Bool, true, false, ◌&&◌, List, [], ◌∷◌, drop, slice_index, slice_set, Option, Some, if◌then◌else◌}
use Rattle.acpi_regs.specs.declared.entry.Effect.{Effect}
use Rattle.acpi_regs.specs.declared.entry.Effect.TheVariants as effect
use Rattle.ec_chip.specs.declared.parts.Half.{Half}
use Rattle.ec_chip.specs.declared.parts.Half.TheVariants as half
use Rattle.ec_chip.specs.declared.parts.Port.{Port}
use Rattle.ec_chip.specs.declared.parts.Port.TheVariants as port

-- a byte that a command allows next: a command in EC_SC where none is half given, else its next byte in EC_DATA
abbrev pub allows : Half → Port → ℕ → Bool
allows half.Nothing port.Sc byte = nat_le 128 byte && nat_le byte 132
allows half.Nothing port.Data byte = false
allows _ port.Sc byte = false
allows _ port.Data byte = true

-- the first code, or 00 where there is none (ACPI 6.5, section 12.3.5)
abbrev pub first_code : List ℕ → ℕ
first_code [] = 0
first_code (q ∷ later) = q

-- what it does with a command: burst enable is acknowledged with 90h, and a query is given the first code
abbrev pub command_effect : List ℕ → ℕ → Effect
command_effect codes byte =
    if byte == 130 then effect.Out 144
    else (if byte == 132 then effect.Out (first_code codes) else effect.Taken)

-- what it does with a byte
abbrev pub effect_of : Half → List ℕ → List ℕ → ℕ → Effect
effect_of half.Nothing cells codes byte = command_effect codes byte
effect_of half.Read cells codes byte = effect.Out (slice_index cells byte)
effect_of half.Write cells codes byte = effect.Taken
effect_of (half.WriteAt address) cells codes byte = effect.Put

-- the command that is half given behind it
abbrev pub half_after : Half → ℕ → Half
half_after half.Nothing byte =
    if byte == 128 then half.Read else (if byte == 129 then half.Write else half.Nothing)
half_after half.Read byte = half.Nothing
half_after half.Write byte = half.WriteAt byte
half_after (half.WriteAt address) byte = half.Nothing

-- the last byte of a write stands in its cell, and no other cell changes
abbrev pub cells_after : Half → ℕ → List ℕ → List ℕ
cells_after (half.WriteAt address) byte cells = slice_set cells address byte
cells_after _ byte cells = cells

-- a query takes the first code out of the list
abbrev pub codes_after : Half → ℕ → List ℕ → List ℕ
codes_after half.Nothing byte codes = if byte == 132 then drop 1 codes else codes
codes_after _ byte codes = codes

-- burst enable turns burst mode on, and burst disable turns it off (ACPI 6.5, sections 12.3.3 and 12.3.4)
abbrev pub burst_after : Half → ℕ → Bool → Bool
burst_after half.Nothing byte old =
    if byte == 130 then true else (if byte == 131 then false else old)
burst_after _ byte old = old

-- what is put out stands until it is read or something else is put out
abbrev pub output_after : Effect → Option ℕ → Option ℕ
output_after (effect.Out v) old = Some v
output_after _ old = old
