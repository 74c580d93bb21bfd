-- The events of two GPE blocks and their places, each of which gives the other (ACPI 6.5, section 4.8.4.1).
use Rattle.std.specs.Prelude.{◌≡◌, ℕ, ◌+◌, ◌-◌, ◌*◌, ◌<◌, ◌≤◌, ◌==◌, IsSome, Some, None, if◌then◌else◌}
use Rattle.acpi_regs.specs.declared.geometry.GpePlace.{GpePlace}
use Rattle.acpi_regs.specs.Geometry.{Blocks, bad_field, end_of, place_in}

-- the event at a place
abbrev pub event_at : Blocks → GpePlace → ℕ
event_at b p = if p.block == 0 then 8 * p.byte + p.bit else b.base1 + (8 * p.byte + p.bit)

-- the length of a place's block
abbrev pub length_of : Blocks → GpePlace → ℕ
length_of b p = if p.block == 0 then b.gpe0 else b.gpe1

-- the place is a bit of the status register, which is the front half of its block
pub record IsPlace (b : Blocks) (p : GpePlace) : Type 0 where
  pub block : p.block < 2
  pub bit : p.bit < 8
  pub byte : 2 * p.byte < length_of b p

-- the event at the place of an event is that event
abbrev pub PlacesEvents : Type 0
PlacesEvents =
    (b : Blocks) (n : ℕ) (p : GpePlace) → bad_field b ≡ None → place_in b n ≡ Some p → IsPlace b p × (event_at b p ≡ n)

-- each place has its event, so no two places have the same event
abbrev pub FillsPlaces : Type 0
FillsPlaces = (b : Blocks) (p : GpePlace) → bad_field b ≡ None → IsPlace b p → place_in b (event_at b p) ≡ Some p

-- an event at or after the end has no place, and the one before the end has one
abbrev pub EndsBlocks : Type 0
EndsBlocks = (b : Blocks) (n : ℕ) → bad_field b ≡ None → end_of b ≤ n → place_in b n ≡ None

abbrev pub EndsTight : Type 0
EndsTight = (b : Blocks) → bad_field b ≡ None → 0 < end_of b → IsSome (place_in b (end_of b - 1))
