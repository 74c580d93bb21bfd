-- The bytes of a machine's cells in memory, region by region (ACPI 6.5, section 5.5.2.4). The controller keeps its own.
use Rattle.std.specs.Prelude.{ℕ, ◌≡◌, ◌<◌, Bool, true, false, List, [], length, map, Option, Some, None, slice_get, slice_index, slice_set, unwrap_or, if◌then◌else◌}
use Rattle.acpi_regs.specs.declared.entry.Cell.{Cell}
use Rattle.acpi_regs.specs.declared.entry.Entry.{Entry}
use Rattle.field_units.specs.Field.{RegionData, is_controller}
use Rattle.machine_desc.specs.Machine.{MachineData}
use Rattle.machine_history.specs.Acts.{is_memory_cell}
use Rattle.machine_history.specs.Values.{value}

abbrev pub bytes_in : List (List ℕ) → ℕ → List ℕ
bytes_in regions r = unwrap_or (slice_get regions r) []

-- the byte of a cell, and 0 where there is none
abbrev pub byte_in : List (List ℕ) → Cell → ℕ
byte_in regions c = slice_index (bytes_in regions c.region) c.offset

-- there is such a cell
abbrev pub IsIn : List (List ℕ) → Cell → Type 0
IsIn regions c = c.offset < length (bytes_in regions c.region)

-- a byte is written to a cell
abbrev pub written : List (List ℕ) → Cell → ℕ → List (List ℕ)
written regions c v = slice_set regions c.region (slice_set (bytes_in regions c.region) c.offset v)

-- a region's bytes at the start; none where the controller keeps them
abbrev pub kept_bytes : RegionData → List ℕ
kept_bytes region = if is_controller region.kind then [] else region.cells

-- the bytes at the start
abbrev pub first_bytes : MachineData → List (List ℕ)
first_bytes m = map kept_bytes m.regions

abbrev pub is_controllers : Option RegionData → Bool
is_controllers None = false
is_controllers (Some region) = is_controller region.kind

pub record IsCells (m : MachineData) (past : List Entry) (cells : List (List ℕ)) : Type 0 where
  pub within : (c : Cell) → is_memory_cell m c ≡ true → IsIn cells c
  pub are : (c : Cell) → is_memory_cell m c ≡ true → byte_in cells c ≡ value m past c
