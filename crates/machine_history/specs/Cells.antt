-- The cells of a machine, region by region (ACPI 6.5, section 5.5.2.4).
use Rattle.std.specs.Prelude.{ℕ, ◌<◌, length, Option, Some, None, slice_get, slice_index}
use Rattle.acpi_regs.specs.declared.entry.Cell.{Cell}
use Rattle.field_units.specs.Field.{RegionData}
use Rattle.machine_desc.specs.Machine.{MachineData}

-- how many cells a region has
abbrev pub cells_in : Option RegionData → ℕ
cells_in None = 0
cells_in (Some region) = length region.cells

-- the machine has this cell
abbrev pub IsCell : MachineData → Cell → Type 0
IsCell m c = c.offset < cells_in (slice_get m.regions c.region)

-- the byte that the cells of a region have at an offset, and 0 past their end
abbrev pub byte_at : Option RegionData → ℕ → ℕ
byte_at None offset = 0
byte_at (Some region) offset = slice_index region.cells offset

-- the description's byte of a cell
abbrev pub first_byte : MachineData → Cell → ℕ
first_byte m c = byte_at (slice_get m.regions c.region) c.offset
