-- What the acts of a machine's scripts may name: what its rules see to.
use Rattle.std.specs.Prelude.{Bool, true, false, ◌&&◌, not, nat_lt, Option, Some, None, slice_get}
use Rattle.acpi_regs.specs.declared.entry.Cell.{Cell}
use Rattle.acpi_regs.specs.declared.entry.Request.{Request}
use Rattle.acpi_regs.specs.declared.entry.Request.TheVariants as request
use Rattle.field_units.specs.Field.{RegionData, is_controller}
use Rattle.handler_script.specs.declared.act.Act.{Act}
use Rattle.handler_script.specs.declared.act.Act.TheVariants as act
use Rattle.machine_desc.specs.Machine.{MachineData}
use Rattle.machine_history.specs.Cells.{cells_in}

abbrev pub is_memory : Option RegionData → Bool
is_memory None = false
is_memory (Some region) = not (is_controller region.kind)

-- a cell of a memory region
abbrev pub is_memory_cell : MachineData → Cell → Bool
is_memory_cell m c = is_memory (slice_get m.regions c.region)
    && nat_lt c.offset (cells_in (slice_get m.regions c.region))

-- an address of the controller's space
abbrev pub is_addressed : Request → Bool
is_addressed (request.Rd x) = nat_lt x 256
is_addressed (request.Wr x v) = nat_lt x 256
is_addressed _ = true

-- Bytes are read and written in memory alone, and asked of the controller at its addresses. No code that is pushed is
-- 0.
abbrev pub fits : MachineData → Bool → Act → Bool
fits m needs (act.Read c) = is_memory_cell m c
fits m needs (act.Write c v) = is_memory_cell m c
fits m needs (act.Ask r) = is_addressed r
fits m needs (act.Push q) = nat_lt 0 q
fits m needs _ = true
