-- The blocks of a geometry.
use Rattle.acpi_regs.specs.declared.geometry.GpeGeometry.{GpeGeometry}
use Rattle.acpi_regs.specs.Geometry.{Blocks}

abbrev pub blocks_of : GpeGeometry → Blocks
blocks_of g = record { gpe0 = g.gpe0_len; base1 = g.gpe1_base; gpe1 = g.gpe1_len }
