-- The acts on the bytes of a field.
use Rattle.std.specs.Prelude.{ℕ, ◌+◌, Bool, true, false, ◌&&◌, ◌||◌, not, nat_lt}
use Rattle.acpi_regs.specs.declared.entry.Cell.{Cell}
use Rattle.acpi_regs.specs.declared.entry.Request.TheVariants as request
use Rattle.field_units.specs.declared.rules.RegionKind.{RegionKind}
use Rattle.field_units.specs.declared.rules.RegionKind.TheVariants as kind
use Rattle.field_units.specs.declared.rules.UpdateRule.{UpdateRule}
use Rattle.field_units.specs.declared.rules.UpdateRule.TheVariants as update
use Rattle.field_units.specs.Bits.{byte_count, first_byte, is_partial}
use Rattle.field_units.specs.Field.{Field, is_controller, needs_lock}
use Rattle.handler_script.specs.declared.act.Act.{Act}
use Rattle.handler_script.specs.declared.act.Act.TheVariants as act

abbrev pub is_preserve : UpdateRule → Bool
is_preserve update.Preserve = true
is_preserve update.WriteAsOnes = false
is_preserve update.WriteAsZeros = false

-- an access needs the lock where its field does, or where a hold is open
abbrev pub access_needs : Field → Bool → Bool
access_needs field held = needs_lock field || held

-- an op on the field takes the lock for itself
abbrev pub takes_lock : Field → Bool → Bool
takes_lock field held = needs_lock field && not held

-- an op on the field stands in burst mode of the controller
abbrev pub bursts : Field → Bool
bursts field = is_controller field.kind && nat_lt 1 (byte_count field)

-- byte k is read before it is written
abbrev pub reads_first : Field → ℕ → Bool
reads_first field k = is_partial field k && is_preserve field.update

abbrev pub cell_of : Field → ℕ → Cell
cell_of field k = record { region = field.region; offset = first_byte field + k }

-- a byte of a field is read, or written: in memory as a cell, in the controller's region by a request
abbrev pub read_in : RegionKind → Field → ℕ → Act
read_in kind.Memory field k = act.Read (cell_of field k)
read_in kind.Controller field k = act.Ask (request.Rd (first_byte field + k))

abbrev pub read_act : Field → ℕ → Act
read_act field k = read_in field.kind field k

abbrev pub write_in : RegionKind → Field → ℕ → ℕ → Act
write_in kind.Memory field k byte = act.Write (cell_of field k) byte
write_in kind.Controller field k byte = act.Ask (request.Wr (first_byte field + k) byte)

abbrev pub write_act : Field → ℕ → ℕ → Act
write_act field k byte = write_in field.kind field k byte
