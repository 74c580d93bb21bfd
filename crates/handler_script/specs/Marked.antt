-- Which acts of a plan are marked as needing the lock.
use Rattle.std.specs.Prelude.{◌≡◌, ℕ, ◌+◌, ◌==◌, Bool, true, false, ◌&&◌, ◌||◌, not, nat_le, nat_lt, List, ⊤}
use Rattle.std.specs.List.{list_all}
use Rattle.acpi_regs.specs.declared.entry.Cell.{Cell}
use Rattle.acpi_regs.specs.declared.entry.Request.{Request}
use Rattle.acpi_regs.specs.declared.entry.Request.TheVariants as request
use Rattle.field_units.specs.Bits.{byte_count, first_byte}
use Rattle.field_units.specs.Field.{Field, is_controller, needs_lock}
use Rattle.handler_script.specs.declared.act.Act.{Act}
use Rattle.handler_script.specs.declared.act.Act.TheVariants as act
use Rattle.handler_script.specs.Locked.{held_by}
use Rattle.handler_script.specs.Parts.{bursts}
use Rattle.handler_script.specs.Plan.{Plan, Do, End}

-- the cell holds a bit of the field
abbrev pub is_of : Cell → Field → Bool
is_of c field = (field.region == c.region)
    && (nat_le (first_byte field) c.offset && nat_lt c.offset (first_byte field + byte_count field))

-- each field that has a bit in the cell needs the lock
abbrev pub is_locked_cell : List Field → Cell → Bool
is_locked_cell fields c = list_all (λ field. not (is_of c field) || needs_lock field) fields

-- the request moves a byte of the field, or opens or ends burst mode for it
abbrev pub is_for : Request → Field → Bool
is_for (request.Rd x) field = is_controller field.kind
    && (nat_le (first_byte field) x && nat_lt x (first_byte field + byte_count field))
is_for (request.Wr x byte) field = is_controller field.kind
    && (nat_le (first_byte field) x && nat_lt x (first_byte field + byte_count field))
is_for request.Be field = bursts field
is_for request.Bd field = bursts field
is_for request.Qr field = false

-- each field that makes such a request needs the lock; a query, which no field makes, needs it if the controller does
abbrev pub is_locked_request : Bool → List Field → Request → Bool
is_locked_request glk fields request.Qr = glk
is_locked_request glk fields r = list_all (λ field. not (is_for r field) || needs_lock field) fields

-- the act reads or writes a cell, or asks the controller
abbrev pub accesses : Act → Bool
accesses (act.Read c) = true
accesses (act.Write c byte) = true
accesses (act.Ask r) = true
accesses _ = false

-- the act needs the lock wherever it stands: only fields that need the lock have its cell or make its request, or it
-- is a query of a controller that needs the lock
abbrev pub always_needs : Bool → List Field → Act → Bool
always_needs glk fields (act.Read c) = is_locked_cell fields c
always_needs glk fields (act.Write c byte) = is_locked_cell fields c
always_needs glk fields (act.Ask r) = is_locked_request glk fields r
always_needs glk fields _ = false

-- Each act that needs the lock wherever it stands is marked. While the lock is held each access is marked; no other
-- act is.
abbrev pub Marked : Bool → List Field → Bool → Plan → Type 0
Marked glk fields held End = ⊤
Marked glk fields held (Do needs a next) =
    ((not (always_needs glk fields a) || needs) ≡ true)
    × (needs ≡ (accesses a && held))
    × ((byte : ℕ) → Marked glk fields (held_by a held) (next byte))
