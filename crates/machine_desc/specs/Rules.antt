-- The rules of a machine, part by part and item by item, each list in the order in which its rules are tested.
use Rattle.std.specs.Prelude.{ℕ, ◌+◌, ◌*◌, Bool, true, false, ◌&&◌, ◌||◌, not, ◌==◌, nat_lt, List, [], ◌∷◌, length, position, Option, Some, None, is_some, is_none, map, option_map, slice_get, if◌then◌else◌}
use Rattle.std.specs.List.{list_any}
use Rattle.acpi_regs.specs.declared.actor.Actor.{Actor}
use Rattle.acpi_regs.specs.declared.actor.Actor.TheVariants as actor
use Rattle.acpi_regs.specs.declared.actor.Side.{Side}
use Rattle.acpi_regs.specs.declared.actor.Side.TheVariants as side
use Rattle.acpi_regs.specs.declared.event.Event.{Event}
use Rattle.acpi_regs.specs.declared.event.Event.TheVariants as event
use Rattle.acpi_regs.specs.declared.event.Listed.{Listed}
use Rattle.acpi_regs.specs.Event.{is_gbl, same_event}
use Rattle.acpi_regs.specs.Geometry.{Blocks, bad_field, end_of, place_in}
use Rattle.field_units.specs.Field.{is_controller}
use Rattle.handler_script.specs.declared.fault.ScriptFault.{ScriptFault}
use Rattle.handler_script.specs.declared.fault.ScriptFault.TheVariants as script
use Rattle.handler_script.specs.declared.op.Op.{Op}
use Rattle.handler_script.specs.declared.op.Op.TheVariants as op
use Rattle.handler_script.specs.Accepts.{script_fault}
use Rattle.machine_desc.specs.declared.fault.BadMachine.{BadMachine}
use Rattle.machine_desc.specs.declared.fault.Part.TheVariants as part
use Rattle.machine_desc.specs.declared.fault.Rule.TheVariants as rule
use Rattle.machine_desc.specs.declared.fault.Spot.{Spot}
use Rattle.machine_desc.specs.declared.lists.Counts.{Counts}
use Rattle.machine_desc.specs.declared.parts.ControllerPart.{ControllerPart}
use Rattle.machine_desc.specs.declared.parts.EventPart.{EventPart}
use Rattle.machine_desc.specs.declared.parts.FieldPart.{FieldPart}
use Rattle.machine_desc.specs.declared.parts.MachineParts.{MachineParts}
use Rattle.machine_desc.specs.declared.parts.QueryPart.{QueryPart}
use Rattle.machine_desc.specs.declared.parts.RegionPart.{RegionPart}
use Rattle.machine_desc.specs.Faults.{breaks, breaks_at, first_of, in_item, in_items}
use Rattle.machine_desc.specs.Machine.{len_of, listed_part}

-- ---- Gpe and Workers

-- the GPE blocks of a description
abbrev pub blocks : MachineParts → Blocks
blocks p = record { gpe0 = p.gpe0; base1 = p.base1; gpe1 = p.gpe1 }

-- The most numbers that the blocks may end at, and the most events that may be listed: in version 1 those of 128 GPEs
-- and four fixed events, from version 2 on those of 256 (ACPI 6.5, section 4.8.4.1).
abbrev pub most_gpes : ℕ → ℕ
most_gpes version = if version == 1 then 128 else 256

abbrev pub most_events : ℕ → ℕ
most_events version = if version == 1 then 132 else 260

abbrev pub gpe_rows : ℕ → Blocks → List (Option Spot)
gpe_rows version b =
    breaks (is_some (bad_field b)) rule.BadGeometry
    ∷ breaks (nat_lt (most_gpes version) (end_of b)) rule.TooManyEvents
    ∷ []

unfoldable pub gpe_fault : ℕ → Blocks → Option BadMachine
gpe_fault version b = in_item part.Gpe 0 (first_of (gpe_rows version b))

unfoldable pub workers_fault : ℕ → Option BadMachine
workers_fault workers = in_item part.Workers 0 (breaks (nat_lt workers 1 || nat_lt 4 workers) rule.BadWorkers)

-- ---- Region

-- the region is the controller's
abbrev pub is_controllers : RegionPart → Bool
is_controllers r = is_controller r.kind

-- a region behind these, where there is a controller or not
abbrev pub region_rows : Bool → List RegionPart → RegionPart → List (Option Spot)
region_rows has_controller before r =
    breaks (r.len == 0) rule.BadRegion
    ∷ breaks (not (is_controllers r) && nat_lt 4096 r.len) rule.BadRegion
    ∷ breaks (is_controllers r && not (r.len == 256)) rule.BadRegion
    ∷ breaks (nat_lt r.len (length r.bytes)) rule.BadRegion
    ∷ breaks (is_controllers r && list_any is_controllers before) rule.BadRegion
    ∷ breaks (is_controllers r && not has_controller) rule.BadRegion
    ∷ []

abbrev pub region_fault : Bool → List RegionPart → RegionPart → Option Spot
region_fault has_controller before r = first_of (region_rows has_controller before r)

unfoldable pub regions_fault : Bool → List RegionPart → Option BadMachine
regions_fault has_controller regions = in_items part.Region (breaks (nat_lt 16 (length regions)) rule.TooMany)
    (region_fault has_controller) regions

-- ---- Field

abbrev pub field_rows : List RegionPart → FieldPart → List (Option Spot)
field_rows regions f =
    breaks (not (nat_lt f.region (length regions))) rule.UnknownRegion
    ∷ breaks (nat_lt f.width 1 || nat_lt 64 f.width) rule.BadWidth
    ∷ breaks (nat_lt (8 * len_of (slice_get regions f.region)) (f.bit + f.width)) rule.OutsideRegion
    ∷ []

abbrev pub field_rule : List RegionPart → List FieldPart → FieldPart → Option Spot
field_rule regions before f = first_of (field_rows regions f)

unfoldable pub fields_fault : List RegionPart → List FieldPart → Option BadMachine
fields_fault regions fields = in_items part.Field (breaks (nat_lt 256 (length fields)) rule.TooMany)
    (field_rule regions) fields

-- ---- what a machine knows, and what its scripts may name

abbrev pub event_of : Option ControllerPart → Option Event
event_of None = None
event_of (Some c) = Some c.event

abbrev pub is_event_of : Event → Option Event → Bool
is_event_of e None = false
is_event_of e (Some n) = same_event n e

-- the event is listed among these, or as a level event
abbrev pub is_listed : List Listed → Event → Bool
is_listed listed e = list_any (λ x. same_event x.event e) listed

abbrev pub is_level : List Listed → Event → Bool
is_level listed e = list_any (λ x. same_event x.event e && x.level) listed

-- a machine knows its listed events, the event of the Global Lock, and that of its controller
abbrev pub is_known : List Listed → Option Event → Event → Bool
is_known listed own e = is_gbl e || is_event_of e own || is_listed listed e

-- The machine forbids the operation: raise names a known event, up and down a listed one, assert and drop a listed
-- level event, and a push wants a controller.
unfoldable pub forbids : List Listed → Option Event → Op → Bool
forbids listed own (op.Raise e) = not (is_known listed own e)
forbids listed own (op.Up e) = not (is_listed listed e)
forbids listed own (op.Down e) = not (is_listed listed e)
forbids listed own (op.Assert e) = not (is_level listed e)
forbids listed own (op.Drop e) = not (is_level listed e)
forbids listed own (op.Push q) = not (is_some own)
forbids listed own _ = false

-- ---- scripts

-- the fault of a script as a rule, and its operation
abbrev pub rule_of : ScriptFault → Spot
rule_of (script.Unbalanced k) = record { rule = rule.Unbalanced; op = k }
rule_of (script.UnknownField k) = record { rule = rule.UnknownField; op = k }
rule_of (script.BadSkip k) = record { rule = rule.BadSkip; op = k }
rule_of (script.NotAllowed k) = record { rule = rule.NotAllowed; op = k }

-- a script of a side, where operations are forbidden and so many fields are there
abbrev pub script_rows : (Op → Bool) → Side → ℕ → List Op → List (Option Spot)
script_rows forbidden of_side fields ops =
    breaks_at (nat_lt 4096 (length ops)) rule.LongScript 4096
    ∷ option_map rule_of (script_fault forbidden of_side fields ops)
    ∷ []

abbrev pub script_rule : (Op → Bool) → Side → ℕ → List Op → Option Spot
script_rule forbidden of_side fields ops = first_of (script_rows forbidden of_side fields ops)

-- ---- Event

-- a general-purpose event that stands in no block
abbrev pub is_in_no_block : Blocks → Event → Bool
is_in_no_block b (event.Fixed f) = false
is_in_no_block b (event.Gpe n) = is_none (place_in b n)

-- a listed event behind these
abbrev pub event_rows : Blocks → Option Event → (Op → Bool) → ℕ → List EventPart → EventPart → List (Option Spot)
event_rows b own forbidden fields before e =
    breaks (is_in_no_block b e.event) rule.UnknownEvent
    ∷ breaks (is_listed (map listed_part before) e.event || is_event_of e.event own) rule.TakenEvent
    ∷ breaks (nat_lt 255 e.refs) rule.BadRefs
    ∷ script_rule forbidden side.Os fields e.script
    ∷ []

abbrev pub event_fault : Blocks → Option Event → (Op → Bool) → ℕ → List EventPart → EventPart → Option Spot
event_fault b own forbidden fields before e = first_of (event_rows b own forbidden fields before e)

unfoldable pub events_fault : ℕ → Blocks → Option Event → ℕ → List EventPart → Option BadMachine
events_fault version b own fields events =
    in_items part.Event (breaks (nat_lt (most_events version) (length events)) rule.TooMany)
    (event_fault b own (forbids (map listed_part events) own) fields) events

-- ---- Controller and Query

-- the controller's event is a general-purpose event of a block
abbrev pub is_in_block : Blocks → Event → Bool
is_in_block b (event.Fixed f) = false
is_in_block b (event.Gpe n) = is_some (place_in b n)

abbrev pub own_event_rule : Blocks → Option Event → Option Spot
own_event_rule b None = None
own_event_rule b (Some e) = breaks (not (is_in_block b e)) rule.UnknownEvent

unfoldable pub controller_fault : Blocks → Option Event → Option BadMachine
controller_fault b own = in_item part.Controller 0 (own_event_rule b own)

-- a handler of a query behind these
abbrev pub query_rows : (Op → Bool) → ℕ → List QueryPart → QueryPart → List (Option Spot)
query_rows forbidden fields before q =
    breaks (list_any (λ x. x.code == q.code) before) rule.TakenCode
    ∷ script_rule forbidden side.Os fields q.script
    ∷ []

abbrev pub query_fault : (Op → Bool) → ℕ → List QueryPart → QueryPart → Option Spot
query_fault forbidden fields before q = first_of (query_rows forbidden fields before q)

abbrev pub queries_of : Option ControllerPart → List QueryPart
queries_of None = []
queries_of (Some c) = c.queries

unfoldable pub queries_fault : (Op → Bool) → ℕ → List QueryPart → Option BadMachine
queries_fault forbidden fields queries = in_items part.Query (breaks (nat_lt 255 (length queries)) rule.TooMany)
    (query_fault forbidden fields) queries

-- ---- Firmware, Device and Schedule

abbrev pub firmware_rule : (Op → Bool) → ℕ → List (List Op) → List Op → Option Spot
firmware_rule forbidden fields before ops = script_rule forbidden side.Firmware fields ops

unfoldable pub firmware_fault : (Op → Bool) → ℕ → List (List Op) → Option BadMachine
firmware_fault forbidden fields firmware = in_items part.Firmware (breaks (nat_lt 8 (length firmware)) rule.TooMany)
    (firmware_rule forbidden fields) firmware

-- the first pulse of an event that may not be raised
abbrev pub unknown_pulse : List Listed → Option Event → List Event → Option ℕ
unknown_pulse listed own pulses = position (λ e. not (is_known listed own e)) pulses

abbrev pub at_pulse : ℕ → Spot
at_pulse k = record { rule = rule.UnknownEvent; op = k }

abbrev pub device_rows : List Listed → Option Event → List Event → List (Option Spot)
device_rows listed own pulses =
    breaks (nat_lt 4096 (length pulses)) rule.LongList
    ∷ option_map at_pulse (unknown_pulse listed own pulses)
    ∷ []

abbrev pub device_rule : List Listed → Option Event → List (List Event) → List Event → Option Spot
device_rule listed own before pulses = first_of (device_rows listed own pulses)

unfoldable pub devices_fault : List Listed → Option Event → List (List Event) → Option BadMachine
devices_fault listed own devices = in_items part.Device (breaks (nat_lt 8 (length devices)) rule.TooMany)
    (device_rule listed own) devices

-- so many of each kind of actor, and a controller or none
abbrev pub counts : MachineParts → Counts
counts p = record {
  workers = p.workers;
  controller = is_some p.controller;
  devices = length p.devices;
  firmware =
      length p.firmware;
}

-- the machine has the actor
abbrev pub has_actor : Counts → Actor → Bool
has_actor n actor.Int = true
has_actor n actor.Poll = true
has_actor n (actor.Worker k) = nat_lt k n.workers
has_actor n actor.Ec = n.controller
has_actor n (actor.Device k) = nat_lt k n.devices
has_actor n (actor.Firmware k) = nat_lt k n.firmware

abbrev pub step_rule : Counts → List Actor → Actor → Option Spot
step_rule n before a = breaks (not (has_actor n a)) rule.UnknownActor

unfoldable pub schedule_fault : Counts → List Actor → Option BadMachine
schedule_fault n schedule = in_items part.Schedule (breaks (nat_lt 65536 (length schedule)) rule.TooMany)
    (step_rule n) schedule

-- ---- the machine, part by part

abbrev pub machine_rows : MachineParts → List (Option BadMachine)
machine_rows p =
    gpe_fault p.version (blocks p)
    ∷ workers_fault p.workers
    ∷ regions_fault (is_some p.controller) p.regions
    ∷ fields_fault p.regions p.fields
    ∷ events_fault p.version (blocks p) (event_of p.controller) (length p.fields) p.events
    ∷ controller_fault (blocks p) (event_of p.controller)
    ∷ queries_fault (forbids (map listed_part p.events) (event_of p.controller)) (length p.fields)
    (queries_of p.controller)
    ∷ firmware_fault (forbids (map listed_part p.events) (event_of p.controller)) (length p.fields) p.firmware
    ∷ devices_fault (map listed_part p.events) (event_of p.controller) p.devices
    ∷ schedule_fault (counts p) p.schedule
    ∷ []

-- the first rule that the parts break
unfoldable pub first_fault : MachineParts → Option BadMachine
first_fault p = first_of (machine_rows p)
