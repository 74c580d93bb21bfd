-- The canonical text of a machine: its description with the names in byte order and no space. It is the JSON text of
-- a value, member by member.
use Rattle.std.specs.Prelude.{ℕ, ◌/◌, ◌%◌, ◌==◌, ◌&&◌, Bool, true, false, List, [], ◌∷◌, length, map, Option, Some, None, if◌then◌else◌, codes, decimal}
use Rattle.serde_json.specs.Data.{Data, null, boolean, number, unsigned, string, array, object, no_members, member}
use Rattle.serde_json.specs.View.{items_of}
use Rattle.serde_json.specs.Written.{compact_text}
use Rattle.acpi_regs.specs.declared.actor.Actor.{Actor}
use Rattle.acpi_regs.specs.declared.actor.Actor.TheVariants as actor
use Rattle.acpi_regs.specs.declared.event.Event.{Event}
use Rattle.acpi_regs.specs.declared.event.Event.TheVariants as event
use Rattle.acpi_regs.specs.declared.event.Fixed.{Fixed}
use Rattle.acpi_regs.specs.declared.event.Fixed.TheVariants as fixed
use Rattle.acpi_regs.specs.declared.name.MethodName.TheVariants as name
use Rattle.acpi_regs.specs.Names.{digit, spelling}
use Rattle.field_units.specs.declared.rules.RegionKind.{RegionKind}
use Rattle.field_units.specs.declared.rules.RegionKind.TheVariants as kind
use Rattle.field_units.specs.declared.rules.UpdateRule.{UpdateRule}
use Rattle.field_units.specs.declared.rules.UpdateRule.TheVariants as update
use Rattle.field_units.specs.Field.{Field, RegionData, is_lock}
use Rattle.handler_script.specs.declared.op.Op.{Op}
use Rattle.handler_script.specs.declared.op.Op.TheVariants as op
use Rattle.machine_desc.specs.declared.machine.ControllerDesc.{ControllerDesc}
use Rattle.machine_desc.specs.declared.machine.ListedEvent.{ListedEvent}
use Rattle.machine_desc.specs.declared.machine.Query.{Query}
use Rattle.machine_desc.specs.Machine.{MachineData}

-- ---- values

abbrev pub number_json : ℕ → Data
number_json n = number (unsigned n)

abbrev pub list_json : List Data → Data
list_json ds = array (items_of ds)

-- ---- names

abbrev pub fixed_name : Fixed → List ℕ
fixed_name fixed.Tmr = codes "tmr"
fixed_name fixed.Gbl = codes "gbl"
fixed_name fixed.Pwr = codes "pwr"
fixed_name fixed.Slp = codes "slp"
fixed_name fixed.Rtc = codes "rtc"

-- an event, a GPE as `gxx`
abbrev pub event_name : Event → List ℕ
event_name (event.Fixed f) = fixed_name f
event_name (event.Gpe n) = 103 ∷ digit (n / 16) ∷ digit (n % 16) ∷ []

-- a listed event, a GPE by the name of its handler
abbrev pub listed_name : Event → Bool → List ℕ
listed_name (event.Fixed f) level = fixed_name f
listed_name (event.Gpe n) true = spelling (name.Level n)
listed_name (event.Gpe n) false = spelling (name.Edge n)

abbrev pub query_name : ℕ → List ℕ
query_name code = spelling (name.Query code)

abbrev pub actor_name : Actor → List ℕ
actor_name actor.Int = codes "int"
actor_name actor.Poll = codes "poll"
actor_name actor.Ec = codes "ec"
actor_name (actor.Worker k) = 119 ∷ decimal k
actor_name (actor.Device k) = 100 ∷ decimal k
actor_name (actor.Firmware k) = 102 ∷ decimal k

abbrev pub kind_name : RegionKind → List ℕ
kind_name kind.Memory = codes "memory"
kind_name kind.Controller = codes "controller"

abbrev pub update_name : UpdateRule → List ℕ
update_name update.Preserve = codes "preserve"
update_name update.WriteAsOnes = codes "ones"
update_name update.WriteAsZeros = codes "zeros"

abbrev pub event_json : Event → Data
event_json e = string (event_name e)

abbrev pub actor_json : Actor → Data
actor_json a = string (actor_name a)

-- ---- operations: the name, and the operands

abbrev pub op_json : Op → Data
op_json (op.Read f) = list_json (string (codes "read") ∷ number_json f ∷ [])
op_json (op.Write f v) = list_json (string (codes "write") ∷ number_json f ∷ number_json v ∷ [])
op_json (op.Add f v) = list_json (string (codes "add") ∷ number_json f ∷ number_json v ∷ [])
op_json (op.Skip v k) = list_json (string (codes "skip") ∷ number_json v ∷ number_json k ∷ [])
op_json op.Hold = list_json (string (codes "hold") ∷ [])
op_json op.Free = list_json (string (codes "free") ∷ [])
op_json (op.Notify d v) = list_json (string (codes "notify") ∷ number_json d ∷ number_json v ∷ [])
op_json (op.Drop e) = list_json (string (codes "drop") ∷ event_json e ∷ [])
op_json (op.Up e) = list_json (string (codes "up") ∷ event_json e ∷ [])
op_json (op.Down e) = list_json (string (codes "down") ∷ event_json e ∷ [])
op_json (op.Raise e) = list_json (string (codes "raise") ∷ event_json e ∷ [])
op_json (op.Assert e) = list_json (string (codes "assert") ∷ event_json e ∷ [])
op_json (op.Push q) = list_json (string (codes "push") ∷ number_json q ∷ [])

abbrev pub script_json : List Op → Data
script_json ops = list_json (map op_json ops)

-- ---- parts

-- the bytes of a region without the zeros at their end
abbrev pub without_zeros : List ℕ → List ℕ
without_zeros [] = []
without_zeros (x ∷ xs) = if (x == 0) && (length (without_zeros xs) == 0) then [] else x ∷ without_zeros xs

abbrev pub region_json : RegionData → Data
region_json region = object
    (member (codes "bytes") (list_json (map number_json (without_zeros region.cells)))
    (member (codes "kind") (string (kind_name region.kind))
    (member (codes "len") (number_json (length region.cells)) no_members)))

abbrev pub field_json : Field → Data
field_json field = object
    (member (codes "bit") (number_json field.bit)
    (member (codes "lock") (boolean (is_lock field.lock))
    (member (codes "region") (number_json field.region)
    (member (codes "update") (string (update_name field.update))
    (member (codes "width") (number_json field.width) no_members)))))

abbrev pub listed_json : ListedEvent → Data
listed_json e = object
    (member (codes "name") (string (listed_name e.listed.event e.listed.level))
    (member (codes "refs") (number_json e.listed.refs)
    (member (codes "script") (script_json e.script) no_members)))

abbrev pub query_json : Query → Data
query_json q = object
    (member (codes "name") (string (query_name q.code))
    (member (codes "script") (script_json q.script) no_members))

-- a controller in version 1, which has no name glk
abbrev pub controller_one_json : ControllerDesc → Data
controller_one_json c = object
    (member (codes "event") (event_json c.event)
    (member (codes "fickle") (boolean c.fickle)
    (member (codes "queries") (list_json (map query_json c.queries))
    (member (codes "silent") (boolean c.silent) no_members))))

-- in version 2
abbrev pub controller_two_json : ControllerDesc → Data
controller_two_json c = object
    (member (codes "event") (event_json c.event)
    (member (codes "fickle") (boolean c.fickle)
    (member (codes "glk") (boolean c.glk)
    (member (codes "queries") (list_json (map query_json c.queries))
    (member (codes "silent") (boolean c.silent) no_members)))))

-- the controller or none, in a description of this version
abbrev pub controller_json : ℕ → Option ControllerDesc → Data
controller_json version None = null
controller_json version (Some c) = if version == 1 then controller_one_json c else controller_two_json c

abbrev pub blocks_json : ℕ → ℕ → ℕ → Data
blocks_json gpe0 base1 gpe1 = object
    (member (codes "base1") (number_json base1)
    (member (codes "gpe0") (number_json gpe0)
    (member (codes "gpe1") (number_json gpe1) no_members)))

abbrev pub pulses_json : List Event → Data
pulses_json events = list_json (map event_json events)

-- ---- the description

abbrev pub description_json : MachineData → Data
description_json m = object
    (member (codes "controller") (controller_json m.version m.controller)
    (member (codes "devices") (list_json (map pulses_json m.devices))
    (member (codes "events") (list_json (map listed_json m.events))
    (member (codes "fields") (list_json (map field_json m.fields))
    (member (codes "firmware") (list_json (map script_json m.firmware))
    (member (codes "gpe") (blocks_json m.gpe0 m.base1 m.gpe1)
    (member (codes "regions") (list_json (map region_json m.regions))
    (member (codes "schedule") (list_json (map actor_json m.schedule))
    (member (codes "version") (number_json m.version)
    (member (codes "workers") (number_json m.workers) no_members))))))))))

-- its text
unfoldable pub canonical : MachineData → List ℕ
canonical m = compact_text (description_json m)
