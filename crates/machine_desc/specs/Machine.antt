-- A machine as plain data, and the machine that the parts of a description describe.
use Rattle.std.specs.Prelude.{ℕ, ◌-◌, ◌==◌, ◌&&◌, ◌||◌, Bool, true, false, List, length, map, replicate, ◌++◌, Option, Some, None, option_map, slice_get}
use Rattle.acpi_regs.specs.declared.actor.Actor.{Actor}
use Rattle.acpi_regs.specs.declared.event.Event.{Event}
use Rattle.acpi_regs.specs.declared.event.Listed.{Listed}
use Rattle.field_units.specs.declared.rules.LockRule.{LockRule}
use Rattle.field_units.specs.declared.rules.LockRule.TheVariants as lock
use Rattle.field_units.specs.declared.rules.RegionKind.{RegionKind}
use Rattle.field_units.specs.declared.rules.RegionKind.TheVariants as kind
use Rattle.field_units.specs.Field.{Field, RegionData, is_controller}
use Rattle.handler_script.specs.declared.op.Op.{Op}
use Rattle.machine_desc.specs.declared.machine.ControllerDesc.{ControllerDesc}
use Rattle.machine_desc.specs.declared.machine.ListedEvent.{ListedEvent}
use Rattle.machine_desc.specs.declared.machine.Query.{Query}
use Rattle.machine_desc.specs.declared.parts.ControllerPart.{ControllerPart}
use Rattle.machine_desc.specs.declared.parts.EventPart.{EventPart}
use Rattle.machine_desc.specs.declared.parts.FieldPart.{FieldPart}
use Rattle.machine_desc.specs.declared.parts.MachineParts.{MachineParts}
use Rattle.machine_desc.specs.declared.parts.QueryPart.{QueryPart}
use Rattle.machine_desc.specs.declared.parts.RegionPart.{RegionPart}

pub record MachineData : Type 0 where
  pub version : ℕ
  pub gpe0 : ℕ
  pub base1 : ℕ
  pub gpe1 : ℕ
  pub workers : ℕ
  pub regions : List RegionData
  pub fields : List Field
  pub events : List ListedEvent
  pub controller : Option ControllerDesc
  pub firmware : List (List Op)
  pub devices : List (List Event)
  pub schedule : List Actor

-- a region: the given bytes first and zeros after
abbrev pub region_of : RegionPart → RegionData
region_of r = record { kind = r.kind; cells = r.bytes ++ replicate (r.len - length r.bytes) 0 }

abbrev pub kind_of : Option RegionPart → RegionKind
kind_of None = kind.Memory
kind_of (Some r) = r.kind

-- how many cells a region has
abbrev pub len_of : Option RegionPart → ℕ
len_of None = 0
len_of (Some r) = r.len

abbrev pub lock_of : Bool → LockRule
lock_of true = lock.Lock
lock_of false = lock.NoLock

-- a field, with what it takes from its region
abbrev pub field_in : Option RegionPart → FieldPart → Field
field_in region f = record {
  region = f.region;
  kind = kind_of region;
  len = len_of region;
  bit = f.bit;
  width =
      f.width;
  lock = lock_of f.lock;
  update = f.update;
}

abbrev pub field_of : List RegionPart → FieldPart → Field
field_of regions f = field_in (slice_get regions f.region) f

abbrev pub listed_part : EventPart → Listed
listed_part e = record { event = e.event; level = e.level; refs = e.refs }

abbrev pub listed_of : EventPart → ListedEvent
listed_of e = record { listed = listed_part e; script = e.script }

abbrev pub query_of : QueryPart → Query
query_of q = record { code = q.code; script = q.script }

abbrev pub controller_of : ControllerPart → ControllerDesc
controller_of c = record {
  event = c.event;
  silent = c.silent;
  fickle = c.fickle;
  glk = c.glk;
  queries = map query_of
      c.queries;
}

-- the machine that parts describe
abbrev pub described : MachineParts → MachineData
described p = record {
  version = p.version;
  gpe0 = p.gpe0;
  base1 = p.base1;
  gpe1 = p.gpe1;
  workers = p.workers;
  regions = map region_of p.regions;
  fields = map (field_of p.regions) p.fields;
  events = map listed_of p.events;
  controller = option_map controller_of p.controller;
  firmware = p.firmware;
  devices = p.devices;
  schedule = p.schedule;
}

-- ---- the Global Lock and the controller (`_GLK`, ACPI 6.5, section 6.5.7)

-- the controller needs the Global Lock: in version 1 always, from version 2 on where its description says so
abbrev pub glk_in : ℕ → Option ControllerDesc → Bool
glk_in version None = false
glk_in version (Some c) = (version == 1) || c.glk

abbrev pub glk : MachineData → Bool
glk m = glk_in m.version m.controller

-- the rule Lock where it is asked for, and else the rule that is given
abbrev pub lock_where : Bool → LockRule → LockRule
lock_where false rule = rule
lock_where true rule = lock.Lock

-- a field with the lock rule that acts go by: Lock where its own rule is Lock, or where its region is the
-- controller's, which needs the lock
abbrev pub acting : Bool → Field → Field
acting needs f = record f { lock = lock_where (is_controller f.kind && needs) f.lock }

unfoldable pub act_fields_of : Bool → List Field → List Field
act_fields_of needs fields = map (acting needs) fields

-- the fields of the machine, in its order, with the lock rules that acts go by
abbrev pub act_fields : MachineData → List Field
act_fields m = act_fields_of (glk m) m.fields
