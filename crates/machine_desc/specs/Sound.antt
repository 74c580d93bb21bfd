-- What the program knows of an item that breaks no rule, when it makes the machine's own of it.
use Rattle.std.specs.Prelude.{◌≡◌, ◌≤◌, ◌<◌, All, List, length, Option, Some, None, slice_get}
use Rattle.field_units.specs.Field.{field_fault, most_cells}
use Rattle.handler_script.specs.declared.op.Op.{Op}
use Rattle.handler_script.specs.Accepts.{IsScript}
use Rattle.machine_desc.specs.declared.parts.ControllerPart.{ControllerPart}
use Rattle.machine_desc.specs.declared.parts.EventPart.{EventPart}
use Rattle.machine_desc.specs.declared.parts.FieldPart.{FieldPart}
use Rattle.machine_desc.specs.declared.parts.MachineParts.{MachineParts}
use Rattle.machine_desc.specs.declared.parts.QueryPart.{QueryPart}
use Rattle.machine_desc.specs.declared.parts.RegionPart.{RegionPart}
use Rattle.machine_desc.specs.Machine.{kind_of, len_of}

-- a region has 1 to 4,096 cells, and no more bytes are given
pub record IsRegionPart (r : RegionPart) : Type 0 where
  pub some : 1 ≤ r.len
  pub few : r.len ≤ 4096
  pub given : length r.bytes ≤ r.len

-- a field of one of these regions fits into it
pub record IsFieldIn (regions : List RegionPart) (f : FieldPart) : Type 0 where
  pub region : f.region < length regions
  pub short : len_of (slice_get regions f.region) ≤ most_cells (kind_of (slice_get regions f.region))
  pub fits : field_fault (len_of (slice_get regions f.region)) f.bit f.width ≡ None

-- an event begins with at most 255 references, and its handler is a script
pub record IsSoundEvent (e : EventPart) : Type 0 where
  pub refs : e.refs ≤ 255
  pub script : IsScript e.script

pub record IsSoundQuery (q : QueryPart) : Type 0 where
  pub code : 0 < q.code
  pub script : IsScript q.script

pub record IsSoundScript (ops : List Op) : Type 0 where
  pub short : length ops ≤ 4096
  pub script : IsScript ops

abbrev pub AreSoundQueries : Option ControllerPart → Type 0
AreSoundQueries None = Unit {0}
AreSoundQueries (Some c) = All IsSoundQuery c.queries

pub record AreSound (p : MachineParts) : Type 0 where
  pub regions : All IsRegionPart p.regions
  pub fields : All (IsFieldIn p.regions) p.fields
  pub events : All IsSoundEvent p.events
  pub queries : AreSoundQueries p.controller
  pub firmware : All IsSoundScript p.firmware
