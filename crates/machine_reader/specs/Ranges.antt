-- For private clauses: what the types of a machine say of its numbers.
use Rattle.std.specs.Prelude.{ℕ, ◌^◌, ◌<◌, ◌≤◌, All, List, Option, Some, None}
use Rattle.acpi_regs.specs.declared.actor.Actor.{Actor}
use Rattle.acpi_regs.specs.declared.actor.Actor.TheVariants as actor
use Rattle.acpi_regs.specs.declared.event.Event.{Event}
use Rattle.acpi_regs.specs.declared.event.Event.TheVariants as event
use Rattle.field_units.specs.Field.{Field, RegionData}
use Rattle.handler_script.specs.declared.op.Op.{Op}
use Rattle.handler_script.specs.declared.op.Op.TheVariants as op
use Rattle.machine_desc.specs.declared.machine.ControllerDesc.{ControllerDesc}
use Rattle.machine_desc.specs.declared.machine.ListedEvent.{ListedEvent}
use Rattle.machine_desc.specs.declared.machine.Query.{Query}
use Rattle.machine_desc.specs.Machine.{MachineData}

abbrev pub IsByte : ℕ → Type 0
IsByte n = n ≤ 255

abbrev pub EventFits : Event → Type 0
EventFits (event.Fixed f) = Unit {0}
EventFits (event.Gpe n) = IsByte n

abbrev pub OpFits : Op → Type 0
OpFits (op.Read f) = f ≤ 65535
OpFits (op.Write f v) = (f ≤ 65535) × (v < 2 ^ 64)
OpFits (op.Add f v) = (f ≤ 65535) × (v < 2 ^ 64)
OpFits (op.Skip v k) = (v < 2 ^ 64) × (k ≤ 65535)
OpFits op.Hold = Unit {0}
OpFits op.Free = Unit {0}
OpFits (op.Notify d v) = IsByte d × IsByte v
OpFits (op.Drop e) = EventFits e
OpFits (op.Up e) = EventFits e
OpFits (op.Down e) = EventFits e
OpFits (op.Raise e) = EventFits e
OpFits (op.Assert e) = EventFits e
OpFits (op.Push q) = IsByte q

abbrev pub ScriptFits : List Op → Type 0
ScriptFits ops = All OpFits ops

abbrev pub ActorFits : Actor → Type 0
ActorFits actor.Int = Unit {0}
ActorFits actor.Poll = Unit {0}
ActorFits actor.Ec = Unit {0}
ActorFits (actor.Worker k) = IsByte k
ActorFits (actor.Device k) = IsByte k
ActorFits (actor.Firmware k) = IsByte k

abbrev pub RegionFits : RegionData → Type 0
RegionFits r = All IsByte r.cells

pub record FieldFits (f : Field) : Type 0 where
  pub region : f.region ≤ 255
  pub bit : f.bit ≤ 4294967295
  pub width : f.width ≤ 255

pub record ListedFits (e : ListedEvent) : Type 0 where
  pub event : EventFits e.listed.event
  pub script : ScriptFits e.script

pub record QueryFits (q : Query) : Type 0 where
  pub code : q.code ≤ 255
  pub script : ScriptFits q.script

pub record ControllerFits (c : ControllerDesc) : Type 0 where
  pub event : EventFits c.event
  pub queries : All QueryFits c.queries

abbrev pub SomeControllerFits : Option ControllerDesc → Type 0
SomeControllerFits None = Unit {0}
SomeControllerFits (Some c) = ControllerFits c

pub record Fits (m : MachineData) : Type 0 where
  pub gpe0 : m.gpe0 ≤ 65535
  pub base1 : m.base1 ≤ 65535
  pub gpe1 : m.gpe1 ≤ 65535
  pub regions : All RegionFits m.regions
  pub fields : All FieldFits m.fields
  pub events : All ListedFits m.events
  pub controller : SomeControllerFits m.controller
  pub firmware : All ScriptFits m.firmware
  pub devices : All (All EventFits) m.devices
  pub schedule : All ActorFits m.schedule
