-- The parts that the canonical text of a machine has.
use Rattle.std.specs.Prelude.{length, map, option_map}
use Rattle.field_units.specs.Field.{Field, RegionData, is_lock}
use Rattle.machine_desc.specs.declared.machine.ControllerDesc.{ControllerDesc}
use Rattle.machine_desc.specs.declared.machine.ListedEvent.{ListedEvent}
use Rattle.machine_desc.specs.declared.machine.Query.{Query}
use Rattle.machine_desc.specs.declared.parts.ControllerPart.{ControllerPart}
use Rattle.machine_desc.specs.declared.parts.EventPart.{EventPart}
use Rattle.machine_desc.specs.declared.parts.FieldPart.{FieldPart}
use Rattle.machine_desc.specs.declared.parts.MachineParts.{MachineParts}
use Rattle.machine_desc.specs.declared.parts.QueryPart.{QueryPart}
use Rattle.machine_desc.specs.declared.parts.RegionPart.{RegionPart}
use Rattle.machine_desc.specs.Machine.{MachineData}
use Rattle.machine_reader.specs.Canonical.{without_zeros}

abbrev pub region_part : RegionData → RegionPart
region_part r = record { kind = r.kind; len = length r.cells; bytes = without_zeros r.cells }

abbrev pub field_part : Field → FieldPart
field_part f = record { region = f.region; bit = f.bit; width = f.width; lock = is_lock f.lock; update = f.update }

abbrev pub event_part : ListedEvent → EventPart
event_part e = record { event = e.listed.event; level = e.listed.level; refs = e.listed.refs; script = e.script }

abbrev pub query_part : Query → QueryPart
query_part q = record { code = q.code; script = q.script }

abbrev pub controller_part : ControllerDesc → ControllerPart
controller_part c = record {
  event = c.event;
  silent = c.silent;
  fickle = c.fickle;
  glk = c.glk;
  queries = map query_part c.queries;
}

abbrev pub parts_of : MachineData → MachineParts
parts_of m = record {
  version = m.version;
  gpe0 = m.gpe0;
  base1 = m.base1;
  gpe1 = m.gpe1;
  workers = m.workers;
  regions = map region_part m.regions;
  fields = map field_part m.fields;
  events = map event_part m.events;
  controller = option_map controller_part m.controller;
  firmware = m.firmware;
  devices = m.devices;
  schedule = m.schedule;
}
