-- The rules of a machine in plain words, each a fact that a crate above can use.
use Rattle.std.specs.Prelude.{◌≡◌, ℕ, ◌<◌, ◌≤◌, Bool, true, false, ◌&&◌, ◌==◌, All, List, [], length, map, Option, Some, None, is_some, slice_get}
use Rattle.acpi_regs.specs.declared.actor.Side.{Side}
use Rattle.acpi_regs.specs.declared.actor.Side.TheVariants as side
use Rattle.acpi_regs.specs.declared.event.Event.{Event}
use Rattle.acpi_regs.specs.declared.event.Listed.{Listed}
use Rattle.acpi_regs.specs.Event.{is_gbl, same_event}
use Rattle.acpi_regs.specs.Geometry.{Blocks, bad_field, end_of}
use Rattle.field_units.specs.Field.{Field, RegionData, field_fault, is_controller}
use Rattle.handler_script.specs.declared.op.Op.{Op}
use Rattle.handler_script.specs.Accepts.{Accepted, script_fault}
use Rattle.machine_desc.specs.declared.lists.Counts.{Counts}
use Rattle.machine_desc.specs.declared.machine.ControllerDesc.{ControllerDesc}
use Rattle.machine_desc.specs.declared.machine.ListedEvent.{ListedEvent}
use Rattle.machine_desc.specs.declared.machine.Query.{Query}
use Rattle.machine_desc.specs.Given.{FitsVersion, HasLevel, HaveCodes, IsVersion}
use Rattle.machine_desc.specs.Machine.{MachineData, act_fields}
use Rattle.machine_desc.specs.Rules.{forbids, has_actor, is_event_of, is_in_block, is_in_no_block, is_known, most_events, most_gpes}

-- ---- parts of a machine

abbrev pub blocks_in : MachineData → Blocks
blocks_in m = record { gpe0 = m.gpe0; base1 = m.base1; gpe1 = m.gpe1 }

-- its events, without their handlers
abbrev pub listed_in : MachineData → List Listed
listed_in m = map (λ e. e.listed) m.events

-- the event of its controller, and the handlers of queries
abbrev pub event_of_controller : Option ControllerDesc → Option Event
event_of_controller None = None
event_of_controller (Some c) = Some c.event

abbrev pub own_event : MachineData → Option Event
own_event m = event_of_controller m.controller

abbrev pub queries_of_controller : Option ControllerDesc → List Query
queries_of_controller None = []
queries_of_controller (Some c) = c.queries

abbrev pub queries_in : MachineData → List Query
queries_in m = queries_of_controller m.controller

abbrev pub counts_in : MachineData → Counts
counts_in m = record {
  workers = m.workers;
  controller = is_some m.controller;
  devices = length m.devices;
  firmware =
      length m.firmware;
}

-- ---- the items

-- no two are alike
abbrev pub NoTwo : {A : Type 0} → (A → A → Bool) → List A → Type 0
NoTwo {A} alike xs = (i j : ℕ) (x y : A) → slice_get xs i ≡ Some x → slice_get xs j ≡ Some y → alike x y ≡ true → i ≡ j

-- a region has 1 to 4,096 cells; that of the controller has 256, and stands beside a controller
pub record IsRegion (m : MachineData) (r : RegionData) : Type 0 where
  pub some : 1 ≤ length r.cells
  pub few : length r.cells ≤ 4096
  pub address : is_controller r.kind ≡ true → length r.cells ≡ 256
  pub owner : is_controller r.kind ≡ true → is_some m.controller ≡ true

-- a field fits into its region
pub record IsField (m : MachineData) (f : Field) : Type 0 where
  pub region : RegionData
  pub named : slice_get m.regions f.region ≡ Some region
  pub kind : f.kind ≡ region.kind
  pub len : f.len ≡ length region.cells
  pub fits : field_fault f.len f.bit f.width ≡ None

-- a script of a side has at most 4,096 operations and no fault, and what it pushes is a code
pub record IsHandler (m : MachineData) (of_side : Side) (ops : List Op) : Type 0 where
  pub short : length ops ≤ 4096
  pub faultless : script_fault (forbids (listed_in m) (own_event m)) of_side (length m.fields) ops ≡ None
  pub accepted : Accepted (act_fields m) ops
  pub codes : HaveCodes ops

-- a listed event is neither that of the Global Lock nor the controller's; a GPE stands in a block, and alone may be
-- level
pub record IsListed (m : MachineData) (e : ListedEvent) : Type 0 where
  pub lock : is_gbl e.listed.event ≡ false
  pub own : is_event_of e.listed.event (own_event m) ≡ false
  pub level : HasLevel e.listed.event e.listed.level
  pub block : is_in_no_block (blocks_in m) e.listed.event ≡ false
  pub refs : e.listed.refs ≤ 255
  pub script : IsHandler m side.Os e.script

pub record IsQuery (m : MachineData) (q : Query) : Type 0 where
  pub code : 0 < q.code
  pub script : IsHandler m side.Os q.script

-- the controller's event is a GPE of a block
abbrev pub IsOwnEvent : MachineData → Option Event → Type 0
IsOwnEvent m None = Unit {0}
IsOwnEvent m (Some e) = is_in_block (blocks_in m) e ≡ true

-- a device has at most 4,096 pulses, each of an event that the machine knows
pub record IsDevice (m : MachineData) (pulses : List Event) : Type 0 where
  pub short : length pulses ≤ 4096
  pub known : All (λ e. is_known (listed_in m) (own_event m) e ≡ true) pulses

abbrev pub alike_events : ListedEvent → ListedEvent → Bool
alike_events x y = same_event x.listed.event y.listed.event

abbrev pub alike_codes : Query → Query → Bool
alike_codes x y = x.code == y.code

abbrev pub both_controllers : RegionData → RegionData → Bool
both_controllers x y = is_controller x.kind && is_controller y.kind

-- in version 1 each controller needs the Global Lock
abbrev pub KeepsGlk : ℕ → Option ControllerDesc → Type 0
KeepsGlk version None = Unit {0}
KeepsGlk version (Some c) = FitsVersion version c.glk

-- ---- the machine

pub record IsMachine (m : MachineData) : Type 0 where
  pub version : IsVersion m.version
  pub glk : KeepsGlk m.version m.controller
  pub geometry : bad_field (blocks_in m) ≡ None
  pub few_gpes : end_of (blocks_in m) ≤ most_gpes m.version
  pub some_workers : 1 ≤ m.workers
  pub few_workers : m.workers ≤ 4
  pub few_regions : length m.regions ≤ 16
  pub regions : All (IsRegion m) m.regions
  pub one_controller : NoTwo both_controllers m.regions
  pub few_fields : length m.fields ≤ 256
  pub fields : All (IsField m) m.fields
  pub few_events : length m.events ≤ most_events m.version
  pub events : All (IsListed m) m.events
  pub distinct_events : NoTwo alike_events m.events
  pub own : IsOwnEvent m (own_event m)
  pub few_queries : length (queries_in m) ≤ 255
  pub queries : All (IsQuery m) (queries_in m)
  pub distinct_codes : NoTwo alike_codes (queries_in m)
  pub few_firmware : length m.firmware ≤ 8
  pub firmware : All (IsHandler m side.Firmware) m.firmware
  pub few_devices : length m.devices ≤ 8
  pub devices : All (IsDevice m) m.devices
  pub short_schedule : length m.schedule ≤ 65536
  pub schedule : All (λ a. has_actor (counts_in m) a ≡ true) m.schedule
