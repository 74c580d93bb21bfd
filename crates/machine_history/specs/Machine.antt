-- What the table of entries asks of a machine.
use Rattle.std.specs.Prelude.{ℕ, ◌+◌, ◌==◌, Bool, true, false, List, [], ◌∷◌, Option, Some, None, if◌then◌else◌}
use Rattle.std.specs.List.{sum_by}
use Rattle.acpi_regs.specs.declared.entry.Cell.{Cell}
use Rattle.acpi_regs.specs.declared.event.Event.{Event}
use Rattle.acpi_regs.specs.Event.{same_event}
use Rattle.event_chip.specs.declared.state.EventKind.{EventKind}
use Rattle.event_chip.specs.declared.state.Slot.{Slot}
use Rattle.event_chip.specs.Chip.{first_slot}
use Rattle.event_chip.specs.State.{is_listed}
use Rattle.field_units.specs.Field.{RegionData, is_controller}
use Rattle.handler_script.specs.declared.op.Op.{Op}
use Rattle.machine_desc.specs.declared.machine.ControllerDesc.{ControllerDesc}
use Rattle.machine_desc.specs.declared.machine.ListedEvent.{ListedEvent}
use Rattle.machine_desc.specs.declared.machine.Query.{Query}
use Rattle.machine_desc.specs.Kept.{listed_in, own_event, queries_in}
use Rattle.machine_desc.specs.Machine.{MachineData}

-- ---- events

-- the registers of an event at the start
abbrev pub first_slot_of : MachineData → Event → Slot
first_slot_of m n = first_slot (listed_in m) (own_event m) n

-- whether the machine lists the event, knows it otherwise, or not at all
abbrev pub kind_of : MachineData → Event → EventKind
kind_of m n = (first_slot_of m n).kind

abbrev pub lists : MachineData → Event → Bool
lists m n = is_listed (kind_of m n)

-- the event is this one
abbrev pub names : Option Event → Event → Bool
names None n = false
names (Some x) n = same_event x n

-- the event is the controller's
abbrev pub is_own : MachineData → Event → Bool
is_own m n = names (own_event m) n

-- ---- the controller

abbrev pub is_silent : Option ControllerDesc → Bool
is_silent None = true
is_silent (Some c) = c.silent

abbrev pub is_fickle : Option ControllerDesc → Bool
is_fickle None = false
is_fickle (Some c) = c.fickle

-- the place of the controller's region
abbrev pub controller_place : List RegionData → ℕ
controller_place [] = 0
controller_place (region ∷ regions) = if is_controller region.kind then 0 else (1 + controller_place regions)

-- the cell of an address in the controller's space
abbrev pub space : MachineData → ℕ → Cell
space m x = record { region = controller_place m.regions; offset = x }

-- ---- devices

-- how many times an event stands in a list
abbrev pub times : Event → List Event → ℕ
times n [] = 0
times n (x ∷ events) = (if same_event x n then 1 else 0) + times n events

-- how many pulses of an event stand in the device lists
abbrev pub pulses_of : MachineData → Event → ℕ
pulses_of m n = sum_by (times n) m.devices

-- ---- handlers

-- the handler of a listed event
abbrev pub script_in : List ListedEvent → Event → List Op
script_in [] n = []
script_in (l ∷ events) n = if same_event l.listed.event n then l.script else script_in events n

abbrev pub event_script : MachineData → Event → List Op
event_script m n = script_in m.events n

-- the handler of a query code: a code without one has an empty run
abbrev pub query_in : List Query → ℕ → List Op
query_in [] q = []
query_in (handler ∷ queries) q = if handler.code == q then handler.script else query_in queries q

abbrev pub code_script : MachineData → ℕ → List Op
code_script m q = query_in (queries_in m) q
