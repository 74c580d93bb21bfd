-- The machine of a number and a size.
use Rattle.std.specs.Prelude.{◌≡◌, ℕ, ◌+◌, ◌*◌, ◌%◌, ◌≤◌, true, false, nat_lt, List, [], ◌∷◌, map, Some, None, if◌then◌else◌}
use Rattle.std.specs.List.{range_with_len}
use Rattle.acpi_regs.specs.declared.event.Event.{Event}
use Rattle.acpi_regs.specs.declared.event.Event.TheVariants as event
use Rattle.field_units.specs.declared.rules.RegionKind.TheVariants as kind
use Rattle.field_units.specs.declared.rules.UpdateRule.TheVariants as update
use Rattle.handler_script.specs.declared.op.Op.{Op}
use Rattle.handler_script.specs.declared.op.Op.TheVariants as op
use Rattle.machine_desc.specs.declared.parts.ControllerPart.{ControllerPart}
use Rattle.machine_desc.specs.declared.parts.EventPart.{EventPart}
use Rattle.machine_desc.specs.declared.parts.FieldPart.{FieldPart}
use Rattle.machine_desc.specs.declared.parts.MachineParts.{MachineParts}
use Rattle.machine_desc.specs.declared.parts.QueryPart.{QueryPart}
use Rattle.machine_desc.specs.declared.parts.RegionPart.{RegionPart}
use Rattle.machine_desc.specs.Machine.{MachineData, described}
use Rattle.machine_desc.specs.Rules.{first_fault}
use Rattle.machine_desc.specs.Weight.{weight_of}

-- n items, each made from its place: f 0, f 1, and so on
unfoldable pub each_of : {A : Type 0} → ℕ → (ℕ → A) → List A
each_of n f = map f (range_with_len 0 n)

-- ---- the space: 16 cells of memory, and a field on each

abbrev pub memory : RegionPart
memory = record { kind = kind.Memory; len = 16; bytes = [] }

abbrev pub byte_field : ℕ → FieldPart
byte_field k = record { region = 0; bit = 8 * k; width = 8; lock = true; update = update.Preserve }

-- ---- the handlers of the OS

-- an edge event that does nothing when it is handled
abbrev pub quiet_event : ℕ → EventPart
quiet_event n = record { event = event.Gpe n; level = false; refs = 1; script = [] }

-- a code adds 1 to the field of its number, and notifies the device object of its number
abbrev pub code_script : ℕ → List Op
code_script q = op.Add q 1 ∷ op.Notify q 128 ∷ []

abbrev pub code_handler : ℕ → QueryPart
code_handler q = record { code = q; script = code_script q }

-- a controller on GPE 6E that needs the Global Lock, with handlers for the codes 1 to 8
abbrev pub controller : ControllerPart
controller = record {
  event = event.Gpe 110;
  silent = false;
  fickle = false;
  glk = true;
  queries = each_of 8 (λ k. code_handler (k + 1));
}

-- ---- the firmware

-- what a draw from 0 to 255 means: in the lower half 1 is added to one of 16 fields, in the upper one of 8 codes is
-- pushed
abbrev pub drawn : ℕ → Op
drawn d = if nat_lt d 128 then op.Add (d % 16) 1 else op.Push (1 + d % 8)

-- the i-th operation of the firmware, its scripts counted through one after the other
unfoldable pub op_at : (number i : ℕ) → Op
op_at number i = drawn ((number + 37 * i) % 256)

unfoldable pub script_of : (number size k : ℕ) → List Op
script_of number size k = each_of (16 * size) (λ j. op_at number (16 * size * k + j))

-- ---- the devices

-- pulse i, the devices' lists counted through one after the other: the eight events in turn
abbrev pub pulse_at : ℕ → Event
pulse_at i = event.Gpe (i % 8)

unfoldable pub pulses_of : (size k : ℕ) → List Event
pulses_of size k = each_of (4 * size) (λ j. pulse_at (4 * size * k + j))

-- ---- the machine

abbrev pub parts_of : (number size : ℕ) → MachineParts
parts_of number size = record {
  version = 1;
  gpe0 = 32;
  base1 = 0;
  gpe1 = 0;
  workers = 4;
  regions = memory ∷ [];
  fields = each_of 16 byte_field;
  events = each_of 8 quiet_event;
  controller = Some controller;
  firmware = each_of 4 (script_of number size);
  devices = each_of 2 (pulses_of size);
  schedule = [];
}

-- the machine that a description with these parts describes
unfoldable pub made : (number size : ℕ) → MachineData
made number size = described (parts_of number size)

-- ---- laws

-- the parts break no rule of a description
abbrev pub BreaksNoRule : Type 0
BreaksNoRule = (number size : ℕ) → size ≤ 64 → first_fault (parts_of number size) ≡ None

-- the machine is not too heavy to be run
abbrev pub IsLight : Type 0
IsLight = (number size : ℕ) → size ≤ 64 → weight_of (made number size) ≤ 1048576
