-- The weight of a machine, which is to bound how many entries its history can have: sums over its description.
use Rattle.std.specs.Prelude.{ℕ, ◌+◌, ◌*◌, Bool, false, ◌==◌, List, [], ◌∷◌, length, count_by, sum_by, Option, Some, None, is_some, if◌then◌else◌}
use Rattle.acpi_regs.specs.declared.event.Event.{Event}
use Rattle.acpi_regs.specs.Event.{gbl, same_event}
use Rattle.field_units.specs.declared.rules.RegionKind.{RegionKind}
use Rattle.field_units.specs.declared.rules.RegionKind.TheVariants as kind
use Rattle.field_units.specs.Field.{Field}
use Rattle.handler_script.specs.declared.op.Op.{Op}
use Rattle.handler_script.specs.declared.op.Op.TheVariants as op
use Rattle.handler_script.specs.Costs.{reads_of, writes_of}
use Rattle.handler_script.specs.Left.{field_named, held_after}
use Rattle.handler_script.specs.Parts.{bursts, takes_lock}
use Rattle.machine_desc.specs.declared.machine.ListedEvent.{ListedEvent}
use Rattle.machine_desc.specs.declared.machine.Query.{Query}
use Rattle.machine_desc.specs.declared.tally.Tally.{Tally}
use Rattle.machine_desc.specs.declared.tally.Tally.TheVariants as tally
use Rattle.machine_desc.specs.Kept.{own_event, queries_in}
use Rattle.machine_desc.specs.Machine.{MachineData, act_fields}

abbrev pub one_if : Bool → ℕ
one_if test = if test then 1 else 0

-- ---- one operation

-- entries and controller moves of byte reads and byte writes, in burst mode or not: 1 entry a byte in memory; in the
-- controller's space 7 entries and 2 moves a read, 8 and 3 a write, 10 and 2 for burst mode
abbrev pub access_size : RegionKind → Bool → ℕ → ℕ → ℕ
access_size kind.Memory burst reads writes = reads + writes
access_size kind.Controller burst reads writes = 7 * reads + 8 * writes + 10 * one_if burst

abbrev pub access_moves : RegionKind → Bool → ℕ → ℕ → ℕ
access_moves kind.Memory burst reads writes = 0
access_moves kind.Controller burst reads writes = 2 * reads + 3 * writes + 2 * one_if burst

-- an operation on a field: 8 entries more where it takes the lock for itself
abbrev pub field_size : Field → Bool → Op → ℕ
field_size f held o = access_size f.kind (bursts f) (reads_of o f) (writes_of o f) + 8 * one_if (takes_lock f held)

abbrev pub field_moves : Field → Op → ℕ
field_moves f o = access_moves f.kind (bursts f) (reads_of o f) (writes_of o f)

-- an operation on no field
abbrev pub plain_size : Op → ℕ
plain_size op.Hold = 8
plain_size op.Free = 0
plain_size (op.Skip v k) = 0
plain_size _ = 1

abbrev pub size_on : Option Field → Bool → Op → ℕ
size_on None held o = plain_size o
size_on (Some f) held o = field_size f held o

abbrev pub moves_on : Option Field → Op → ℕ
moves_on None o = 0
moves_on (Some f) o = field_moves f o

unfoldable pub op_size : List Field → Bool → Op → ℕ
op_size fields held o = size_on (field_named fields o) held o

unfoldable pub op_moves : List Field → Op → ℕ
op_moves fields o = moves_on (field_named fields o) o

-- ---- scripts, each operation counted, skipped or not; whether a hold is open goes along

abbrev pub size_from : List Field → Bool → List Op → ℕ
size_from fields held [] = 0
size_from fields held (o ∷ ops) = op_size fields held o + size_from fields (held_after o held) ops

unfoldable pub script_size : List Field → List Op → ℕ
script_size fields ops = size_from fields false ops

unfoldable pub script_moves : List Field → List Op → ℕ
script_moves fields ops = sum_by (op_moves fields) ops

-- ---- what comes in: counts over the firmware's scripts and the devices

-- runs that an operation can bring, one for a raise and seventeen for an assert; raises; pushes of a code; pushes
abbrev pub counted : Tally → Op → ℕ
counted (tally.Runs e) (op.Raise n) = one_if (same_event e n)
counted (tally.Runs e) (op.Assert n) = 17 * one_if (same_event e n)
counted (tally.Runs e) _ = 0
counted (tally.Raises e) (op.Raise n) = one_if (same_event e n)
counted (tally.Raises e) _ = 0
counted (tally.Code q) (op.Push k) = one_if (q == k)
counted (tally.Code q) _ = 0
counted tally.Pushes (op.Push k) = 1
counted tally.Pushes _ = 0

unfoldable pub in_script : Tally → List Op → ℕ
in_script what ops = sum_by (counted what) ops

unfoldable pub in_firmware : Tally → List (List Op) → ℕ
in_firmware what firmware = sum_by (in_script what) firmware

-- pulses of an event
unfoldable pub in_devices : Event → List (List Event) → ℕ
in_devices e devices = sum_by (count_by (same_event e)) devices

-- the runs that an event can have: its raises, its pulses, and 17 for each assert
abbrev pub runs_of : MachineData → Event → ℕ
runs_of m e = in_firmware (tally.Runs e) m.firmware + in_devices e m.devices

-- raises and pulses of an event
abbrev pub calls_of : MachineData → Event → ℕ
calls_of m e = in_firmware (tally.Raises e) m.firmware + in_devices e m.devices

abbrev pub own_calls : MachineData → Option Event → ℕ
own_calls m None = 0
own_calls m (Some e) = calls_of m e

-- ---- sums of sizes and of moves: of the firmware, of the runs of listed events, and of the handlers of pushed codes

unfoldable pub firmware_size : MachineData → ℕ
firmware_size m = sum_by (script_size (act_fields m)) m.firmware

unfoldable pub firmware_moves : MachineData → ℕ
firmware_moves m = sum_by (script_moves (act_fields m)) m.firmware

-- a run is claimed, started and finished
abbrev pub event_size : MachineData → ListedEvent → ℕ
event_size m e = runs_of m e.listed.event * (3 + script_size (act_fields m) e.script)

abbrev pub event_moves : MachineData → ListedEvent → ℕ
event_moves m e = runs_of m e.listed.event * script_moves (act_fields m) e.script

unfoldable pub events_size : MachineData → ℕ
events_size m = sum_by (event_size m) m.events

unfoldable pub events_moves : MachineData → ℕ
events_moves m = sum_by (event_moves m) m.events

abbrev pub query_size : MachineData → Query → ℕ
query_size m q = in_firmware (tally.Code q.code) m.firmware * script_size (act_fields m) q.script

abbrev pub query_moves : MachineData → Query → ℕ
query_moves m q = in_firmware (tally.Code q.code) m.firmware * script_moves (act_fields m) q.script

unfoldable pub queries_size : MachineData → ℕ
queries_size m = sum_by (query_size m) (queries_in m)

unfoldable pub queries_moves : MachineData → ℕ
queries_moves m = sum_by (query_moves m) (queries_in m)

-- ---- the weight

abbrev pub all_moves : MachineData → ℕ
all_moves m = firmware_moves m + events_moves m + queries_moves m

abbrev pub pushes : MachineData → ℕ
pushes m = in_firmware tally.Pushes m.firmware

-- how often a query can be asked
abbrev pub queries_asked : ℕ → ℕ → ℕ → ℕ
queries_asked pushed moves calls = if pushed == 0 then 0 else 2 * pushed + moves + calls

-- how often the controller's event can be claimed
abbrev pub own_claims : Bool → ℕ → ℕ → ℕ → ℕ → ℕ
own_claims has_controller pushed moves calls asked = if has_controller then pushed + moves + calls + asked else 0

-- The firmware's own entries, a pulse's latch, three more a run, a start and a finish of each pushed code, with or
-- without a handler, the claims of the controller's event, fifteen a query, and three for what raises the event of
-- the Global Lock.
abbrev pub weight_by : MachineData → (pushed moves calls asked : ℕ) → ℕ
weight_by m pushed moves calls asked =
    firmware_size m
    + sum_by length m.devices
    + events_size m
    + (2 * pushed + queries_size m)
    + own_claims (is_some m.controller) pushed moves calls asked
    + 15 * asked
    + 3 * calls_of m gbl

unfoldable pub weight_of : MachineData → ℕ
weight_of m =
    let pushed = pushes m in
    let moves = all_moves m in
    let calls = own_calls m (own_event m) in
    weight_by m pushed moves calls (queries_asked pushed moves calls)
