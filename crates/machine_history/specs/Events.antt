-- The state of an event: its registers as the last entry that touches it left them (ACPI 6.5, sections 4.8.3.1, 4.8.4.1
-- and 5.6.4).
use Rattle.std.specs.Prelude.{ℕ, ◌+◌, ◌||◌, ◌&&◌, not, nat_lt, Bool, true, false, List, [], ◌∷◌, length, Option, Some, None, if◌then◌else◌}
use Rattle.acpi_regs.specs.declared.actor.Actor.{Actor}
use Rattle.acpi_regs.specs.declared.actor.Side.TheVariants as side
use Rattle.acpi_regs.specs.declared.entry.Deed.{Deed}
use Rattle.acpi_regs.specs.declared.entry.Deed.TheVariants as deed
use Rattle.acpi_regs.specs.declared.entry.Effect.{Effect}
use Rattle.acpi_regs.specs.declared.entry.Effect.TheVariants as effect
use Rattle.acpi_regs.specs.declared.entry.Entry.{Entry}
use Rattle.acpi_regs.specs.declared.event.Event.{Event}
use Rattle.acpi_regs.specs.Actor.{stands_on}
use Rattle.acpi_regs.specs.Event.{gbl, same_event}
use Rattle.event_chip.specs.declared.state.Slot.{Slot}
use Rattle.event_chip.specs.declared.state.Touch.{Touch}
use Rattle.event_chip.specs.declared.state.Touch.TheVariants as touch
use Rattle.event_chip.specs.Chip as chip
use Rattle.event_chip.specs.State as state
use Rattle.machine_desc.specs.Kept.{own_event}
use Rattle.machine_desc.specs.Machine.{MachineData}
use Rattle.machine_history.specs.declared.parts.Job.{Job}
use Rattle.machine_history.specs.declared.parts.Touched.{Touched}
use Rattle.machine_history.specs.Jobs.{event_ended, jobs}
use Rattle.machine_history.specs.Machine.{first_slot_of, is_silent}
use Rattle.machine_history.specs.Wire.{Open, asks_code, codes, open_of}

-- ---- the event that an entry touches

abbrev pub does : Touch → Event → Option Touched
does t n = Some record { event = n; by = t }

abbrev pub does_to : Touch → Option Event → Option Touched
does_to t None = None
does_to t (Some n) = does t n

-- an Out of a query leaves codes
abbrev pub leaves_codes : Option Open → Effect → List ℕ → Bool
leaves_codes o (effect.Out v) queue = asks_code o && nat_lt 1 (length queue)
leaves_codes o e queue = false

-- A move of the controller raises its event unless the machine is silent. An Out of a query that leaves codes raises
-- it in every case.
abbrev pub is_loud : MachineData → Option Open → List ℕ → Effect → Bool
is_loud m o queue effect.Calm = false
is_loud m o queue e = not (is_silent m.controller) || leaves_codes o e queue

abbrev pub touch_of : MachineData → Option Open → List ℕ → List Job → Actor → Deed → Option Touched
touch_of m o queue made a (deed.Raise n) = does touch.Raise n
touch_of m o queue made a (deed.Latch n) = does touch.Raise n
touch_of m o queue made a (deed.Assert n) = does touch.Assert n
touch_of m o queue made a (deed.Drop n) = does touch.Drop n
touch_of m o queue made a (deed.Claim n) = does touch.Claim n
touch_of m o queue made a (deed.Finish j) = does_to touch.Finish (event_ended made j)
touch_of m o queue made a (deed.Up n) = does touch.Up n
touch_of m o queue made a (deed.Down n) = does touch.Down n
touch_of m o queue made a (deed.Leave true) = if stands_on side.Firmware a then does touch.Raise gbl else None
touch_of m o queue made a (deed.Push q) = does_to touch.Raise (own_event m)
touch_of m o queue made a (deed.Ctl e) = if is_loud m o queue e then does_to touch.Raise (own_event m) else None
touch_of m o queue made a _ = None

abbrev pub touched : MachineData → List Entry → Entry → Option Touched
touched m past e = touch_of m (open_of past) (codes past) (jobs m past) e.actor e.deed

-- ---- what that leaves

-- an entry that touches another event leaves this one
abbrev pub slot_after : Event → Option Touched → Slot → Slot
slot_after n None old = old
slot_after n (Some t) old = if same_event t.event n then chip.touched t.by old else old

-- the registers of an event
abbrev pub slot : MachineData → List Entry → Event → Slot
slot m [] n = first_slot_of m n
slot m (e ∷ past) n = slot_after n (touched m past e) (slot m past n)

abbrev pub status : MachineData → List Entry → Event → Bool
status m past n = (slot m past n).state.status

abbrev pub line : MachineData → List Entry → Event → Bool
line m past n = (slot m past n).state.line

abbrev pub held : MachineData → List Entry → Event → Bool
held m past n = (slot m past n).state.held

abbrev pub count : MachineData → List Entry → Event → ℕ
count m past n = (slot m past n).state.count

-- after sixteen runs in a row that ended under an asserted line a level event is parked
abbrev pub parked : MachineData → List Entry → Event → Bool
parked m past n = state.is_parked (slot m past n).kind (slot m past n).state

abbrev pub enabled : MachineData → List Entry → Event → Bool
enabled m past n = state.is_enabled (slot m past n).kind (slot m past n).state

-- it has status and is enabled
abbrev pub pending : MachineData → List Entry → Event → Bool
pending m past n = state.is_pending (slot m past n).kind (slot m past n).state

-- ---- latches

abbrev pub latches_after : Event → Deed → ℕ → ℕ
latches_after n (deed.Latch x) old = if same_event x n then (old + 1) else old
latches_after n _ old = old

-- how many latches of an event there were
abbrev pub latches : List Entry → Event → ℕ
latches [] n = 0
latches (e ∷ past) n = latches_after n e.deed (latches past n)
