-- The last entry that touches a piece of state decides it: each piece that the definitions read by looking back, told
-- by the places of a history.
use Rattle.std.specs.Prelude.{ℕ, ◌<◌, ◌≡◌, ◌⊎◌, Bool, true, false, ◌&&◌, List, Option, Some, None, slice_get, if◌then◌else◌}
use Rattle.acpi_regs.specs.declared.actor.Actor.{Actor}
use Rattle.acpi_regs.specs.declared.actor.Actor.TheVariants as actor
use Rattle.acpi_regs.specs.declared.actor.Side.{Side}
use Rattle.acpi_regs.specs.declared.actor.Side.TheVariants as side
use Rattle.acpi_regs.specs.declared.entry.Cell.{Cell}
use Rattle.acpi_regs.specs.declared.entry.Deed.{Deed}
use Rattle.acpi_regs.specs.declared.entry.Deed.TheVariants as deed
use Rattle.acpi_regs.specs.declared.entry.Effect.{Effect}
use Rattle.acpi_regs.specs.declared.entry.Effect.TheVariants as effect
use Rattle.acpi_regs.specs.declared.entry.Entry.{Entry}
use Rattle.acpi_regs.specs.declared.entry.Request.{Request}
use Rattle.acpi_regs.specs.declared.entry.Request.TheVariants as request
use Rattle.acpi_regs.specs.declared.event.Event.{Event}
use Rattle.acpi_regs.specs.Actor.{same_actor, stands_on}
use Rattle.acpi_regs.specs.Event.{is_gbl, same_event}
use Rattle.acpi_regs.specs.History.{past_of}
use Rattle.event_chip.specs.declared.state.Touch.{Touch}
use Rattle.event_chip.specs.declared.state.Touch.TheVariants as touch
use Rattle.event_chip.specs.State.{is_level, is_listed}
use Rattle.machine_desc.specs.Kept.{own_event}
use Rattle.machine_desc.specs.Machine.{MachineData}
use Rattle.machine_history.specs.declared.parts.Access.{Access}
use Rattle.machine_history.specs.declared.parts.Touched.{Touched}
use Rattle.machine_history.specs.Events.{line, touched}
use Rattle.machine_history.specs.Machine.{kind_of, names}
use Rattle.machine_history.specs.Values.{access_of, same_cell}
use Rattle.machine_history.specs.Wire.{Open, open_of}

-- ---- the sentence

-- the entry at a place of a history sets the state to this value; `sets` says what an entry makes of it after its
-- past, where it touches it
abbrev pub SetsAt : {X : Type 0} → (List Entry → Entry → Option X) → List Entry → ℕ → X → Type 0
SetsAt sets history i v = (e : Entry) × (slice_get history i ≡ Some e) × (sets (past_of history i) e ≡ Some v)

-- and no entry behind it sets it
abbrev pub SetsLast : {X : Type 0} → (List Entry → Entry → Option X) → List Entry → ℕ → X → Type 0
SetsLast {X} sets history i v = SetsAt sets history i v × ((j : ℕ) (w : X) → i < j → SetsAt sets history j w → ⊥)

-- no entry sets it
abbrev pub NeverSet : {X : Type 0} → (List Entry → Entry → Option X) → List Entry → Type 0
NeverSet {X} sets history = (i : ℕ) (v : X) → SetsAt sets history i v → ⊥

-- The state is what the last entry that sets it made of it, and where none sets it, it is as at the start. One of the
-- two is so.
pub record IsLast {X : Type 0} (sets : List Entry → Entry → Option X) (first : X) (history : List Entry) (state : X) : Type 0 where
  pub set : (i : ℕ) (v : X) → SetsLast sets history i v → state ≡ v
  pub never : NeverSet sets history → state ≡ first
  pub either : ((i : ℕ) × (v : X) × SetsLast sets history i v) ⊎ NeverSet sets history

-- where a test holds
abbrev pub where_true : {X : Type 0} → Bool → X → Option X
where_true test x = if test then Some x else None

-- what an entry makes of a state by its actor and its deed alone
abbrev pub told : {X : Type 0} → (Actor → Deed → Option X) → List Entry → Entry → Option X
told f past e = f e.actor e.deed

-- ---- the Global Lock

-- an own, or a disown
abbrev pub owner_set : Actor → Deed → Option (Option Actor)
owner_set a deed.Own = Some (Some a)
owner_set a deed.Disown = Some None
owner_set a _ = None

-- a seek, or a leave, of the side
abbrev pub seeker_set : Side → Actor → Deed → Option (Option Actor)
seeker_set s a deed.Seek = where_true (stands_on s a) (Some a)
seeker_set s a (deed.Leave signal) = where_true (stands_on s a) None
seeker_set s a _ = None

-- its own seek, or own
abbrev pub owned_set : Actor → Actor → Deed → Option Bool
owned_set a b deed.Seek = where_true (same_actor a b) false
owned_set a b deed.Own = where_true (same_actor a b) true
owned_set a b _ = None

-- its own seek, or disown
abbrev pub disowned_set : Actor → Actor → Deed → Option Bool
disowned_set a b deed.Seek = where_true (same_actor a b) false
disowned_set a b deed.Disown = where_true (same_actor a b) true
disowned_set a b _ = None

-- its own seek, woken or busy
abbrev pub busy_set : Actor → Actor → Deed → Option Bool
busy_set a b deed.Seek = where_true (same_actor a b) false
busy_set a b deed.Woken = where_true (same_actor a b) false
busy_set a b deed.Busy = where_true (same_actor a b) true
busy_set a b _ = None

-- A woken by an actor of the side clears its wake. That of the OS is set by a claim of the Global Lock's event, that
-- of the firmware by a signalling leave of the OS's side.
abbrev pub wake_set : Side → Actor → Deed → Option Bool
wake_set s a deed.Woken = where_true (stands_on s a) false
wake_set side.Os a (deed.Claim n) = where_true (is_gbl n) true
wake_set side.Firmware a (deed.Leave true) = where_true (stands_on side.Os a) true
wake_set s a _ = None

-- a raise, latch or assert of the Global Lock's event and a signalling leave of the firmware set its status, and a
-- claim clears it
abbrev pub gbl_set : Actor → Deed → Option Bool
gbl_set a (deed.Raise n) = where_true (is_gbl n) true
gbl_set a (deed.Latch n) = where_true (is_gbl n) true
gbl_set a (deed.Assert n) = where_true (is_gbl n) true
gbl_set a (deed.Claim n) = where_true (is_gbl n) false
gbl_set a (deed.Leave true) = where_true (stands_on side.Firmware a) true
gbl_set a _ = None

-- ---- events

-- an assert or a drop of the event
abbrev pub line_set : Event → Actor → Deed → Option Bool
line_set n a (deed.Assert x) = where_true (same_event x n) true
line_set n a (deed.Drop x) = where_true (same_event x n) false
line_set n a _ = None

-- what is done to the event by the entry that touches it
abbrev pub done_to : Event → Option Touched → Option Touch
done_to n None = None
done_to n (Some t) = where_true (same_event t.event n) t.by

-- A claim holds a listed event, and the finish of a job that a claim of it made lets it go.
abbrev pub held_by : Bool → Option Touch → Option Bool
held_by listed (Some touch.Claim) = Some listed
held_by listed (Some touch.Finish) = Some false
held_by listed _ = None

abbrev pub held_set : MachineData → Event → List Entry → Entry → Option Bool
held_set m n past e = held_by (is_listed (kind_of m n)) (done_to n (touched m past e))

-- A raise, a latch, an assert, and what else raises the event, set its status. A claim clears it unless the event is
-- level, and the finish of a level event's job makes it the line.
abbrev pub status_by : Bool → Bool → Option Touch → Option Bool
status_by level on (Some touch.Raise) = Some true
status_by level on (Some touch.Assert) = Some true
status_by level on (Some touch.Claim) = if level then None else Some false
status_by level on (Some touch.Finish) = if level then Some on else None
status_by level on _ = None

abbrev pub status_set : MachineData → Event → List Entry → Entry → Option Bool
status_set m n past e = status_by (is_level (kind_of m n)) (line m past n) (done_to n (touched m past e))

-- ---- jobs

-- its own start or finish
abbrev pub running_set : Actor → Actor → Deed → Option (Option ℕ)
running_set a b (deed.Start j) = where_true (same_actor a b) (Some j)
running_set a b (deed.Finish j) = where_true (same_actor a b) None
running_set a b _ = None

-- ---- the controller

-- who began the open transaction, and what was asked
abbrev pub opener_in : Option Open → Option (Actor × Request)
opener_in None = None
opener_in (Some o) = Some (o.by, o.asks)

-- a begin, or a take
abbrev pub opener_set : Actor → Deed → Option (Option (Actor × Request))
opener_set a (deed.Begin r) = Some (Some (a, r))
opener_set a (deed.Take v) = Some None
opener_set a _ = None

-- an Out of burst enable, a Taken of burst disable, and a Calm
abbrev pub burst_asked : Request → Effect → Option Bool
burst_asked request.Be (effect.Out v) = Some true
burst_asked request.Bd effect.Taken = Some false
burst_asked r e = None

abbrev pub burst_open : Option Open → Effect → Option Bool
burst_open None e = None
burst_open (Some o) e = burst_asked o.asks e

abbrev pub burst_done : Option Open → Deed → Option Bool
burst_done o (deed.Ctl effect.Calm) = Some false
burst_done o (deed.Ctl e) = burst_open o e
burst_done o _ = None

abbrev pub burst_set : List Entry → Entry → Option Bool
burst_set past e = burst_done (open_of past) e.deed

-- the interrupt handler's claim of the controller's event, or its step
abbrev pub due_set : MachineData → Actor → Deed → Option Bool
due_set m actor.Int (deed.Claim n) = where_true (names (own_event m) n) true
due_set m actor.Int (deed.Step h) = Some false
due_set m a d = None

-- ---- cells

-- a write to the cell, by whoever and however it is made
abbrev pub write_to : Cell → Option Access → Option ℕ
write_to c None = None
write_to c (Some a) = where_true (a.writes && same_cell a.cell c) a.byte

abbrev pub value_set : MachineData → Cell → List Entry → Entry → Option ℕ
value_set m c past e = write_to c (access_of m past e)
