-- A board as contracts see it, and what it keeps beside its journal.
use Rattle.std.specs.Prelude.{◌≡◌, ◌≤◌, ◌<◌, ℕ, Bool, true, false, List, reverse, Option, Some, None}
use Rattle.acpi_regs.specs.declared.actor.Actor.{Actor}
use Rattle.acpi_regs.specs.declared.actor.Side.{Side}
use Rattle.acpi_regs.specs.declared.entry.Effect.{Effect}
use Rattle.acpi_regs.specs.declared.entry.Entry.{Entry}
use Rattle.acpi_regs.specs.declared.entry.HostMove.{HostMove}
use Rattle.acpi_regs.specs.declared.event.Event.{Event}
use Rattle.acpi_regs.specs.Event.{event_rank}
use Rattle.acpi_regs.specs.Lock.{owner, seeker}
use Rattle.machine_desc.specs.Machine.{MachineData}
use Rattle.machine_desc.specs.Weight.{weight_of}
use Rattle.machine_history.specs.Events.{pending}
use Rattle.machine_history.specs.Legal.{LegalPast, same_effect, same_host}
use Rattle.machine_history.specs.Wire.{Open}
use Rattle.machine_core.specs.declared.actors.Actors.{Actors}
use Rattle.machine_core.specs.declared.events.Events.{Events}
use Rattle.machine_core.specs.declared.jobs.Jobs.{Jobs}
use Rattle.machine_core.specs.declared.lock.LockState.{LockState}
use Rattle.machine_core.specs.Actors.{IsActors}
use Rattle.machine_core.specs.Cells.{IsCells}
use Rattle.machine_core.specs.Events.{IsEvents}
use Rattle.machine_core.specs.Jobs.{IsJobs}
use Rattle.machine_core.specs.Lock.{lock_of}
use Rattle.machine_core.specs.Wire.{IsWire, WireData}

pub record BoardData : Type 0 where
  pub machine : MachineData
  pub entries : List Entry

-- who asked for the open transaction
abbrev pub opener_of : Option Open → Option Actor
opener_of None = None
opener_of (Some o) = Some o.by

-- Beside its journal the board keeps what the definitions find by looking back, one line a subject. The journal is
-- legal, and there is room for the entries and the jobs to come.
pub record IsKept (m : MachineData) (entries : List Entry) (lock : LockState) (events : Events) (actors : Actors) (jobs : Jobs) (wire : WireData) (cells : List (List ℕ)) (room jobs_room : ℕ) : Type 0 where
  pub legal : LegalPast m (reverse entries)
  pub lock_is : lock ≡ lock_of (reverse entries)
  pub events_are : IsEvents m (reverse entries) events
  pub actors_are : IsActors m (reverse entries) actors
  pub jobs_are : IsJobs m (reverse entries) jobs
  pub wire_is : IsWire m (reverse entries) wire
  pub cells_are : IsCells m (reverse entries) cells
  pub room_left : weight_of m ≤ room
  pub jobs_left : weight_of m ≤ jobs_room
  pub small : weight_of m ≤ 1048576

-- the next move of the host, or of the controller, is this one
abbrev pub is_next_host : HostMove → Option HostMove → Bool
is_next_host h None = false
is_next_host h (Some g) = same_host h g

abbrev pub is_next_effect : Effect → Option Effect → Bool
is_next_effect e None = false
is_next_effect e (Some f) = same_effect e f

-- the first event in order that is pending, if one is
abbrev pub IsFirstPending : MachineData → List Entry → Option Event → Type 0
IsFirstPending m past None = (n : Event) → pending m past n ≡ false
IsFirstPending m past (Some n) = (pending m past n ≡ true)
    × ((k : Event) → event_rank k < event_rank n → pending m past k ≡ false)

-- nobody owns the Global Lock or competes for it
abbrev pub IsFree : List Entry → Type 0
IsFree past = (owner past ≡ None) × ((s : Side) → seeker s past ≡ None)
