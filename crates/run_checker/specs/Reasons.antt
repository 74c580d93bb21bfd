-- Why an actor has something left to do after a history.
use Rattle.std.specs.Prelude.{ℕ, zero, suc, ◌<◌, ◌≡◌, nat_lt, true, List, [], ◌∷◌, length, Option, Some, None, is_some, slice_get, if◌then◌else◌}
use Rattle.acpi_regs.specs.declared.actor.Actor.{Actor}
use Rattle.acpi_regs.specs.declared.actor.Actor.TheVariants as actor
use Rattle.acpi_regs.specs.declared.actor.Side.{Side}
use Rattle.acpi_regs.specs.declared.actor.Side.TheVariants as side
use Rattle.acpi_regs.specs.declared.entry.Deed.{Deed}
use Rattle.acpi_regs.specs.declared.entry.Deed.TheVariants as deed
use Rattle.acpi_regs.specs.declared.entry.Entry.{Entry}
use Rattle.acpi_regs.specs.declared.event.Event.{Event}
use Rattle.acpi_regs.specs.Actor.{stands_on}
use Rattle.acpi_regs.specs.Lock.{busies, leaves, other, seeker}
use Rattle.machine_desc.specs.Actors.{actors_of}
use Rattle.machine_desc.specs.Machine.{MachineData}
use Rattle.machine_history.specs.Events.{latches, pending}
use Rattle.machine_history.specs.Jobs.{jobs, running, starts}
use Rattle.machine_history.specs.Machine.{times}
use Rattle.machine_history.specs.Scripts.{next_of}
use Rattle.machine_history.specs.Steps.{ctl_move, host_move}
use Rattle.machine_history.specs.Wire.{Open, codes, open_of}

-- ---- signals without a busy

-- the first signalling leave of a side is that of the first actor that made one
abbrev pub first_after : Side → Actor → Deed → Option Actor → Option Actor
first_after s a d (Some b) = Some b
first_after s a (deed.Leave true) None = if stands_on s a then Some a else None
first_after s a d None = None

abbrev pub first_leaver : Side → List Entry → Option Actor
first_leaver s [] = None
first_leaver s (e ∷ past) = first_after s e.actor e.deed (first_leaver s past)

-- Where a side has more signalling leaves than the other side has busy entries, the actor of its first one answers
-- for them.
abbrev pub answerable : Side → List Entry → Option Actor
answerable s past = if nat_lt (busies (other s) past) (leaves s past) then first_leaver s past else None

-- ---- reasons

-- An event has status and is enabled. A query code waits. An event of a device's list has no latch. A worker's
-- request is open and the host's move is next. A job was not started. A worker runs a job. The controller's move is
-- next in an open request. A script has not ended. A firmware competes for the Global Lock. A signal has no busy.
pub data Reason : Type 0 where
  Pending : Reason
  Code : Reason
  Pulse : Reason
  HostMove : Reason
  Job : Reason
  Run : Reason
  CtlMove : Reason
  Script : Reason
  Seeks : Reason
  Signal : Reason

-- an actor has this reason
abbrev pub Has : MachineData → List Entry → Actor → Reason → Type 0
Has m past a Signal = (s : Side) × (answerable s past ≡ Some a)
Has m past actor.Int Pending = (n : Event) × (pending m past n ≡ true)
Has m past actor.Int Code = codes past ≡ [] → ⊥
Has m past actor.Int Pulse = (k : ℕ) × (pulses : List Event) × (n : Event) × (slice_get m.devices k ≡ Some pulses)
    × (0 < times n pulses) × (latches past n ≡ 0)
Has m past actor.Poll HostMove = (o : Open) × (open_of past ≡ Some o) × (stands_on side.Os o.by ≡ true)
    × (is_some (host_move m past) ≡ true)
Has m past (actor.Worker zero) Job = starts past < length (jobs m past)
Has m past (actor.Worker k) Run = is_some (running past (actor.Worker k)) ≡ true
Has m past actor.Ec CtlMove = is_some (ctl_move m past) ≡ true
Has m past (actor.Firmware k) Script = (k < length m.firmware) × (is_some (next_of m past (actor.Firmware k)) ≡ true)
Has m past (actor.Firmware k) Seeks = seeker side.Firmware past ≡ Some (actor.Firmware k)
Has m past _ _ = ⊥

abbrev pub HasReason : MachineData → List Entry → Actor → Type 0
HasReason m past a = (r : Reason) × Has m past a r

-- no actor of the machine has a reason
abbrev pub NoneUnfinished : MachineData → List Entry → Type 0
NoneUnfinished m past = (k : ℕ) (a : Actor) → slice_get (actors_of m) k ≡ Some a → HasReason m past a → ⊥

-- the actor is the first, in the order in which actors are served, that has a reason
pub record IsFirstUnfinished (m : MachineData) (past : List Entry) (a : Actor) : Type 0 where
  pub place : ℕ
  pub here : slice_get (actors_of m) place ≡ Some a
  pub reason : HasReason m past a
  pub first : (k : ℕ) (b : Actor) → k < place → slice_get (actors_of m) k ≡ Some b → HasReason m past b → ⊥
