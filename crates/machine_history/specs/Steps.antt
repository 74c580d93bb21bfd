-- What one step of each actor does: the first thing in its list that is allowed, or nothing.
use Rattle.std.specs.Prelude.{ℕ, ◌||◌, not, nat_lt, Bool, true, false, List, [], ◌∷◌, ◌++◌, length, map, reverse, Option, Some, None, is_none, slice_get, unwrap_or, if◌then◌else◌}
use Rattle.std.specs.Option.{option_map}
use Rattle.acpi_regs.specs.declared.actor.Actor.{Actor}
use Rattle.acpi_regs.specs.declared.actor.Actor.TheVariants as actor
use Rattle.acpi_regs.specs.declared.entry.Deed.{Deed}
use Rattle.acpi_regs.specs.declared.entry.Deed.TheVariants as deed
use Rattle.acpi_regs.specs.declared.entry.Effect.{Effect}
use Rattle.acpi_regs.specs.declared.entry.Effect.TheVariants as effect
use Rattle.acpi_regs.specs.declared.entry.Entry.{Entry}
use Rattle.acpi_regs.specs.declared.entry.HostMove.{HostMove}
use Rattle.acpi_regs.specs.declared.event.Event.{Event}
use Rattle.acpi_regs.specs.declared.phase.LockPhase.{LockPhase}
use Rattle.acpi_regs.specs.declared.phase.LockPhase.TheVariants as phase
use Rattle.acpi_regs.specs.Core.{Core, events_of, no_event}
use Rattle.acpi_regs.specs.Event.{same_event}
use Rattle.acpi_regs.specs.Phases.{Free, Lock, Phase, Pulsed, allows, is_idle, moved, put}
use Rattle.ec_driver.specs.Driver.{effect_in, host_of}
use Rattle.facs_word.specs.Word.{acquired, is_owned, is_pending, released}
use Rattle.handler_script.specs.declared.act.Act.{Act}
use Rattle.handler_script.specs.declared.act.Act.TheVariants as act
use Rattle.machine_desc.specs.Machine.{MachineData}
use Rattle.machine_history.specs.Events.{pending}
use Rattle.machine_history.specs.Jobs.{jobs, running, starts}
use Rattle.machine_history.specs.Legal.{refusal}
use Rattle.machine_history.specs.Scripts.{next_of}
use Rattle.machine_history.specs.Values.{next_move, taking, value}

abbrev pub entry : Actor → Deed → Entry
entry a d = record { actor = a; deed = d }

-- ---- what is there to do

-- the next move of the open transaction, where it is the host's, or the controller's
abbrev pub host_move : MachineData → List Entry → Option HostMove
host_move m past = host_of (next_move m past)

abbrev pub ctl_move : MachineData → List Entry → Option Effect
ctl_move m past = effect_in (next_move m past)

abbrev pub first : List Event → Option Event
first [] = None
first (n ∷ events) = Some n

-- the first event, in their order, that has status and is enabled
abbrev pub first_pending : MachineData → List Entry → Option Event
first_pending m past = first (events_of (pending m past))

-- the next job to start
abbrev pub waiting : MachineData → List Entry → Option ℕ
waiting m past = if nat_lt (starts past) (length (jobs m past)) then Some (starts past) else None

-- the pulses of a device's list
abbrev pub pulses : MachineData → ℕ → List Event
pulses m k = unwrap_or (slice_get m.devices k) []

-- ---- allowed

abbrev pub may : MachineData → List Entry → Actor → Deed → Bool
may m past a d = is_none (refusal m past (entry a d))

-- the deed, where it is allowed
abbrev pub where_may : MachineData → List Entry → Actor → Option Deed → Option Deed
where_may m past a None = None
where_may m past a (Some d) = if may m past a d then Some d else None

abbrev pub otherwise : Option Deed → Option Deed → Option Deed
otherwise None next = next
otherwise (Some d) next = Some d

-- ---- workers and firmware

-- an act asks for its entry; a request to the controller for its begin, else its take, else the host's next move
abbrev pub at_act : MachineData → List Entry → Actor → Act → Option Deed
at_act m past a act.Lock = where_may m past a (Some deed.Seek)
at_act m past a act.Unlock = where_may m past a (Some deed.Disown)
at_act m past a (act.Read c) = where_may m past a (Some (deed.Read c (value m past c)))
at_act m past a (act.Write c v) = where_may m past a (Some (deed.Write c v))
at_act m past a (act.Ask r) =
    otherwise (where_may m past a (Some (deed.Begin r)))
    (otherwise (where_may m past a (option_map deed.Take (taking m past)))
    (where_may m past a (option_map deed.Step (host_move m past))))
at_act m past a (act.Notify d v) = where_may m past a (Some (deed.Notify d v))
at_act m past a (act.Drop n) = where_may m past a (Some (deed.Drop n))
at_act m past a (act.Up n) = where_may m past a (Some (deed.Up n))
at_act m past a (act.Down n) = where_may m past a (Some (deed.Down n))
at_act m past a (act.Raise n) = where_may m past a (Some (deed.Raise n))
at_act m past a (act.Assert n) = where_may m past a (Some (deed.Assert n))
at_act m past a (act.Push q) = where_may m past a (Some (deed.Push q))

-- with no act left, a worker finishes the job that it runs, or starts the next that waits
abbrev pub between : MachineData → List Entry → Actor → Option Deed
between m past a =
    otherwise (where_may m past a (option_map deed.Finish (running past a)))
    (where_may m past a (option_map deed.Start (waiting m past)))

-- a phase allows one of the lock's entries at most
abbrev pub where_allowed : LockPhase → Option Deed → Option Deed
where_allowed p None = None
where_allowed p (Some d) = if allows p d then Some d else None

abbrev pub at_script : MachineData → List Entry → Actor → LockPhase → Option Act → Option Deed
at_script m past a p None = if is_idle p then between m past a else None
at_script m past a p (Some x) = where_allowed p (at_act m past a x)

-- the entry of a worker or a firmware, by its phase
abbrev pub script_entry : MachineData → List Entry → Actor → LockPhase → Option Deed
script_entry m past a phase.Idle = at_script m past a phase.Idle (next_of m past a)
script_entry m past a (phase.Seeking l) = None
script_entry m past a phase.Marked = where_may m past a (Some deed.Busy)
script_entry m past a phase.Waiting = where_may m past a (Some deed.Woken)
script_entry m past a phase.Won = where_may m past a (Some deed.Own)
script_entry m past a phase.Owning = at_script m past a phase.Owning (next_of m past a)
script_entry m past a phase.Quit = None
script_entry m past a (phase.Gone s) = where_may m past a (Some (deed.Leave s))

-- ---- int, poll and the controller

-- the host's next move for a worker, else a claim
abbrev pub host_entry : MachineData → List Entry → Actor → Option Deed
host_entry m past a =
    otherwise (where_may m past a (option_map deed.Step (host_move m past)))
    (where_may m past a (option_map deed.Claim (first_pending m past)))

-- its next move, else it leaves burst mode
abbrev pub ctl_entry : MachineData → List Entry → Actor → Option Deed
ctl_entry m past a =
    otherwise (where_may m past a (option_map deed.Ctl (ctl_move m past)))
    (where_may m past a (Some (deed.Ctl effect.Calm)))

-- ---- the steps

-- an attempt at the lock, which is a load and an exchange of its word; a release; a pulse; a collect of the pins with
-- the latches of what it found; an entry
pub data Step : Type 0 where
  Attempts : Step
  Releases : Step
  Pulses : Event → Step
  Sweeps : Step
  Adds : Deed → Step

abbrev pub adds : Option Deed → Option Step
adds d = option_map Adds d

abbrev pub lock_step : MachineData → List Entry → Actor → LockPhase → Option Step
lock_step m past a (phase.Seeking l) = Some Attempts
lock_step m past a phase.Quit = Some Releases
lock_step m past a p = adds (script_entry m past a p)

abbrev pub is_empty : List Event → Bool
is_empty [] = true
is_empty (n ∷ events) = false

abbrev pub host_step : MachineData → (Event → Bool) → List Entry → Actor → Option Step
host_step m pins past a = if is_empty (events_of pins) then adds (host_entry m past a) else Some Sweeps

abbrev pub next_step : MachineData → (Event → Bool) → List Entry → Actor → Phase → Option Step
next_step m pins past a (Lock p) = lock_step m past a p
next_step m pins past actor.Int Free = host_step m pins past actor.Int
next_step m pins past actor.Poll Free = host_step m pins past actor.Poll
next_step m pins past actor.Ec Free = adds (ctl_entry m past actor.Ec)
next_step m pins past (actor.Device k) (Pulsed ps) = option_map Pulses (slice_get (pulses m k) (length ps))
next_step m pins past a p = None

-- ---- what a step does to the core

abbrev pub moved_in : Deed → Phase → Phase
moved_in d (Lock p) = Lock (moved d p)
moved_in d p = p

abbrev pub pulsed_more : Event → Bool → Phase → Phase
pulsed_more n clear (Pulsed ps) = Pulsed (ps ++ record { event = n; clear = clear } ∷ [])
pulsed_more n clear p = p

abbrev pub latch : Actor → Event → Entry
latch a n = entry a (deed.Latch n)

abbrev pub happens : Core → Actor → Step → Core
happens c a Attempts = record c
    { word = acquired c.word; phases = put a (Lock (if is_owned c.word then phase.Marked else phase.Won)) c.phases }
happens c a Releases = record c
    { word = released c.word; phases = put a (Lock (phase.Gone (is_pending c.word))) c.phases }
happens c a (Pulses n) = record c
    { pins = λ x. c.pins x || same_event x n; phases = put a (pulsed_more n (not (c.pins n)) (c.phases a)) c.phases }
happens c a Sweeps = record c
    { pins = no_event; history = c.history ++ map (latch a) (events_of c.pins); phases = put a Free c.phases }
happens c a (Adds d) = record c
    { history = c.history ++ entry a d ∷ []; phases = put a (moved_in d (c.phases a)) c.phases }

-- one step of an actor, or nothing
abbrev pub gives : MachineData → Core → Actor → Option Core
gives m c a = option_map (happens c a) (next_step m c.pins (reverse c.history) a (c.phases a))
