-- The phase of each actor between its steps, and how the lock's entries change it (ACPI 6.5, section 5.2.10.1).
use Rattle.std.specs.Prelude.{ℕ, Bool, true, false, List, [], Option, Some, None, if◌then◌else◌}
use Rattle.acpi_regs.specs.declared.actor.Actor.{Actor}
use Rattle.acpi_regs.specs.declared.actor.Actor.TheVariants as actor
use Rattle.acpi_regs.specs.declared.entry.Deed.{Deed}
use Rattle.acpi_regs.specs.declared.entry.Deed.TheVariants as deed
use Rattle.acpi_regs.specs.declared.event.Event.{Event}
use Rattle.acpi_regs.specs.declared.phase.LockPhase.{LockPhase}
use Rattle.acpi_regs.specs.declared.phase.LockPhase.TheVariants as phase
use Rattle.acpi_regs.specs.declared.phase.Pulse.{Pulse}
use Rattle.acpi_regs.specs.Actor.{same_actor}

-- Workers and firmware are in a phase of the lock. Int and poll are free, or hold the turn with the pin words that were
-- collected and the events in hand. A device has its pulses so far, the oldest first. The controller is always free.
pub data Phase : Type 0 where
  Lock : LockPhase → Phase
  Free : Phase
  Holding : (ℕ → Bool) → (Event → Bool) → Phase
  Pulsed : List Pulse → Phase

abbrev pub first_phase : Actor → Phase
first_phase (actor.Worker k) = Lock phase.Idle
first_phase (actor.Firmware k) = Lock phase.Idle
first_phase (actor.Device k) = Pulsed []
first_phase _ = Free

-- the phases, with one actor's changed
abbrev pub put : Actor → Phase → (Actor → Phase) → Actor → Phase
put a p phases b = if same_actor a b then p else phases b

-- ---- the lock's entries

abbrev pub is_lock_deed : Deed → Bool
is_lock_deed deed.Seek = true
is_lock_deed deed.Busy = true
is_lock_deed deed.Woken = true
is_lock_deed deed.Own = true
is_lock_deed deed.Disown = true
is_lock_deed (deed.Leave s) = true
is_lock_deed _ = false

abbrev pub is_idle : LockPhase → Bool
is_idle phase.Idle = true
is_idle _ = false

abbrev pub is_marked : LockPhase → Bool
is_marked phase.Marked = true
is_marked _ = false

abbrev pub is_waiting : LockPhase → Bool
is_waiting phase.Waiting = true
is_waiting _ = false

abbrev pub is_won : LockPhase → Bool
is_won phase.Won = true
is_won _ = false

abbrev pub is_owning : LockPhase → Bool
is_owning phase.Owning = true
is_owning _ = false

abbrev pub is_gone : Bool → LockPhase → Bool
is_gone true (phase.Gone true) = true
is_gone false (phase.Gone false) = true
is_gone _ _ = false

-- the entries that a phase allows: at most one of the lock's, and all others
abbrev pub allows : LockPhase → Deed → Bool
allows p deed.Seek = is_idle p
allows p deed.Busy = is_marked p
allows p deed.Woken = is_waiting p
allows p deed.Own = is_won p
allows p deed.Disown = is_owning p
allows p (deed.Leave s) = is_gone s p
allows p _ = true

-- the lock's entry that a phase allows
abbrev pub lock_deed : LockPhase → Option Deed
lock_deed phase.Idle = Some deed.Seek
lock_deed (phase.Seeking l) = None
lock_deed phase.Marked = Some deed.Busy
lock_deed phase.Waiting = Some deed.Woken
lock_deed phase.Won = Some deed.Own
lock_deed phase.Owning = Some deed.Disown
lock_deed phase.Quit = None
lock_deed (phase.Gone s) = Some (deed.Leave s)

-- the phase after an entry of its actor
abbrev pub moved : Deed → LockPhase → LockPhase
moved deed.Seek p = phase.Seeking None
moved deed.Busy p = phase.Waiting
moved deed.Woken p = phase.Seeking None
moved deed.Own p = phase.Owning
moved deed.Disown p = phase.Quit
moved (deed.Leave s) p = phase.Idle
moved _ p = p
