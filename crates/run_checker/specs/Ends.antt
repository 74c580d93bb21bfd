-- For private clauses: what is found in the entries of a log beside what a board tells.
use Rattle.std.specs.Prelude.{ℕ, ◌+◌, ◌-◌, ◌<◌, ◌≡◌, ◌↔◌, ◌⊎◌, zero, suc, nat_lt, Bool, true, false, All, IsTrue, List, [], ◌∷◌, ◌++◌, length, Option, Some, None, slice_get, if◌then◌else◌}
use Rattle.acpi_regs.specs.declared.actor.Actor.{Actor}
use Rattle.acpi_regs.specs.declared.actor.Actor.TheVariants as actor
use Rattle.acpi_regs.specs.declared.actor.Side.{Side}
use Rattle.acpi_regs.specs.declared.actor.Side.TheVariants as side
use Rattle.acpi_regs.specs.declared.entry.Deed.{Deed}
use Rattle.acpi_regs.specs.declared.entry.Deed.TheVariants as deed
use Rattle.acpi_regs.specs.declared.entry.Effect.TheVariants as effect
use Rattle.acpi_regs.specs.declared.entry.Entry.{Entry}
use Rattle.acpi_regs.specs.declared.event.Event.{Event}
use Rattle.acpi_regs.specs.Actor.{stands_on}
use Rattle.acpi_regs.specs.Event.{same_event}
use Rattle.acpi_regs.specs.Lock.{busies, busies_in, leaves, signals_in}
use Rattle.lock_table.specs.declared.words.Bits.{Bits}
use Rattle.lock_table.specs.Bits.{IsEvent, is_set}
use Rattle.machine_desc.specs.Machine.{MachineData}
use Rattle.machine_history.specs.Events.{latches}
use Rattle.machine_history.specs.Machine.{times}
use Rattle.machine_history.specs.Wire.{asks_code, codes, is_query, open_of}
use Rattle.run_checker.specs.declared.ending.Ending.{Ending}
use Rattle.run_checker.specs.declared.ending.Ending.TheVariants as ending
use Rattle.run_checker.specs.declared.ends.Ends.{Ends}
use Rattle.run_checker.specs.declared.ends.Queue.{Queue}
use Rattle.run_checker.specs.declared.ends.Signals.{Signals}
use Rattle.run_checker.specs.Reasons.{Code, CtlMove, Has, HostMove, Job, Pending, Pulse, Run, Script, Seeks, answerable, first_after, first_leaver}
use Rattle.run_checker.specs.Verdict.{DiffersAt}

-- ---- query codes

abbrev pub queue_of : List Entry → Queue
queue_of past = record { asks = asks_code (open_of past); waiting = length (codes past) }

abbrev pub queue_after : Deed → Queue → Queue
queue_after (deed.Begin r) q = record q { asks = is_query r }
queue_after (deed.Take v) q = record q { asks = false }
queue_after (deed.Push c) q = record q { waiting = q.waiting + 1 }
queue_after (deed.Ctl (effect.Out v)) q = record q { waiting = if q.asks then q.waiting - 1 else q.waiting }
queue_after d q = q

-- ---- signals

abbrev pub signals_of : Side → List Entry → Signals
signals_of s past = record { leaves = leaves s past; busies = busies s past; first = first_leaver s past }

abbrev pub signals_after : Side → Actor → Deed → Signals → Signals
signals_after s a d old = record {
  leaves = (if stands_on s a then signals_in d else 0) + old.leaves;
  busies = (if stands_on s a then busies_in d else 0) + old.busies;
  first = first_after s a d old.first;
}

-- ---- latches

abbrev pub AreLatched : List Entry → Bits → Type 0
AreLatched past bits = (n : Event) → IsEvent n → is_set bits n ≡ nat_lt 0 (latches past n)

-- an entry latches this event
abbrev pub latches_it : Deed → Event → Bool
latches_it (deed.Latch x) n = same_event x n
latches_it d n = false

-- a pulse of a list has no bit
abbrev pub Misses : Bits → List Event → Type 0
Misses bits pulses = (n : Event) × IsEvent n × (0 < times n pulses) × (is_set bits n ≡ false)

abbrev pub AllSet : Bits → List Event → Type 0
AllSet bits pulses = All (λ n. IsEvent n × (is_set bits n ≡ true)) pulses

abbrev pub SomeMisses : Bits → List (List Event) → Type 0
SomeMisses bits lists = (k : ℕ) × (pulses : List Event) × (slice_get lists k ≡ Some pulses) × Misses bits pulses

abbrev pub AllListsSet : Bits → List (List Event) → Type 0
AllListsSet bits lists = All (AllSet bits) lists

-- ---- all of it

pub record AreEnds (m : MachineData) (past : List Entry) (ends : Ends) : Type 0 where
  pub code_is : IsTrue ends.code ↔ Has m past actor.Int Code
  pub pulse_is : IsTrue ends.pulse ↔ Has m past actor.Int Pulse
  pub os_is : ends.os ≡ answerable side.Os past
  pub firmware_is : ends.firmware ≡ answerable side.Firmware past

-- the reasons of an actor's own kind
abbrev pub HasOwn : MachineData → List Entry → Actor → Type 0
HasOwn m past actor.Int = Has m past actor.Int Pending ⊎ (Has m past actor.Int Code ⊎ Has m past actor.Int Pulse)
HasOwn m past actor.Poll = Has m past actor.Poll HostMove
HasOwn m past (actor.Worker zero) = Has m past (actor.Worker 0) Job ⊎ Has m past (actor.Worker 0) Run
HasOwn m past (actor.Worker (suc k)) = Has m past (actor.Worker (suc k)) Run
HasOwn m past actor.Ec = Has m past actor.Ec CtlMove
HasOwn m past (actor.Device k) = ⊥
HasOwn m past (actor.Firmware k) = Has m past (actor.Firmware k) Script ⊎ Has m past (actor.Firmware k) Seeks

-- ---- stuck lines

-- The events of the stuck lines are all that the history gives; all but some; or differ at a place. The number is
-- that of the stuck lines, or the place.
abbrev pub Tells : List Event → List Event → Ending → Type 0
Tells told given (ending.Right j) = (told ≡ given) × (j ≡ length told)
Tells told given (ending.Missing j) = (missing : List Event) × (given ≡ told ++ missing) × (missing ≡ [] → ⊥)
    × (j ≡ length told)
Tells told given (ending.Other j) = DiffersAt told given j

abbrev pub number_of : Ending → ℕ
number_of (ending.Right j) = j
number_of (ending.Missing j) = j
number_of (ending.Other j) = j
