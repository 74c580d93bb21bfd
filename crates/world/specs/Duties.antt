-- What an actor may do with the board in one turn, and what a turn tells of it.
use Rattle.std.specs.Prelude.{◌≡◌, ◌<◌, ◌&&◌, nat_lt, Bool, true, false, List, [], ◌∷◌, ◌++◌, map, reverse, Option, Some, None, if◌then◌else◌}
use Rattle.acpi_regs.specs.declared.actor.Actor.{Actor}
use Rattle.acpi_regs.specs.declared.entry.Deed.{Deed}
use Rattle.acpi_regs.specs.declared.entry.Deed.TheVariants as deed
use Rattle.acpi_regs.specs.declared.entry.Entry.{Entry}
use Rattle.acpi_regs.specs.declared.event.Event.{Event}
use Rattle.acpi_regs.specs.Core.{all_events}
use Rattle.acpi_regs.specs.Event.{event_rank}
use Rattle.acpi_regs.specs.Phases.{is_lock_deed}
use Rattle.lock_table.specs.declared.words.Bits.{Bits}
use Rattle.lock_table.specs.Bits.{is_set}
use Rattle.machine_desc.specs.Machine.{MachineData}
use Rattle.machine_history.specs.Events.{latches}
use Rattle.machine_history.specs.Legal.{Allowed}
use Rattle.machine_history.specs.Machine.{pulses_of}
use Rattle.machine_history.specs.Steps.{entry, latch}
use Rattle.world.specs.declared.turn.Acted.{Acted}
use Rattle.world.specs.declared.turn.Acted.TheVariants as acted
use Rattle.world.specs.declared.turn.TurnOutcome.{TurnOutcome}
use Rattle.world.specs.declared.turn.TurnOutcome.TheVariants as turn
use Rattle.world.specs.Calls.{Call, Missed, Turned}

-- the entry of an actor, where it makes one
abbrev pub added : Actor → Option Deed → List Entry
added a None = []
added a (Some d) = entry a d ∷ []

-- the entry, where there is one, is allowed
abbrev pub IsAllowed : MachineData → List Entry → Actor → Option Deed → Type 0
IsAllowed m past a None = Unit {0}
IsAllowed m past a (Some d) = Allowed m past (entry a d)

-- whether anything was added
abbrev pub did : List Entry → Acted
did [] = acted.Nothing
did (e ∷ new) = acted.Did

-- the events of a set of pins; no other bit stands for one
abbrev pub pinned : Bits → Event → Bool
pinned bits n = nat_lt (event_rank n) all_events && is_set bits n

-- each event of this set has fewer latches so far than pulses in the device lists
abbrev pub AreLatchable : MachineData → List Entry → (Event → Bool) → Type 0
AreLatchable m entries set = (n : Event) → set n ≡ true → latches (reverse entries) n < pulses_of m n

-- ---- the rules of each turn

abbrev pub is_latch : Deed → Bool
is_latch (deed.Latch n) = true
is_latch _ = false

abbrev pub HasNoLatch : List Deed → Type 0
HasNoLatch [] = Unit {0}
HasNoLatch (d ∷ deeds) = (is_latch d ≡ false) × HasNoLatch deeds

-- of the lock's entries at most the one that is named, and that one once
abbrev pub IsWithin : Option Deed → List Deed → Type 0
IsWithin lock [] = Unit {0}
IsWithin lock (d ∷ deeds) = (is_lock_deed d ≡ true → lock ≡ Some d)
    × IsWithin (if is_lock_deed d then None else lock) deeds

-- A turn adds entries of its actor alone: first a latch of each event that was collected, in their order, and then
-- what is no latch, and of the lock's entries at most the one that is named. It answers Nothing exactly where it
-- added nothing.
pub record IsTurn (a : Actor) (lock : Option Deed) (before after : List Entry) (events : List Event) (answer : Acted) : Type 0 where
  pub deeds : List Deed
  pub adds : after ≡ before ++ (map (latch a) events ++ map (entry a) deeds)
  pub latches_first : HasNoLatch deeds
  pub locks : IsWithin lock deeds
  pub answers : answer ≡ did (map (latch a) events ++ map (entry a) deeds)

-- ---- what a turn tells

-- Given what the calls of a world make, and what a duty does: a turn that is done collected only where that was
-- asked, and did what the duty does. Where the turn was out, the duty is unchanged.
abbrev pub TurnSays : {W D : Type 0} → (W → Actor → Call → W → Type 0)
    → (D → D → List Entry → List Entry → List Event → Acted → Type 0) → Actor → Bool → W → D → TurnOutcome → W → D
    → Type 0
TurnSays makes does a collect w d (turn.Done r) w' d' = (before after : List Entry) × (events : List Event)
    × (collect ≡ false → events ≡ []) × makes w a (Turned collect before after events) w'
    × does d d' before after events r
TurnSays makes does a collect w d turn.Out w' d' = makes w a Missed w' × (d' ≡ d)
