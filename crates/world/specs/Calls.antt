-- What an actor asks of a world, and what a call of it did.
use Rattle.std.specs.Prelude.{Bool, List, Option}
use Rattle.acpi_regs.specs.declared.entry.Deed.{Deed}
use Rattle.acpi_regs.specs.declared.entry.Entry.{Entry}
use Rattle.acpi_regs.specs.declared.event.Event.{Event}
use Rattle.lock_table.specs.declared.words.Attempt.{Attempt}

-- An attempt at the lock with its answer. A release, and whether it found Pending. A pulse of an event, and whether
-- its pin was clear. A turn: whether it collected the pins, the journal that it found, the journal that it left, and
-- the events that it collected. A turn that was out.
pub data Call : Type 0 where
  Attempted : Attempt → Call
  Released : Bool → Call
  Pulsed_at : Event → Bool → Call
  Turned : Bool → List Entry → List Entry → List Event → Call
  Missed : Call

-- A turn is asked for with whether it collects, and with the lock's entry that it may add.
pub data Want : Type 0 where
  To_attempt : Want
  To_release : Want
  To_pulse : Event → Want
  To_turn : Bool → Option Deed → Want
