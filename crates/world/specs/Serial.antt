-- The world of one thread: a board and plain words, which each call changes as the events of the core do.
use Rattle.std.specs.Prelude.{ℕ, ◌≡◌, ◌||◌, not, Bool, true, false, if◌then◌else◌}
use Rattle.acpi_regs.specs.declared.actor.Actor.{Actor}
use Rattle.acpi_regs.specs.declared.event.Event.{Event}
use Rattle.acpi_regs.specs.Core.{Core, events_of, no_event}
use Rattle.acpi_regs.specs.Event.{same_event}
use Rattle.acpi_regs.specs.Phases.{Phase}
use Rattle.facs_word.specs.Word.{acquired, is_owned, is_pending, released}
use Rattle.lock_table.specs.declared.words.Attempt.{Attempt}
use Rattle.lock_table.specs.declared.words.Attempt.TheVariants as attempt
use Rattle.lock_table.specs.declared.words.Words.{Words}
use Rattle.machine_core.specs.Board.{BoardData}
use Rattle.world.specs.Calls.{Attempted, Call, Missed, Pulsed_at, Released, To_turn, Turned, Want}
use Rattle.world.specs.Duties.{AreLatchable, pinned}

pub record Serial : Type 0 where
  pub board : BoardData
  pub words : Words

-- the events whose pins are set
abbrev pub pins_of : Serial → Event → Bool
pins_of w = pinned w.words.pins

-- the core that a world and the actors' phases stand for
abbrev pub core_of : Serial → (Actor → Phase) → Core
core_of w phases = record { word = w.words.facs; pins = pins_of w; history = w.board.entries; phases = phases }

-- the board, the word of the lock and the pins are these
abbrev pub Has : Serial → BoardData → ℕ → (Event → Bool) → Type 0
Has w board word pins = (w.board ≡ board) × (w.words.facs ≡ word) × (pins_of w ≡ pins)

-- an attempt that nobody comes between
abbrev pub attempt_of : ℕ → Attempt
attempt_of word = if is_owned word then attempt.Marked word else attempt.Won

abbrev pub with_pin : Event → (Event → Bool) → Event → Bool
with_pin n pins x = pins x || same_event x n

-- the pins that a turn collects, and those that it leaves
abbrev pub collected : Bool → (Event → Bool) → Event → Bool
collected true pins = pins
collected false pins = no_event

abbrev pub left : Bool → (Event → Bool) → Event → Bool
left true pins = no_event
left false pins = pins

-- each call makes of board and words, with its answer, what the events of the core make, and leaves all else
abbrev pub SerialMakes : Serial → Actor → Call → Serial → Type 0
SerialMakes w a (Attempted r) w' = (r ≡ attempt_of w.words.facs) × Has w' w.board (acquired w.words.facs) (pins_of w)
SerialMakes w a (Released b) w' = (b ≡ is_pending w.words.facs) × Has w' w.board (released w.words.facs) (pins_of w)
SerialMakes w a (Pulsed_at n clear) w' = (clear ≡ not (pins_of w n))
    × Has w' w.board w.words.facs (with_pin n (pins_of w))
SerialMakes w a (Turned collect before after events) w' = (before ≡ w.board.entries)
    × (events ≡ events_of (collected collect (pins_of w)))
    × Has w' (record w.board { entries = after }) w.words.facs (left collect (pins_of w))
SerialMakes w a Missed w' = ⊥

-- a turn may collect where a latch of each set pin is allowed
abbrev pub SerialMay : Serial → Actor → Want → Type 0
SerialMay w a (To_turn collect lock) = collect ≡ true → AreLatchable w.board.machine w.board.entries (pins_of w)
SerialMay w a _ = Unit {0}
