-- Sets of events, as five words.
use Rattle.std.specs.Prelude.{◌≡◌, ℕ, ◌<◌, Bool, List, ◌∷◌}
use Rattle.acpi_regs.specs.declared.event.Event.{Event}
use Rattle.acpi_regs.specs.Event.{bit_of, event_rank, word_of}
use Rattle.lock_table.specs.declared.words.Bits.{Bits}
use Rattle.lock_table.specs.Pins.{pins_of}

-- the five words: the fixed events, and the GPEs by 64
abbrev pub words_of : Bits → List ℕ
words_of b = b.fixed ∷ b.gpe

-- the event is in the set
abbrev pub is_set : Bits → Event → Bool
is_set b n = pins_of (words_of b) n

-- the event's number is a byte
abbrev pub IsEvent : Event → Type 0
IsEvent n = event_rank n < 261

-- two events have one place only where they are one event
abbrev pub PlacesAreDistinct : Type 0
PlacesAreDistinct = (a b : Event) → word_of a ≡ word_of b → bit_of a ≡ bit_of b → a ≡ b

-- a place is one of 64 bits of one of five words
abbrev pub PlacesFit : Type 0
PlacesFit = (n : Event) → IsEvent n → (word_of n < 5) × (bit_of n < 64)
