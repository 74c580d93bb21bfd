-- The pins as five words: fixed events in the first by their PM1 bits (ACPI 6.5, section 4.8.3.1), GPEs in the
-- others, 64 a word.
use Rattle.std.specs.Prelude.{ℕ, ◌==◌, Bool, List, slice_index}
use Rattle.std.specs.Int.{bit_at}
use Rattle.acpi_regs.specs.declared.event.Event.{Event}
use Rattle.acpi_regs.specs.Event.{bit_of, word_of}

-- the events whose bits are set in these words
abbrev pub pins_of : List ℕ → Event → Bool
pins_of words n = bit_at (slice_index words (word_of n)) (bit_of n) == 1
