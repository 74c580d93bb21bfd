-- Text that goes to a sink in pieces: part of it was handed over, and the rest waits.
use Rattle.std.specs.Prelude.{◌≡◌, ℕ, List, ◌++◌, Option, Result, Ok, Err}
use Rattle.std.specs.Io.KnownBytes.{Appends}
use Rattle.acpi_io.specs.Sink.{AddsFront}
use Rattle.acpi_io.specs.declared.sink.WriteFault.{WriteFault}

-- of this text, the sink took all but what waits at its end
abbrev pub Leaves : Option (List ℕ) → Option (List ℕ) → List ℕ → List ℕ → Type 0
Leaves old new text waiting = (front : List ℕ) × (text ≡ front ++ waiting) × Appends old new front

-- a step left this waiting of the text, or failed with a front of the text taken
abbrev pub GoesOn : {U : Type 0} → Option (List ℕ) → Option (List ℕ) → List ℕ → List ℕ → Result U WriteFault → Type 0
GoesOn old new text waiting (Ok _) = Leaves old new text waiting
GoesOn old new text waiting (Err _) = AddsFront old new text
