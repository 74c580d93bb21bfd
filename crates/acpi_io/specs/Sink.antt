-- What a write, and a writing of all bytes, do to the bytes that a sink holds, where it tells them.
use Rattle.std.specs.Prelude.{◌≡◌, ℕ, ◌+◌, ◌≤◌, List, ◌++◌, length, take, Option, Result, Ok, Err}
use Rattle.std.specs.Io.KnownBytes.{Appends, Keeps}
use Rattle.acpi_io.specs.declared.sink.WriteOutcome.{WriteOutcome}
use Rattle.acpi_io.specs.declared.sink.WriteOutcome.TheVariants as outcome
use Rattle.acpi_io.specs.declared.sink.WriteFault.{WriteFault}

-- a write added the first n bytes of the piece, or failed and added none
abbrev pub WriteAdds : WriteOutcome → Option (List ℕ) → Option (List ℕ) → List ℕ → Type 0
WriteAdds (outcome.Took n) old new piece = (1 ≤ n) × (n ≤ length piece) × Appends old new (take n piece)
WriteAdds outcome.Failed old new piece = Keeps old new

-- the bytes up to some place were added
abbrev pub AddsFront : Option (List ℕ) → Option (List ℕ) → List ℕ → Type 0
AddsFront old new bytes = (front back : List ℕ) × (bytes ≡ front ++ back) × Appends old new front

-- a writing added all bytes, or those up to some place
abbrev pub WritesAll : {U : Type 0} → Option (List ℕ) → Option (List ℕ) → List ℕ → Result U WriteFault → Type 0
WritesAll old new bytes (Ok _) = Appends old new bytes
WritesAll old new bytes (Err _) = AddsFront old new bytes

-- There were no more writes than bytes that were added, and one more at most where it failed.
abbrev pub AsksOncePerByte : {U : Type 0} → (old new : Option (List ℕ)) → (before now : ℕ) → List ℕ
    → Result U WriteFault → Type 0
AsksOncePerByte old new before now bytes (Ok _) = now ≤ before + length bytes
AsksOncePerByte old new before now bytes (Err _) = (front back : List ℕ) × (bytes ≡ front ++ back)
    × Appends old new front × (now ≤ before + (length front + 1))
