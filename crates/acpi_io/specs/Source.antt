-- What a read, and a reading to the end, do to the bytes that a source has left, where it tells them.
use Rattle.std.specs.Prelude.{◌≡◌, ℕ, ◌+◌, ◌≤◌, List, length, take, Option, Result, Ok, Err, Vec}
use Rattle.std.specs.Io.KnownBytes.{Consumes, Keeps, IsAtEnd}
use Rattle.std.specs.declared.alloc.Global.{Global}
use Rattle.acpi_io.specs.declared.source.ReadOutcome.{ReadOutcome}
use Rattle.acpi_io.specs.declared.source.ReadOutcome.TheVariants as outcome
use Rattle.acpi_io.specs.declared.source.ReadAllFault.{ReadAllFault}
use Rattle.acpi_io.specs.declared.source.ReadAllFault.TheVariants as fault

-- a read took the first n of the bytes that were left, found none left, or failed and left them as they were
abbrev pub ReadTakes : ReadOutcome → Option (List ℕ) → Option (List ℕ) → List ℕ → Type 0
ReadTakes (outcome.Took n) old new into = (1 ≤ n) × (n ≤ length into) × Consumes old new (take n into)
ReadTakes outcome.End old new into = IsAtEnd old × IsAtEnd new × Keeps old new
ReadTakes outcome.Failed old new into = Keeps old new

-- some of the first bytes were taken, at most this many
abbrev pub TakesUpTo : ℕ → Option (List ℕ) → Option (List ℕ) → Type 0
TakesUpTo most old new = (bytes : List ℕ) × (length bytes ≤ most) × Consumes old new bytes

-- exactly this many of the first bytes were taken
abbrev pub TakesExactly : ℕ → Option (List ℕ) → Option (List ℕ) → Type 0
TakesExactly count old new = (bytes : List ℕ) × (length bytes ≡ count) × Consumes old new bytes

-- a reading gave all bytes, of which there are no more than the limit, or took the first ones and gave none
abbrev pub ReadsAll : ℕ → Option (List ℕ) → Option (List ℕ) → Result (Vec ℕ Global) ReadAllFault → Type 0
ReadsAll limit old new (Ok v) = (length v.items ≤ limit) × Consumes old new v.items × IsAtEnd new
ReadsAll limit old new (Err fault.ReadFault) = TakesUpTo limit old new
ReadsAll limit old new (Err fault.TooLarge) = TakesExactly (limit + 1) old new
ReadsAll limit old new (Err fault.Memory) = TakesUpTo limit old new

-- A reading asked at most once more often than it got bytes.
abbrev pub AsksOncePerByte : (old new : Option (List ℕ)) → (before now : ℕ) → Result (Vec ℕ Global) ReadAllFault
    → Type 0
AsksOncePerByte old new before now (Ok v) = now ≤ before + (length v.items + 1)
AsksOncePerByte old new before now (Err _) = (bytes : List ℕ) × Consumes old new bytes
    × (now ≤ before + (length bytes + 1))
