-- For private clauses: what is kept while the lines of one kind are read.
use Rattle.std.specs.Prelude.{ℕ, suc, ◌+◌, ◌≤◌, ◌≡◌, All, List, ◌++◌, length}
use Rattle.acpi_regs.specs.declared.entry.Entry.{Entry}
use Rattle.acpi_regs.specs.declared.event.Event.{Event}
use Rattle.history_text.specs.declared.fault.LogFault.{LogFault}
use Rattle.history_text.specs.declared.fault.LogFault.TheVariants as fault
use Rattle.history_text.specs.Lines.{Bad, Begins, Entries, IsEntryText, IsStuckText, Place, Stuck}
use Rattle.history_text.specs.Named.{IsEntry, IsEvent}
use Rattle.history_text.specs.Text.{entry_lines, entry_text, stuck_lines, stuck_text}

-- the first line is the text of no entry, or of no stuck line
abbrev pub NoEntryNext : List ℕ → Type 0
NoEntryNext bytes = (line rest : List ℕ) → Begins bytes line rest → IsEntryText line → ⊥

abbrev pub NoStuckNext : List ℕ → Type 0
NoStuckNext bytes = (line rest : List ℕ) → Begins bytes line rest → IsStuckText line → ⊥

-- the bytes begin with the line of this entry, or with this stuck line
abbrev pub EntryNext : List ℕ → Entry → List ℕ → Type 0
EntryNext bytes e rest = Begins bytes (entry_text e) rest × IsEntry e

abbrev pub StuckNext : List ℕ → Event → List ℕ → Type 0
StuckNext bytes n rest = Begins bytes (stuck_text n) rest × IsEvent n

pub record EntriesRead (bytes : List ℕ) (entries : List Entry) (left : List ℕ) : Type 0 where
  pub text : bytes ≡ entry_lines entries ++ left
  pub named : All IsEntry entries
  pub len : length entries + length left ≤ length bytes
  pub bad : (n : ℕ) → Bad Entries left (suc n) → Bad Entries bytes (suc (length entries + n))

pub record StuckRead (bytes : List ℕ) (events : List Event) (left : List ℕ) : Type 0 where
  pub text : bytes ≡ stuck_lines events ++ left
  pub named : All IsEvent events
  pub len : length events + length left ≤ length bytes
  pub bad : (n : ℕ) → Bad Stuck left (suc n) → Bad Stuck bytes (suc (length events + n))

-- a fault that names a line names the first bad one
abbrev pub Names : Place → List ℕ → LogFault → Type 0
Names place bytes (fault.BadLine n) = Bad place bytes n
Names place bytes fault.Memory = Unit {0}

-- the same, counted from the line before
abbrev pub NamesNext : Place → List ℕ → LogFault → Type 0
NamesNext place bytes (fault.BadLine n) = (k : ℕ) × (n ≡ k + 1) × Bad place bytes k
NamesNext place bytes fault.Memory = Unit {0}

-- and its number is small
abbrev pub IsSmall : List ℕ → LogFault → Type 0
IsSmall bytes (fault.BadLine n) = n ≤ length bytes + 2
IsSmall bytes fault.Memory = Unit {0}
