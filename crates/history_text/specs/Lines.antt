-- Bytes as the lines of a log, and the first line that has no form that may stand there. What a line is, is told by
-- writing alone: a line of an entry is a line that is written for some entry.
use Rattle.std.specs.Prelude.{ℕ, zero, suc, ◌<◌, ◌^◌, ◌≡◌, List, [], ◌∷◌, ◌++◌, length, slice_index, codes, Ok}
use Rattle.acpi_regs.specs.declared.entry.Entry.{Entry}
use Rattle.acpi_regs.specs.declared.event.Event.{Event}
use Rattle.machine_desc.specs.Machine.{MachineData}
use Rattle.machine_reader.specs.Canonical.{canonical}
use Rattle.machine_reader.specs.Description.{Describes}
use Rattle.history_text.specs.Named.{IsEntry, IsEvent}
use Rattle.history_text.specs.Text.{entry_lines, entry_text, machine_line, rest_line, rest_text, stuck_lines, stuck_text}

-- ---- the lines of a log

-- the machine's line, without its newline
abbrev pub machine_text : List ℕ → List ℕ
machine_text canonical = codes "machine " ++ canonical

-- what stands behind the machine's line
abbrev pub body_lines : List Entry → List Event → ℕ → List ℕ
body_lines entries stuck rest = entry_lines entries ++ (stuck_lines stuck ++ rest_line rest)

-- the lines of a log: the machine's, one an entry, one for each event that is told as stuck, and the last with its
-- number
abbrev pub log_lines : List ℕ → List Entry → List Event → ℕ → List ℕ
log_lines canonical entries stuck rest = machine_line canonical ++ body_lines entries stuck rest

-- ---- machines

-- its canonical text describes the machine: so it is with each machine whose weight is within the limit
abbrev pub IsReadBack : MachineData → Type 0
IsReadBack m = Describes (canonical m) (Ok m)

-- the text is the canonical one of the machine that it describes
abbrev pub IsCanonical : List ℕ → Type 0
IsCanonical text = (m : MachineData) × Describes text (Ok m) × (canonical m ≡ text)

-- ---- other bytes

-- no byte of it is a newline
abbrev pub IsLine : List ℕ → Type 0
IsLine line = (k : ℕ) → k < length line → slice_index line k ≡ 10 → ⊥

-- the bytes begin with this line and its newline
abbrev pub Begins : List ℕ → List ℕ → List ℕ → Type 0
Begins bytes line rest = IsLine line × (bytes ≡ line ++ 10 ∷ rest)

-- a place in a log: at its start, or behind the machine's line or an entry, behind a stuck line, behind the last line
pub data Place : Type 0 where
  Start : Place
  Entries : Place
  Stuck : Place
  End : Place

abbrev pub IsMachineText : List ℕ → Type 0
IsMachineText line = (text : List ℕ) × IsCanonical text × (machine_text text ≡ line)

abbrev pub IsEntryText : List ℕ → Type 0
IsEntryText line = (e : Entry) × IsEntry e × (entry_text e ≡ line)

abbrev pub IsStuckText : List ℕ → Type 0
IsStuckText line = (n : Event) × IsEvent n × (stuck_text n ≡ line)

abbrev pub IsRestText : List ℕ → Type 0
IsRestText line = (k : ℕ) × (k < 2 ^ 32) × (rest_text k ≡ line)

-- a line may stand at a place, and leads to the next
abbrev pub Leads : Place → List ℕ → Place → Type 0
Leads Start line Entries = IsMachineText line
Leads Entries line Entries = IsEntryText line
Leads Entries line Stuck = IsStuckText line
Leads Entries line End = IsRestText line
Leads Stuck line Stuck = IsStuckText line
Leads Stuck line End = IsRestText line
Leads _ line _ = ⊥

-- nothing is missing: the last line was read, and nothing stands behind it
abbrev pub IsWhole : Place → List ℕ → Type 0
IsWhole End bytes = bytes ≡ []
IsWhole _ bytes = ⊥

-- In bytes that go on from a place, this is the number, from 1, of the first line that may not stand there. Where the
-- bytes end before a line has its newline, or before the last line stands, it is the number of the line that is
-- missing.
abbrev pub Bad : Place → List ℕ → ℕ → Type 0
Bad place bytes zero = ⊥
Bad place bytes (suc zero) = (IsWhole place bytes → ⊥)
    × ((line rest : List ℕ) (next : Place) → Begins bytes line rest → Leads place line next → ⊥)
Bad place bytes (suc (suc n)) = (line : List ℕ) × (rest : List ℕ) × (next : Place) × Begins bytes line rest
    × Leads place line next × Bad next rest (suc n)

-- the first bad line of a log
abbrev pub BadLine : List ℕ → ℕ → Type 0
BadLine bytes n = Bad Start bytes n
