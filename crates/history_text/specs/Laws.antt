-- Laws of the text of a log.
use Rattle.std.specs.Prelude.{ℕ, ◌<◌, ◌^◌, ◌≡◌, All, List}
use Rattle.acpi_regs.specs.declared.entry.Entry.{Entry}
use Rattle.acpi_regs.specs.declared.event.Event.{Event}
use Rattle.machine_desc.specs.Machine.{MachineData}
use Rattle.machine_reader.specs.Canonical.{canonical}
use Rattle.history_text.specs.Lines.{BadLine, IsReadBack, log_lines}
use Rattle.history_text.specs.Named.{IsEntry, IsEvent}
use Rattle.history_text.specs.Text.{log_text}

-- no bytes have two first bad lines
abbrev pub OneBadLine : Type 0
OneBadLine = (bytes : List ℕ) (n k : ℕ) → BadLine bytes n → BadLine bytes k → n ≡ k

-- the lines of a log have no bad one
abbrev pub NoBadLine : Type 0
NoBadLine = (m : MachineData) (entries : List Entry) (stuck : List Event) (rest n : ℕ) → IsReadBack m
    → All IsEntry entries → All IsEvent stuck → rest < 2 ^ 32 → BadLine (log_lines (canonical m) entries stuck rest) n
    → ⊥

-- bytes are the lines of one log at most
abbrev pub OneLog : Type 0
OneLog = (m n : MachineData) (entries others : List Entry) (stuck told : List Event) (rest last : ℕ)
    → All IsEntry entries → All IsEntry others → All IsEvent stuck → All IsEvent told → rest < 2 ^ 32 → last < 2 ^ 32
    → log_lines (canonical m) entries stuck rest ≡ log_lines (canonical n) others told last
    → (canonical m ≡ canonical n) × (entries ≡ others) × (stuck ≡ told) × (rest ≡ last)

-- no two machines have one canonical text
abbrev pub OneMachine : Type 0
OneMachine = (m n : MachineData) → IsReadBack m → IsReadBack n → canonical m ≡ canonical n → m ≡ n

-- no two pairs of machine and history have one text
abbrev pub OneText : Type 0
OneText = (m n : MachineData) (history other : List Entry) → IsReadBack m → IsReadBack n → All IsEntry history
    → All IsEntry other → log_text m (canonical m) history ≡ log_text n (canonical n) other
    → (m ≡ n) × (history ≡ other)
