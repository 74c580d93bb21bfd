-- What a judging of a log did, by the status that it answered.
use Rattle.std.specs.Prelude.{ℕ, ◌<◌, ◌^◌, ◌≡◌, All, List, [], ◌∷◌, ◌++◌, length, Option, codes, decimal}
use Rattle.std.specs.Io.KnownBytes.{Appends}
use Rattle.acpi_io.specs.Sink.{AddsFront}
use Rattle.acpi_regs.specs.declared.entry.Entry.{Entry}
use Rattle.acpi_regs.specs.declared.event.Event.{Event}
use Rattle.history_text.specs.Lines.{BadLine, IsReadBack, log_lines}
use Rattle.history_text.specs.Named.{IsEntry, IsEvent}
use Rattle.history_text.specs.Text.{log_text}
use Rattle.machine_desc.specs.Machine.{MachineData}
use Rattle.machine_history.specs.Complete.{Complete}
use Rattle.machine_reader.specs.Canonical.{canonical}
use Rattle.run_checker.specs.declared.verdict.Verdict.{Verdict}
use Rattle.run_checker.specs.declared.verdict.Verdict.TheVariants as verdict
use Rattle.run_checker.specs.Verdict.{Judges}
use Rattle.acpi_commands.specs.declared.status.Status.{Status}
use Rattle.acpi_commands.specs.declared.status.Status.TheVariants as status

-- the bytes are the log of this complete history of a machine
pub record IsCompleteLog (bytes : List ℕ) (m : MachineData) (history : List Entry) : Type 0 where
  pub text_is : bytes ≡ log_text m (canonical m) history
  pub read_back : IsReadBack m
  pub named : All IsEntry history
  pub complete : Complete m history

-- the bytes are the lines of a log, and this is its verdict
pub record HasVerdict (bytes : List ℕ) (v : Verdict) : Type 0 where
  pub machine : MachineData
  pub entries : List Entry
  pub told : List Event
  pub last : ℕ
  pub text_is : bytes ≡ log_lines (canonical machine) entries told last
  pub read_back : IsReadBack machine
  pub entries_named : All IsEntry entries
  pub told_named : All IsEvent told
  pub small : last < 2 ^ 32
  pub judged : Judges machine entries told last v

-- what is written of a complete log of so many entries
abbrev pub complete_text : ℕ → List ℕ
complete_text n = codes "complete " ++ (decimal n ++ 10 ∷ [])

abbrev pub Judged : List ℕ → (List ℕ → Type 0) → Type 0
Judged bytes does = (m : MachineData) × (history : List Entry) × IsCompleteLog bytes m history
    × does (complete_text (length history))

-- Why the bytes are no complete log. Want of memory is free.
abbrev pub RefusesLog : List ℕ → Status → Type 0
RefusesLog bytes (status.BadLog n) = BadLine bytes n
RefusesLog bytes (status.Illegal line broken) = HasVerdict bytes (verdict.Illegal line broken)
RefusesLog bytes (status.Unfinished a) = HasVerdict bytes (verdict.Unfinished a)
RefusesLog bytes status.Memory = Unit {0}
RefusesLog bytes _ = ⊥

-- The cause of each status that rests on the bytes which were read, and what the sink then holds.
abbrev pub FromLog : List ℕ → (sink_kept : Type 0) → (held held' : Option (List ℕ)) → Status → Type 0
FromLog bytes sink_kept held held' status.Ok = Judged bytes (Appends held held')
FromLog bytes sink_kept held held' status.WriteFault = Judged bytes (AddsFront held held')
FromLog bytes sink_kept held held' s = sink_kept × RefusesLog bytes s
