-- What a call of the program did, by the status that it answered.
use Rattle.std.specs.Prelude.{◌≡◌, ℕ, ◌+◌, ◌≤◌, ◌⊎◌, List, length, map, Option, Some, Ok, Err, String, string_bytes, true}
use Rattle.std.specs.Io.KnownBytes.{Appends, Consumes, IsAtEnd}
use Rattle.std.specs.declared.alloc.Global.{Global}
use Rattle.acpi_io.specs.Sink.{AddsFront}
use Rattle.acpi_io.specs.Source.{TakesExactly, TakesUpTo}
use Rattle.acpi_regs.specs.declared.entry.Entry.{Entry}
use Rattle.machine_desc.specs.Machine.{MachineData}
use Rattle.machine_maker.specs.Summary.{summary}
use Rattle.machine_history.specs.Played.{Played}
use Rattle.machine_reader.specs.declared.fault.ReaderFault.{ReaderFault}
use Rattle.machine_reader.specs.declared.fault.ReaderFault.TheVariants as fault
use Rattle.machine_reader.specs.Canonical.{canonical}
use Rattle.machine_reader.specs.Description.{Describes}
use Rattle.history_text.specs.Text.{log_text}
use Rattle.acpi_commands.specs.declared.command.Command.{Command}
use Rattle.acpi_commands.specs.declared.command.Command.TheVariants as command
use Rattle.acpi_commands.specs.declared.command.Task.{Task}
use Rattle.acpi_commands.specs.declared.command.Task.TheVariants as task
use Rattle.acpi_commands.specs.declared.status.Status.{Status}
use Rattle.acpi_commands.specs.declared.status.Status.TheVariants as status
use Rattle.acpi_commands.specs.Check.{FromLog, IsCompleteLog}
use Rattle.acpi_commands.specs.Headline.{Ran}
use Rattle.acpi_commands.specs.Words.{IsCommand, are_plain, limit_of}

-- these are the bytes that the source gave up to its end, at most so many
abbrev pub ReadsWhole : ℕ → Option (List ℕ) → Option (List ℕ) → List ℕ → Type 0
ReadsWhole limit left left' bytes = (length bytes ≤ limit) × Consumes left left' bytes × IsAtEnd left'

-- the text of a machine and its history
abbrev pub text : MachineData → List Entry → List ℕ
text m history = log_text m (canonical m) history

-- the history that a command writes, where it writes one: of a run any, as its threads took turns; of a replay the
-- one that the machine plays, by its schedule and then in rounds
abbrev pub IsMade : Task → MachineData → List Entry → Type 0
IsMade task.Run m history = Unit {0}
IsMade task.Replay m history = Played m history
IsMade task.Check m history = ⊥

-- What a command makes of the bytes that it has read, and does with the text of that. The text is a log which `check`
-- takes for complete, and that of no other machine and history.
abbrev pub Makes : Task → List ℕ → (List ℕ → Type 0) → Type 0
Makes t bytes does =
    (m : MachineData) × (history : List Entry) × Ran bytes m history × IsMade t m history
    × IsCompleteLog (text m history) m history × does (text m history)

-- the status of a fault of the reader
abbrev pub status_of : ReaderFault → Status
status_of fault.NotJson = status.NotJson
status_of (fault.BadShape path) = status.BadShape path
status_of (fault.BadMachine bad) = status.BadMachine bad
status_of (fault.TooLong weight) = status.TooLong weight
status_of fault.Memory = status.Memory

-- Why the bytes are not run. Want of memory is free.
abbrev pub Refuses : List ℕ → Status → Type 0
Refuses bytes status.NotJson = Describes bytes (Err fault.NotJson)
Refuses bytes (status.BadShape path) = Describes bytes (Err (fault.BadShape path))
Refuses bytes (status.BadMachine bad) = Describes bytes (Err (fault.BadMachine bad))
Refuses bytes (status.TooLong weight) = Describes bytes (Err (fault.TooLong weight))
Refuses bytes status.Memory = Unit {0}
Refuses bytes _ = ⊥

-- the bytes are such as the command takes
abbrev pub IsTaken : Task → List ℕ → Type 0
IsTaken task.Check bytes = (m : MachineData) × (history : List Entry) × IsCompleteLog bytes m history
IsTaken _ bytes = (m : MachineData) × Describes bytes (Ok m)

-- The cause of each status that rests on the description which was read, and what the sink then holds.
abbrev pub FromBytes : Task → List ℕ → (sink_kept : Type 0) → (held held' : Option (List ℕ)) → Status → Type 0
FromBytes t bytes sink_kept held held' status.Ok = Makes t bytes (Appends held held')
FromBytes t bytes sink_kept held held' status.WriteFault = Makes t bytes (AddsFront held held')
FromBytes t bytes sink_kept held held' s = sink_kept × Refuses bytes s

-- the same of what a command reads: a log, or a description
abbrev pub Does : Task → List ℕ → (sink_kept : Type 0) → (held held' : Option (List ℕ)) → Status → Type 0
Does task.Check bytes sink_kept held held' s = FromLog bytes sink_kept held held' s
Does t bytes sink_kept held held' s = FromBytes t bytes sink_kept held held' s

-- the same of a command that reads the source, and of what it left of the source's bytes
abbrev pub ByTask : Task → (sink_kept : Type 0) → (left left' held held' : Option (List ℕ)) → Status → Type 0
ByTask t sink_kept left left' held held' status.ReadFault = sink_kept × TakesUpTo (limit_of t) left left'
ByTask t sink_kept left left' held held' status.TooLarge = sink_kept × TakesExactly (limit_of t + 1) left left'
ByTask t sink_kept left left' held held' status.Memory = sink_kept × TakesUpTo (limit_of t) left left'
ByTask t sink_kept left left' held held' s = (bytes : List ℕ) × ReadsWhole (limit_of t) left left' bytes
    × Does t bytes sink_kept held held' s

-- Of `make`: the summary of the machine was written, or a front of it; or memory was wanting, and nothing was written.
abbrev pub Summarizes : (number size : ℕ) → (sink_kept : Type 0) → (held held' : Option (List ℕ)) → Status → Type 0
Summarizes number size sink_kept held held' status.Ok = Appends held held' (summary number size)
Summarizes number size sink_kept held held' status.WriteFault = AddsFront held held' (summary number size)
Summarizes number size sink_kept held held' status.Memory = sink_kept
Summarizes number size sink_kept held held' _ = ⊥

-- The same of a command. `make` leaves the source as it was.
abbrev pub ByCommand : Command → (source_kept sink_kept : Type 0) → (left left' held held' : Option (List ℕ)) → Status
    → Type 0
ByCommand (command.Read t) source_kept sink_kept left left' held held' s = ByTask t sink_kept left left' held held' s
ByCommand (command.Make number size) source_kept sink_kept left left' held held' s = source_kept
    × Summarizes number size sink_kept held held' s

-- the words are a command, which did this
abbrev pub Obeys : List (String Global) → (source_kept sink_kept : Type 0) → (left left' held held' : Option (List ℕ))
    → Status → Type 0
Obeys words source_kept sink_kept left left' held held' s = (c : Command) × IsCommand words c
    × ByCommand c source_kept sink_kept left left' held held' s

-- The cause of each status, and what it left of the source's bytes and in the sink. Memory may run out while the
-- words are read, where none of them is empty or starts with `-`.
abbrev pub Answers : List (String Global) → (source_kept sink_kept : Type 0)
    → (left left' held held' : Option (List ℕ)) → Status → Type 0
Answers words source_kept sink_kept left left' held held' status.Usage = ((c : Command) → IsCommand words c → ⊥)
    × source_kept × sink_kept
Answers words source_kept sink_kept left left' held held' status.Memory =
    ((are_plain (map string_bytes words) ≡ true) × source_kept × sink_kept)
    ⊎ Obeys words source_kept sink_kept left left' held held' status.Memory
Answers words source_kept sink_kept left left' held held' s = Obeys words source_kept sink_kept left left' held held' s

-- the status is Ok, or Memory
abbrev pub IsOkOrMemory : Status → Type 0
IsOkOrMemory s = (s ≡ status.Ok) ⊎ (s ≡ status.Memory)

-- The words are a command that reads the source, which gives what the command takes, and neither count of faults
-- rose: then the status is Ok, or Memory. So it is where the words are `make`, and the sink's count did not rise.
pub record Completes (words : List (String Global)) (left : Option (List ℕ)) (read_rose write_rose : Type 0) (s : Status) : Type 0 where
  pub reads : (t : Task) (bytes : List ℕ) → IsCommand words (command.Read t) → left ≡ Some bytes
      → length bytes ≤ limit_of t → IsTaken t bytes → (read_rose → ⊥) → (write_rose → ⊥) → IsOkOrMemory s
  pub makes : (number size : ℕ) → IsCommand words (command.Make number size) → (write_rose → ⊥) → IsOkOrMemory s

-- the number with which the process ends
abbrev pub code_of : Status → ℕ
code_of status.Ok = 0
code_of status.Usage = 2
code_of status.NotJson = 3
code_of (status.BadShape path) = 3
code_of (status.BadMachine bad) = 3
code_of (status.TooLong weight) = 4
code_of status.ReadFault = 5
code_of status.WriteFault = 6
code_of status.Memory = 7
code_of status.TooLarge = 9
code_of (status.Illegal line broken) = 8
code_of (status.Unfinished a) = 8
code_of (status.BadLog n) = 10
