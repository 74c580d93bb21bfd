-- The words of the program, and how much a command reads.
use Rattle.std.specs.Prelude.{◌≡◌, ◌+◌, ◌≤◌, ◌==◌, ℕ, Bool, true, false, not, List, [], ◌∷◌, map, codes, decimal, Option, Some, None, Result, Ok, Err, String, string_bytes}
use Rattle.std.specs.List.{list_all}
use Rattle.std.specs.declared.alloc.Global.{Global}
use Rattle.acpi_commands.specs.declared.command.Command.{Command}
use Rattle.acpi_commands.specs.declared.command.Command.TheVariants as command
use Rattle.acpi_commands.specs.declared.command.NoCommand.{NoCommand}
use Rattle.acpi_commands.specs.declared.command.NoCommand.TheVariants as why
use Rattle.acpi_commands.specs.declared.command.Task.{Task}
use Rattle.acpi_commands.specs.declared.command.Task.TheVariants as task

-- the word of a command that reads the source
abbrev pub word_of : Task → List ℕ
word_of task.Run = codes "run"
word_of task.Replay = codes "replay"
word_of task.Check = codes "check"

-- the words of a command; its numbers are in decimal, so without a sign and without a zero in front
abbrev pub words_of : Command → List (List ℕ)
words_of (command.Read t) = word_of t ∷ []
words_of (command.Make number size) = codes "make" ∷ decimal number ∷ decimal size ∷ []

-- the numbers of a command are in their ranges
abbrev pub IsInRange : Command → Type 0
IsInRange (command.Make number size) = (number ≤ 4294967295) × (1 ≤ size) × (size ≤ 64)
IsInRange _ = Unit {0}

-- these texts are exactly the words of this command
abbrev pub AreWordsOf : List (List ℕ) → Command → Type 0
AreWordsOf texts c = (texts ≡ words_of c) × IsInRange c

-- these texts are the words of this command, or of none
abbrev pub AreWords : List (List ℕ) → Option Command → Type 0
AreWords texts (Some c) = AreWordsOf texts c
AreWords texts None = (c : Command) → AreWordsOf texts c → ⊥

-- the words are exactly those of this command
abbrev pub IsCommand : List (String Global) → Command → Type 0
IsCommand words c = AreWordsOf (map string_bytes words) c

-- a word that may be one of a command: it is not empty, and does not start with `-` (45)
abbrev pub is_plain : List ℕ → Bool
is_plain [] = false
is_plain (x ∷ rest) = not (x == 45)

-- no word is empty or starts with `-`
abbrev pub are_plain : List (List ℕ) → Bool
are_plain texts = list_all is_plain texts

-- The words are this command, or no command. Memory may run out while words are read of which none is empty or starts
-- with `-`.
abbrev pub Commands : List (String Global) → Result Command NoCommand → Type 0
Commands words (Ok c) = IsCommand words c
Commands words (Err why.Usage) = (c : Command) → IsCommand words c → ⊥
Commands words (Err why.Memory) = are_plain (map string_bytes words) ≡ true

-- the greatest number of bytes that a command reads
abbrev pub limit_of : Task → ℕ
limit_of task.Run = 4194304
limit_of task.Replay = 4194304
limit_of task.Check = 67108864

-- how often a command asks the source at most
abbrev pub most_reads : Command → ℕ
most_reads (command.Read t) = limit_of t + 1
most_reads (command.Make number size) = 0
