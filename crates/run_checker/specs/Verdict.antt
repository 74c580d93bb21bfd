-- What a judge says of a log.
use Rattle.std.specs.Prelude.{ℕ, ◌+◌, ◌<◌, ◌≡◌, ◌⊎◌, List, ◌++◌, length, reverse, take, Some, slice_get}
use Rattle.acpi_regs.specs.declared.actor.Actor.{Actor}
use Rattle.acpi_regs.specs.declared.entry.Entry.{Entry}
use Rattle.acpi_regs.specs.declared.event.Event.{Event}
use Rattle.acpi_regs.specs.History.{before, past_of}
use Rattle.history_text.specs.Text.{stuck}
use Rattle.machine_desc.specs.Machine.{MachineData}
use Rattle.machine_history.specs.declared.rule.LogRule.{LogRule}
use Rattle.machine_history.specs.declared.rule.LogRule.TheVariants as rule
use Rattle.machine_history.specs.Complete.{Complete}
use Rattle.machine_history.specs.Legal.{Legal, refusal}
use Rattle.run_checker.specs.declared.verdict.Verdict.{Verdict}
use Rattle.run_checker.specs.declared.verdict.Verdict.TheVariants as verdict
use Rattle.run_checker.specs.Reasons.{IsFirstUnfinished}

-- ---- entries

-- The entries before one are legal, and that one is not allowed, by this rule. The machine has the first line, and
-- each entry one of its own.
pub record BrokenAt (m : MachineData) (entries : List Entry) (line : ℕ) (broken : LogRule) : Type 0 where
  pub place : ℕ
  pub entry : Entry
  pub here : slice_get entries place ≡ Some entry
  pub legal : Legal m (before entries place)
  pub refused : refusal m (past_of entries place) entry ≡ Some broken
  pub at_line : line ≡ place + 2

-- ---- the lines behind them

-- the stuck lines are those of the history, and the number is that of its entries
abbrev pub IsRightEnd : MachineData → List Entry → List Event → ℕ → Type 0
IsRightEnd m entries told last = (told ≡ stuck m entries) × (last ≡ length entries)

-- the first stuck line, by its place among them, that is not the history's
abbrev pub DiffersAt : List Event → List Event → ℕ → Type 0
DiffersAt told given j = (take j told ≡ take j given) × (j < length told) × (slice_get told j ≡ slice_get given j → ⊥)

-- the first line behind the entries that is not what the history gives: a stuck line, or the last where the stuck
-- lines are those of the history as far as they go, and one is missing or the number is another
abbrev pub IsWrongLine : MachineData → List Entry → List Event → ℕ → ℕ → Type 0
IsWrongLine m entries told last line =
    ((j : ℕ) × DiffersAt told (stuck m entries) j × (line ≡ length entries + j + 2))
    ⊎ ((missing : List Event) × (stuck m entries ≡ told ++ missing) × (IsRightEnd m entries told last → ⊥)
    × (line ≡ length entries + length told + 2))

-- ---- the verdict

abbrev pub Judges : MachineData → List Entry → List Event → ℕ → Verdict → Type 0
Judges m entries told last verdict.Complete = Complete m entries × IsRightEnd m entries told last
Judges m entries told last (verdict.Illegal line broken) = BrokenAt m entries line broken
    ⊎ (Legal m entries × IsWrongLine m entries told last line × (broken ≡ rule.Rest))
Judges m entries told last (verdict.Unfinished a) = Legal m entries × IsRightEnd m entries told last
    × IsFirstUnfinished m (reverse entries) a
