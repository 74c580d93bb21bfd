-- A source in memory: what the next call answers, and what it leaves.
use Rattle.std.specs.Prelude.{ℕ, ◌==◌, List, length, drop, min, if◌then◌else◌}
use Rattle.std.specs.List.{list_any}
use Rattle.acpi_io.specs.declared.source.ReadOutcome.{ReadOutcome}
use Rattle.acpi_io.specs.declared.source.ReadOutcome.TheVariants.{Took, End, Failed}
use Rattle.acpi_io.specs.Faults.{one_more}

-- the bytes that are left, the numbers of the calls that fail, the most bytes that a call gives, and how often it
-- was called and failed
pub record SourceState : Type 0 where
  pub left : List ℕ
  pub failing : List ℕ
  pub most : ℕ
  pub calls : ℕ
  pub faults : ℕ

-- what a call with room for so many bytes answers
abbrev pub read_outcome : SourceState → ℕ → ReadOutcome
read_outcome s room =
    if list_any (λ call. call == s.calls) s.failing then Failed
    else if length s.left == 0 then End
    else Took (min (min s.most room) (length s.left))

-- the source after a call that answered so
abbrev pub after_read : SourceState → ReadOutcome → SourceState
after_read s (Took n) = record s { left = drop n s.left; calls = one_more s.calls }
after_read s End = record s { calls = one_more s.calls }
after_read s Failed = record s { calls = one_more s.calls; faults = one_more s.faults }
