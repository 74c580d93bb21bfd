-- A sink in memory: what the next call answers, and what it holds then.
use Rattle.std.specs.Prelude.{ℕ, ◌-◌, ◌==◌, ◌||◌, List, ◌++◌, length, take, min, if◌then◌else◌}
use Rattle.std.specs.List.{list_any}
use Rattle.acpi_io.specs.declared.sink.WriteOutcome.{WriteOutcome}
use Rattle.acpi_io.specs.declared.sink.WriteOutcome.TheVariants.{Took, Failed}
use Rattle.acpi_io.specs.Faults.{one_more}

-- the bytes that it holds, the numbers of the calls that fail, the most bytes that a call takes, the most that it
-- may hold, and how often it was called and failed
pub record SinkState : Type 0 where
  pub held : List ℕ
  pub failing : List ℕ
  pub most : ℕ
  pub room : ℕ
  pub calls : ℕ
  pub faults : ℕ

-- what a call with so many bytes answers
abbrev pub write_outcome : SinkState → ℕ → WriteOutcome
write_outcome s count =
    if (s.room - length s.held == 0) || list_any (λ call. call == s.calls) s.failing then Failed
    else Took (min (min s.most (s.room - length s.held)) count)

-- the sink after a call with these bytes that answered so
abbrev pub after_write : SinkState → WriteOutcome → List ℕ → SinkState
after_write s (Took n) piece = record s { held = s.held ++ take n piece; calls = one_more s.calls }
after_write s Failed piece = record s { calls = one_more s.calls; faults = one_more s.faults }
