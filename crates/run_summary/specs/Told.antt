-- What a history is counted for in the summary of a run.
use Rattle.std.specs.Prelude.{ℕ, ◌+◌, ◌==◌, ◌&&◌, not, Bool, false, List, [], ◌∷◌, Option, Some, slice_get, if◌then◌else◌}
use Rattle.acpi_regs.specs.declared.actor.Actor.{Actor}
use Rattle.acpi_regs.specs.declared.actor.Actor.TheVariants as actor
use Rattle.acpi_regs.specs.declared.entry.Cell.{Cell}
use Rattle.acpi_regs.specs.declared.entry.Deed.{Deed}
use Rattle.acpi_regs.specs.declared.entry.Deed.TheVariants as deed
use Rattle.acpi_regs.specs.declared.entry.Entry.{Entry}
use Rattle.machine_desc.specs.Machine.{MachineData}
use Rattle.machine_desc.specs.Weight.{weight_of}
use Rattle.machine_history.specs.declared.parts.Job.{Job}
use Rattle.machine_history.specs.declared.parts.Job.TheVariants as job
use Rattle.machine_history.specs.Jobs.{jobs}
use Rattle.machine_history.specs.Values.{value}
use Rattle.machine_history.specs.Wire.{is_query}
use Rattle.machine_maker.specs.Maker.{each_of}
use Rattle.machine_maker.specs.Summary.{summary_text}
use Rattle.run_summary.specs.declared.tally.Tally.{Tally}

-- ---- additions: the bytes that firmware writes

abbrev pub adds_by : Actor → Deed → ℕ
adds_by (actor.Firmware k) (deed.Write c v) = 1
adds_by a d = 0

abbrev pub adds : List Entry → ℕ
adds [] = 0
adds (e ∷ past) = adds_by e.actor e.deed + adds past

-- ---- runs: the starts of jobs that run the handler of a code

abbrev pub is_code : Option Job → ℕ
is_code (Some (job.Code q)) = 1
is_code _ = 0

abbrev pub runs_by : List Job → Deed → ℕ
runs_by made (deed.Start j) = is_code (slice_get made j)
runs_by made d = 0

abbrev pub runs : MachineData → List Entry → ℕ
runs m [] = 0
runs m (e ∷ past) = runs_by (jobs m past) e.deed + runs m past

-- ---- notify entries

abbrev pub notifies_by : Deed → ℕ
notifies_by (deed.Notify object value) = 1
notifies_by d = 0

abbrev pub notifies : List Entry → ℕ
notifies [] = 0
notifies (e ∷ past) = notifies_by e.deed + notifies past

-- ---- the bytes of the first cells of region 0

abbrev pub cell_of : ℕ → Cell
cell_of k = record { region = 0; offset = k }

abbrev pub bytes_of : MachineData → List Entry → ℕ → List ℕ
bytes_of m past count = each_of count (λ k. value m past (cell_of k))

-- ---- the summary that a history tells, the newest entry first

abbrev pub told : (number size : ℕ) → MachineData → List Entry → List ℕ
told number size m past = summary_text number size (weight_of m) (adds past) (runs m past) (notifies past)
    (bytes_of m past 16)

-- ---- for private clauses: a walk over the entries

-- the take of a query that brings a code from 01 to FF, which makes a job
abbrev pub codes_by : Bool → Deed → ℕ
codes_by asks (deed.Take (Some q)) = if asks && not (q == 0) then 1 else 0
codes_by asks d = 0

-- whether the open transaction is a query
abbrev pub asks_after : Deed → Bool → Bool
asks_after (deed.Begin r) old = is_query r
asks_after (deed.Take v) old = false
asks_after d old = old

abbrev pub tally_after : Actor → Deed → Tally → Tally
tally_after a d t = record {
  adds = adds_by a d + t.adds;
  codes = codes_by t.asks d
      + t.codes;
  notifies = notifies_by d + t.notifies;
  asks = asks_after d t.asks;
}

abbrev pub tally_of : List Entry → Tally
tally_of [] = record { adds = 0; codes = 0; notifies = 0; asks = false }
tally_of (e ∷ past) = tally_after e.actor e.deed (tally_of past)
