-- What a complete history of a machine that is made comes to.
use Rattle.std.specs.Prelude.{ℕ, ◌<◌, ◌≡◌, List, length, reverse}
use Rattle.acpi_regs.specs.declared.entry.Entry.{Entry}
use Rattle.machine_desc.specs.Kept.{IsMachine}
use Rattle.machine_history.specs.Complete.{Complete}
use Rattle.machine_history.specs.Jobs.{jobs}
use Rattle.machine_history.specs.Sentences.{codes_of}
use Rattle.machine_history.specs.Values.{value}
use Rattle.machine_maker.specs.Maker.{made}
use Rattle.machine_maker.specs.Summary.{last_byte, one_add, one_push, over_firmware, summary}
use Rattle.run_summary.specs.Told.{adds, cell_of, notifies, runs, told}

-- Firmware writes a byte for each addition. For each push one job is made that runs a code, one such job is started,
-- and one notify is made. Each cell ends as what the operations add to it.
pub record IsSummed (number size : ℕ) (past : List Entry) : Type 0 where
  pub written : adds past ≡ over_firmware one_add (made number size)
  pub made_jobs : length (codes_of (jobs (made number size) past)) ≡ over_firmware one_push (made number size)
  pub started : runs (made number size) past ≡ over_firmware one_push (made number size)
  pub notified : notifies past ≡ over_firmware one_push (made number size)
  pub left : (k : ℕ) → k < 16 → value (made number size) past (cell_of k) ≡ last_byte number size k

-- so it is in every complete history, whatever the schedule
abbrev pub SumsOperations : Type 0
SumsOperations = (number size : ℕ) (history : List Entry) → IsMachine (made number size)
    → Complete (made number size) history → IsSummed number size (reverse history)

-- and each tells the same three lines
abbrev pub TellsSummary : Type 0
TellsSummary = (number size : ℕ) (history : List Entry) → IsMachine (made number size)
    → Complete (made number size) history → told number size (made number size) (reverse history) ≡ summary number size
