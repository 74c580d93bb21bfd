-- What a complete history of a machine that is made comes to, put together.
use Rattle.std.proofs.Common.{ℕ, List, reverse}
use Rattle.acpi_regs.specs.declared.entry.Entry.{Entry}
use Rattle.core_laws.specs.Adds.{SumsAdds}
use Rattle.machine_desc.specs.Kept.{IsMachine}
use Rattle.machine_history.specs.Complete.{Complete}
use Rattle.machine_maker.specs.Maker.{made}
use Rattle.run_summary.specs.Sums.{IsSummed}
use Rattle.run_summary.proofs.Cells.{last_is}
use Rattle.run_summary.proofs.Counts.{all_adds, all_made, all_notifies, all_runs}

pub summed : (number size : ℕ) (history : List Entry) → IsMachine (made number size) → Complete (made number size) history → SumsAdds (made number size) history → IsSummed number size (reverse history)
summed number size history ok complete sums = record {
  written = all_adds number size history complete;
  made_jobs = all_made number size history ok complete;
  started = all_runs number size history ok complete;
  notified = all_notifies number size history ok complete;
  left = λ k less. last_is number size k history less ok complete sums;
}
