-- What the log of a run says, sentence by sentence.
use Rattle.std.specs.Prelude.{◌≡◌, ℕ, List, reverse, Ok}
use Rattle.acpi_regs.specs.declared.entry.Entry.{Entry}
use Rattle.machine_desc.specs.Machine.{MachineData}
use Rattle.machine_history.specs.Complete.{Complete}
use Rattle.machine_history.specs.Exclusion.{AccessesByOwner, ReadsLast}
use Rattle.machine_history.specs.Jobs.{jobs}
use Rattle.history_laws.specs.Once.{JobsOnce, ScriptsOnce}
use Rattle.machine_history.specs.Sentences.{ClaimsConsume, JobsDone, codes_of, pushed_in}
use Rattle.machine_history.specs.Wire.{given}
use Rattle.machine_reader.specs.Description.{Describes}

-- The codes that were pushed are those that were given, and the k-th of them is that of the k-th run of a query's
-- handler. A query that was answered by 00 starts none.
pub record OneRunEach (m : MachineData) (history : List Entry) : Type 0 where
  pub all_given : pushed_in history ≡ given (reverse history)
  pub each_run : given (reverse history) ≡ codes_of (jobs m (reverse history))

-- A complete legal history of a machine that bytes describe. No event that has status and is enabled is left, no
-- code, no job, no request for the lock or the controller: that is part of complete.
pub record Ran (bytes : List ℕ) (m : MachineData) (history : List Entry) : Type 0 where
  pub describes : Describes bytes (Ok m)
  pub complete : Complete m history
  -- each script of the firmware, and each job, made its accesses and other acts once and in its order
  pub scripts_once : ScriptsOnce m history
  pub jobs_once : JobsOnce m history
  -- each job was started and finished exactly once
  pub jobs_done : JobsDone m history
  -- each read gave the last byte that was written, or the description's
  pub last_value : ReadsLast m history
  -- each access that needs the Global Lock was made by its owner, also through the controller
  pub sole_owner : AccessesByOwner m history
  -- each query code started one run of a handler
  pub one_run : OneRunEach m history
  -- each dispatch consumed one enabled raise
  pub consumes : ClaimsConsume m history
