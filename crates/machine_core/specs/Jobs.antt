-- What the board keeps of jobs.
use Rattle.std.specs.Prelude.{◌≡◌, ℕ, nat_lt, List, length, Option, Some, None, if◌then◌else◌}
use Rattle.acpi_regs.specs.declared.entry.Entry.{Entry}
use Rattle.machine_desc.specs.Machine.{MachineData}
use Rattle.machine_history.specs.declared.parts.Job.{Job}
use Rattle.machine_history.specs.Jobs.{jobs, starts}
use Rattle.machine_core.specs.declared.jobs.Jobs.{Jobs}

pub record IsJobs (m : MachineData) (past : List Entry) (kept : Jobs) : Type 0 where
  pub made_are : kept.made.items ≡ jobs m past
  pub starts_are : kept.starts ≡ starts past

-- the number of the next job to start, where one waits
abbrev pub next_start : List Job → ℕ → Option ℕ
next_start made started = if nat_lt started (length made) then Some started else None
