-- Jobs in the order in which they are made, their starts, and who runs them (ACPI 6.5, section 5.6.4.1).
use Rattle.std.specs.Prelude.{ℕ, ◌+◌, ◌==◌, ◌&&◌, not, Bool, true, false, List, [], ◌∷◌, ◌++◌, Option, Some, None, slice_get, if◌then◌else◌}
use Rattle.acpi_regs.specs.declared.actor.Actor.{Actor}
use Rattle.acpi_regs.specs.declared.entry.Deed.{Deed}
use Rattle.acpi_regs.specs.declared.entry.Deed.TheVariants as deed
use Rattle.acpi_regs.specs.declared.entry.Entry.{Entry}
use Rattle.acpi_regs.specs.declared.event.Event.{Event}
use Rattle.acpi_regs.specs.Actor.{same_actor}
use Rattle.machine_desc.specs.Machine.{MachineData}
use Rattle.machine_history.specs.declared.parts.Job.{Job}
use Rattle.machine_history.specs.declared.parts.Job.TheVariants as job
use Rattle.machine_history.specs.Machine.{is_own, lists}
use Rattle.machine_history.specs.Wire.{Open, asks_code, codes, open_of}

abbrev pub is_empty : List ℕ → Bool
is_empty [] = true
is_empty (q ∷ queue) = false

-- a claim makes the job of a listed event; one of the controller's event makes a query where codes wait
abbrev pub claimed_job : MachineData → List ℕ → Event → Option Job
claimed_job m queue n =
    if lists m n then Some (job.Event n)
    else if is_own m n && not (is_empty queue) then Some job.Query
    else None

-- the take of a query makes the run of the code that it carries
abbrev pub taken_job : Option Open → Option ℕ → Option Job
taken_job o None = None
taken_job o (Some q) = if asks_code o && not (q == 0) then Some (job.Code q) else None

-- the job that a deed makes
abbrev pub made_by : MachineData → Option Open → List ℕ → Deed → Option Job
made_by m o queue (deed.Claim n) = claimed_job m queue n
made_by m o queue (deed.Take v) = taken_job o v
made_by m o queue _ = None

abbrev pub made : MachineData → List Entry → Entry → Option Job
made m past e = made_by m (open_of past) (codes past) e.deed

abbrev pub and_job : List Job → Option Job → List Job
and_job jobs None = jobs
and_job jobs (Some j) = jobs ++ j ∷ []

-- the jobs that were made, in order
abbrev pub jobs : MachineData → List Entry → List Job
jobs m [] = []
jobs m (e ∷ past) = and_job (jobs m past) (made m past e)

abbrev pub starts_after : Deed → ℕ → ℕ
starts_after (deed.Start j) old = old + 1
starts_after _ old = old

-- how many jobs were started
abbrev pub starts : List Entry → ℕ
starts [] = 0
starts (e ∷ past) = starts_after e.deed (starts past)

abbrev pub running_after : Deed → Option ℕ → Option ℕ
running_after (deed.Start j) old = Some j
running_after (deed.Finish j) old = None
running_after _ old = old

-- the job that a worker runs
abbrev pub running : List Entry → Actor → Option ℕ
running [] a = None
running (e ∷ past) a = if same_actor a e.actor then running_after e.deed (running past a) else running past a

abbrev pub event_of : Option Job → Option Event
event_of (Some (job.Event n)) = Some n
event_of _ = None

-- the event whose claim made the job
abbrev pub event_ended : List Job → ℕ → Option Event
event_ended made_so_far j = event_of (slice_get made_so_far j)
