-- How far an actor has come in what it has to do.
use Rattle.std.specs.Prelude.{ℕ, Bool, true, false, List, [], ◌∷◌, Option, Some, None, slice_get, unwrap_or, if◌then◌else◌}
use Rattle.acpi_regs.specs.declared.actor.Actor.{Actor}
use Rattle.acpi_regs.specs.declared.actor.Actor.TheVariants as actor
use Rattle.acpi_regs.specs.declared.entry.Deed.{Deed}
use Rattle.acpi_regs.specs.declared.entry.Deed.TheVariants as deed
use Rattle.acpi_regs.specs.declared.entry.Entry.{Entry}
use Rattle.acpi_regs.specs.Actor.{same_actor}
use Rattle.handler_script.specs.declared.act.Act.{Act}
use Rattle.handler_script.specs.declared.op.Op.{Op}
use Rattle.handler_script.specs.Plan.{Plan, End, next_act, plan, plan_after, query_plan}
use Rattle.machine_desc.specs.Machine.{MachineData, act_fields, glk}
use Rattle.machine_history.specs.declared.parts.Job.{Job}
use Rattle.machine_history.specs.declared.parts.Job.TheVariants as job
use Rattle.machine_history.specs.Jobs.{jobs}
use Rattle.machine_history.specs.Machine.{code_script, event_script}

-- ---- what there is to do

-- the operations of a firmware script; there are none where the machine has no such script
abbrev pub script_of : MachineData → ℕ → List Op
script_of m k = unwrap_or (slice_get m.firmware k) []

-- what a firmware has before it at the start
abbrev pub first_left : MachineData → ℕ → Plan
first_left m k = plan (act_fields m) (script_of m k)

-- what an actor has before it at the start: a firmware its script, and every other actor nothing
abbrev pub first_plan : MachineData → Actor → Plan
first_plan m (actor.Firmware k) = first_left m k
first_plan m _ = End

-- what a job has to do; there is nothing where no such job was made
abbrev pub job_plan : MachineData → Option Job → Plan
job_plan m None = End
job_plan m (Some (job.Event n)) = plan (act_fields m) (event_script m n)
job_plan m (Some job.Query) = query_plan (glk m)
job_plan m (Some (job.Code q)) = plan (act_fields m) (code_script m q)

-- ---- what is left of it

-- the deed passes the next act of its actor
abbrev pub passes : Deed → Bool
passes deed.Own = true
passes deed.Disown = true
passes (deed.Read c v) = true
passes (deed.Write c v) = true
passes (deed.Take v) = true
passes (deed.Push q) = true
passes (deed.Raise n) = true
passes (deed.Assert n) = true
passes (deed.Drop n) = true
passes (deed.Notify d v) = true
passes (deed.Up n) = true
passes (deed.Down n) = true
passes _ = false

-- the byte with which it answers the act
abbrev pub answer_of : Deed → ℕ
answer_of (deed.Read c v) = v
answer_of (deed.Take v) = unwrap_or v 0
answer_of _ = 0

-- a start brings the plan of its job, a finish ends it, and each act that is passed goes on by its answer
abbrev pub left_after : MachineData → List Job → Deed → Plan → Plan
left_after m made (deed.Start j) p = job_plan m (slice_get made j)
left_after m made (deed.Finish j) p = End
left_after m made d p = if passes d then plan_after (answer_of d) p else p

-- what is left for an actor
abbrev pub plan_left : MachineData → List Entry → Actor → Plan
plan_left m [] a = first_plan m a
plan_left m (e ∷ past) a = if same_actor a e.actor then left_after m (jobs m past) e.deed (plan_left m past a) else
    plan_left m past a

-- the next act of an actor
abbrev pub next_of : MachineData → List Entry → Actor → Option Act
next_of m past a = next_act (plan_left m past a)
