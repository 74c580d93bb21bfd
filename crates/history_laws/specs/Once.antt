-- What the entries of an actor have passed of what it has to do: each act once, and in its order.
use Rattle.std.specs.Prelude.{ℕ, ◌<◌, ◌≡◌, List, [], ◌∷◌, ◌++◌, length, reverse, option_to_list, unwrap_or, Option, Some, None, slice_get, if◌then◌else◌}
use Rattle.acpi_regs.specs.declared.actor.Actor.{Actor}
use Rattle.acpi_regs.specs.declared.actor.Actor.TheVariants as actor
use Rattle.acpi_regs.specs.declared.entry.Deed.{Deed}
use Rattle.acpi_regs.specs.declared.entry.Deed.TheVariants as deed
use Rattle.acpi_regs.specs.declared.entry.Entry.{Entry}
use Rattle.acpi_regs.specs.Actor.{same_actor}
use Rattle.acpi_regs.specs.History.{past_of}
use Rattle.handler_script.specs.declared.act.Act.{Act}
use Rattle.handler_script.specs.declared.act.Act.TheVariants as act
use Rattle.handler_script.specs.Acts.{brings_asked}
use Rattle.handler_script.specs.Plan.{Plan, acts_of}
use Rattle.machine_desc.specs.Machine.{MachineData}
use Rattle.machine_history.specs.declared.parts.Job.{Job}
use Rattle.machine_history.specs.Jobs.{jobs}
use Rattle.machine_history.specs.Scripts.{first_left, first_plan, job_plan, next_of}
use Rattle.machine_history.specs.Wire.{Open, open_of}

-- ---- the act that an entry passes, and the byte that goes back to the script

abbrev pub asked_of : Option Open → Option Act
asked_of None = None
asked_of (Some o) = Some (act.Ask o.asks)

-- an own passes the Lock, a take the request
abbrev pub passed_act : Option Open → Deed → Option Act
passed_act o deed.Own = Some act.Lock
passed_act o deed.Disown = Some act.Unlock
passed_act o (deed.Read c v) = Some (act.Read c)
passed_act o (deed.Write c v) = Some (act.Write c v)
passed_act o (deed.Take v) = asked_of o
passed_act o (deed.Push q) = Some (act.Push q)
passed_act o (deed.Raise n) = Some (act.Raise n)
passed_act o (deed.Assert n) = Some (act.Assert n)
passed_act o (deed.Drop n) = Some (act.Drop n)
passed_act o (deed.Notify d v) = Some (act.Notify d v)
passed_act o (deed.Up n) = Some (act.Up n)
passed_act o (deed.Down n) = Some (act.Down n)
passed_act o _ = None

abbrev pub taken_byte : Option Open → Option ℕ → Option ℕ
taken_byte None v = None
taken_byte (Some o) v = if brings_asked o.asks then Some (unwrap_or v 0) else None

abbrev pub byte_brought : Option Open → Deed → Option ℕ
byte_brought o (deed.Read c v) = Some v
byte_brought o (deed.Take v) = taken_byte o v
byte_brought o _ = None

-- ---- since an actor began what it does: a worker at its last start, a firmware at the start of the history

abbrev pub passed_after : Option Open → Deed → List Act → List Act
passed_after o (deed.Start j) old = []
passed_after o d old = old ++ option_to_list (passed_act o d)

-- the acts that its entries passed
abbrev pub passed : List Entry → Actor → List Act
passed [] a = []
passed (e ∷ past) a = if same_actor a e.actor then passed_after (open_of past) e.deed (passed past a) else passed past a

abbrev pub answers_after : Option Open → Deed → List ℕ → List ℕ
answers_after o (deed.Start j) old = []
answers_after o d old = old ++ option_to_list (byte_brought o d)

-- the bytes that its reads and requests were answered
abbrev pub answers : List Entry → Actor → List ℕ
answers [] a = []
answers (e ∷ past) a = if same_actor a e.actor then answers_after (open_of past) e.deed (answers past a) else answers
    past a

abbrev pub begun_after : MachineData → List Job → Deed → Plan → Plan
begun_after m made (deed.Start j) p = job_plan m (slice_get made j)
begun_after m made d p = p

-- what it began
abbrev pub begun : MachineData → List Entry → Actor → Plan
begun m [] a = first_plan m a
begun m (e ∷ past) a = if same_actor a e.actor then begun_after m (jobs m past) e.deed (begun m past a) else begun m
    past a

-- ---- the sentences

-- the next act of an actor is the first act of what it began that its entries have not passed
abbrev pub IsFirstLeft : MachineData → List Entry → Actor → Type 0
IsFirstLeft m past a = (left : List Act) × (acts_of (begun m past a) (answers past a) ≡ passed past a ++ left)
    × (slice_get left 0 ≡ next_of m past a)

-- each firmware has passed the acts of its script, each once and in its order
abbrev pub ScriptsOnce : MachineData → List Entry → Type 0
ScriptsOnce m history = (k : ℕ) → k < length m.firmware
    → passed (reverse history) (actor.Firmware k)
    ≡ acts_of (first_left m k) (answers (reverse history) (actor.Firmware k))

-- where a job is finished, its worker has passed the acts of the job, each once and in its order
abbrev pub JobsOnce : MachineData → List Entry → Type 0
JobsOnce m history = (i j : ℕ) (e : Entry) → slice_get history i ≡ Some e → e.deed ≡ deed.Finish j
    → passed (past_of history i) e.actor
    ≡ acts_of (job_plan m (slice_get (jobs m (past_of history i)) j)) (answers (past_of history i) e.actor)
