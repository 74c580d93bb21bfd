-- What the board keeps of each worker and firmware: what it has done with the lock since its seek, the job that it
-- runs, and how far it has come in what it has to do.
use Rattle.std.specs.Prelude.{◌≡◌, ℕ, ◌+◌, nat_lt, not, Bool, true, false, List, length, slice_get, slice_index_or, Option, Some, None, MatchOption, is_some, if◌then◌else◌}
use Rattle.acpi_regs.specs.declared.actor.Actor.{Actor}
use Rattle.acpi_regs.specs.declared.actor.Actor.TheVariants as actor
use Rattle.acpi_regs.specs.declared.entry.Deed.{Deed}
use Rattle.acpi_regs.specs.declared.entry.Deed.TheVariants as deed
use Rattle.acpi_regs.specs.declared.entry.Entry.{Entry}
use Rattle.acpi_regs.specs.declared.entry.Request.TheVariants as request
use Rattle.acpi_regs.specs.Lock.{busy_after, disowned_after, has_disowned, has_owned, is_busy, owned_after}
use Rattle.handler_script.specs.declared.act.Act.{Act}
use Rattle.handler_script.specs.declared.act.Act.TheVariants as act
use Rattle.handler_script.specs.declared.cursor.Cursor.{Cursor}
use Rattle.handler_script.specs.declared.op.Op.{Op}
use Rattle.handler_script.specs.Acts.{brings}
use Rattle.handler_script.specs.Each.{Each}
use Rattle.handler_script.specs.Left.{left, stands}
use Rattle.handler_script.specs.Plan.{Plan, Do, End, next_act, plan, query_plan}
use Rattle.machine_desc.specs.declared.machine.ListedEvent.{ListedEvent}
use Rattle.machine_desc.specs.declared.machine.Query.{Query}
use Rattle.machine_desc.specs.Kept.{queries_in}
use Rattle.machine_desc.specs.Machine.{MachineData, act_fields}
use Rattle.machine_history.specs.declared.parts.Job.{Job}
use Rattle.machine_history.specs.Jobs.{running, running_after}
use Rattle.machine_history.specs.Scripts.{left_after, passes, plan_left}
use Rattle.machine_history.specs.Wire.{is_query}
use Rattle.machine_core.specs.declared.actors.ActorState.{ActorState}
use Rattle.machine_core.specs.declared.actors.Actors.{Actors}
use Rattle.machine_core.specs.declared.actors.Words.{Words}
use Rattle.machine_core.specs.declared.course.Course.{Course}
use Rattle.machine_core.specs.declared.course.Course.TheVariants as course
use Rattle.machine_core.specs.declared.course.QueryStage.{QueryStage}
use Rattle.machine_core.specs.declared.course.QueryStage.TheVariants as stage
use Rattle.machine_core.specs.declared.course.ScriptPlace.{ScriptPlace}
use Rattle.machine_core.specs.declared.course.ScriptPlace.TheVariants as place

-- ---- scripts, by where they stand in the machine

abbrev pub handler_of : Option ListedEvent → Option (List Op)
handler_of None = None
handler_of (Some l) = Some l.script

abbrev pub query_handler_of : Option Query → Option (List Op)
query_handler_of None = None
query_handler_of (Some q) = Some q.script

abbrev pub script_at : MachineData → ScriptPlace → Option (List Op)
script_at m (place.Firmware k) = slice_get m.firmware k
script_at m (place.Event i) = handler_of (slice_get m.events i)
script_at m (place.Query i) = query_handler_of (slice_get (queries_in m) i)

abbrev pub plan_in : MachineData → Option (List Op) → Plan
plan_in m None = End
plan_in m (Some ops) = plan (act_fields m) ops

-- ---- what is left

abbrev pub left_in : MachineData → Option (List Op) → Cursor → Plan
left_in m None c = End
left_in m (Some ops) c = left (act_fields m) ops c

abbrev pub query_left : QueryStage → Plan
query_left stage.Lock = query_plan true
query_left stage.Ask = Do true (act.Ask request.Qr) (λ _. Do false act.Unlock (λ _. End))
query_left stage.Unlock = Do false act.Unlock (λ _. End)
query_left stage.Alone = query_plan false

-- what is left on a course
abbrev pub left_by : MachineData → Course → Plan
left_by m course.Ended = End
left_by m (course.Query s) = query_left s
left_by m (course.Script p c) = left_in m (script_at m p) c

abbrev pub stands_in : MachineData → Option (List Op) → Cursor → Bool
stands_in m None c = true
stands_in m (Some ops) c = stands (act_fields m) ops c

-- the act asks the controller for no query
abbrev pub asks_no_query : Bool → Act → Bool
asks_no_query needs (act.Ask r) = not (is_query r)
asks_no_query needs _ = true

-- the cursor of a script stands where an act can be, and no act of a script asks for a query
abbrev pub Stands : MachineData → Course → Type 0
Stands m course.Ended = Unit {0}
Stands m (course.Query s) = Unit {0}
Stands m (course.Script p c) = (stands_in m (script_at m p) c ≡ true) × Each asks_no_query (left_in m (script_at m p) c)

-- the byte that a deed brings for the act that it passes
abbrev pub byte_of : Deed → Option ℕ
byte_of (deed.Read c v) = Some v
byte_of (deed.Take v) = v
byte_of _ = None

-- a script has an act next, and this byte is brought exactly where the act is answered with one
abbrev pub FitsNext : MachineData → Course → Option ℕ → Type 0
FitsNext m course.Ended byte = Unit {0}
FitsNext m (course.Query s) byte = Unit {0}
FitsNext m (course.Script p c) byte = MatchOption (next_act (left_in m (script_at m p) c)) ⊥
    (λ a. is_some byte ≡ brings a)

-- a deed that passes an act fits the next one
abbrev pub FitsDeed : MachineData → Course → Deed → Type 0
FitsDeed m c d = passes d ≡ true → FitsNext m c (byte_of d)

-- ---- each actor

abbrev pub words_of : List Entry → Actor → Words
words_of past a = record {
  owned = has_owned a past;
  disowned = has_disowned a past;
  busy = is_busy a past;
  running =
      running past a;
}

abbrev pub words_after : Deed → Words → Words
words_after d old = record {
  owned = owned_after d old.owned;
  disowned = disowned_after d old.disowned;
  busy =
      busy_after d old.busy;
  running = running_after d old.running;
}

-- an actor that has done nothing, and has nothing to do
abbrev pub idle : ActorState
idle = record {
  words = record { owned = false; disowned = false; busy = false; running = None };
  course =
      course.Ended;
}

-- a deed of the actor moves what is kept of it, where these jobs were made before
pub record Moves (m : MachineData) (made : List Job) (d : Deed) (old new : ActorState) : Type 0 where
  pub words : new.words ≡ words_after d old.words
  pub left : left_by m new.course ≡ left_after m made d (left_by m old.course)
  pub stands : Stands m new.course

-- the seats of workers and firmware; other actors have none
abbrev pub seat : Actor → ℕ
seat (actor.Worker k) = if nat_lt k 4 then k else 12
seat (actor.Firmware k) = if nat_lt k 8 then (4 + k) else 12
seat _ = 12

-- what is kept of an actor
abbrev pub state_of : List ActorState → Actor → ActorState
state_of states a = slice_index_or states (seat a) idle

-- what is kept of an actor is what the past tells of it
pub record IsActor (m : MachineData) (past : List Entry) (a : Actor) (state : ActorState) : Type 0 where
  pub words_are : state.words ≡ words_of past a
  pub left_is : left_by m state.course ≡ plan_left m past a
  pub stands : Stands m state.course

pub record IsActors (m : MachineData) (past : List Entry) (actors : Actors) : Type 0 where
  pub size : length actors.states ≡ 12
  pub each : (a : Actor) → IsActor m past a (state_of actors.states a)

-- the firmware of this number is at the begin of its script
abbrev pub IsFirst : ℕ → ActorState → Type 0
IsFirst k state = (m : MachineData)
    → (state.words ≡ idle.words) × (left_by m state.course ≡ plan_in m (slice_get m.firmware k)) × Stands m state.course
