-- Each act that is left for an actor is one that the actor may make.
use Rattle.std.proofs.Common.{ℕ, zero, suc, ◌≡◌, ◌==◌, ◌&&◌, Bool, true, false, not, List, [], ◌∷◌, ◌++◌, length, slice_get, unwrap_or, Option, Some, None, is_some, refl, sym, ap, ◌∙◌, subst, if◌then◌else◌}
use Rattle.std.proofs.lemmas.Bool.{lt-ltb}
use Rattle.std.proofs.lemmas.Option.{slice_get_within}
use Rattle.acpi_regs.specs.declared.actor.Actor.{Actor}
use Rattle.acpi_regs.specs.declared.actor.Actor.TheVariants as actor
use Rattle.acpi_regs.specs.declared.actor.Side.{Side}
use Rattle.acpi_regs.specs.declared.actor.Side.TheVariants as side
use Rattle.acpi_regs.specs.declared.entry.Deed.{Deed}
use Rattle.acpi_regs.specs.declared.entry.Deed.TheVariants as deed
use Rattle.acpi_regs.specs.declared.entry.Entry.{Entry}
use Rattle.acpi_regs.specs.declared.event.Event.{Event}
use Rattle.acpi_regs.specs.Actor.{same_actor}
use Rattle.acpi_regs.specs.CoreEvents.{entry}
use Rattle.acpi_regs.specs.Event.{same_event}
use Rattle.handler_script.specs.declared.act.Act.{Act}
use Rattle.handler_script.specs.declared.act.Act.TheVariants as act
use Rattle.handler_script.specs.declared.op.Op.{Op}
use Rattle.handler_script.specs.Each.{Each}
use Rattle.handler_script.specs.Plan.{Plan, Do, End, next_act, plan, query_plan}
use Rattle.machine_desc.specs.declared.machine.ControllerDesc.{ControllerDesc}
use Rattle.machine_desc.specs.declared.machine.ListedEvent.{ListedEvent}
use Rattle.machine_desc.specs.declared.machine.Query.{Query}
use Rattle.machine_desc.specs.Kept.{IsHandler, IsListed, IsMachine, IsQuery, event_of_controller, listed_in, own_event, queries_in}
use Rattle.machine_desc.specs.Machine.{MachineData, act_fields, glk}
use Rattle.machine_desc.specs.Rules.{is_listed}
use Rattle.machine_desc.specs.Scripts.{suits_side}
use Rattle.machine_desc.proofs.EachItem.{each_all}
use Rattle.machine_desc.proofs.Scripts.{runs_well}
use Rattle.machine_history.specs.declared.parts.Job.{Job}
use Rattle.machine_history.specs.declared.parts.Job.TheVariants as job
use Rattle.machine_history.specs.Jobs.{and_job, claimed_job, is_empty, jobs, made, made_by, taken_job}
use Rattle.machine_history.specs.Legal.{Allowed, LegalPast, is_firmware, is_worker}
use Rattle.machine_history.specs.Machine.{is_own, lists, names, query_in, script_in}
use Rattle.machine_history.specs.Scripts.{first_plan, job_plan, left_after, plan_left}
use Rattle.machine_history.specs.Wire.{Open, asks_code, codes, open_of}
use Rattle.machine_history.proofs.Known.{hold, same_actor-true, some-injective}
use Rattle.machine_history.proofs.PlanFacts.{after_each, next_each}

-- what an act asks of the actor that makes it
abbrev pub suits : MachineData → Actor → Bool → Act → Bool
suits m a needs (act.Ask r) = is_some m.controller
suits m a needs (act.Notify d v) = is_worker m a
suits m a needs (act.Up n) = is_worker m a && is_listed (listed_in m) n
suits m a needs (act.Down n) = is_worker m a
suits m a needs (act.Raise n) = is_firmware m a
suits m a needs (act.Assert n) = is_firmware m a
suits m a needs (act.Push q) = is_firmware m a && is_some (own_event m)
suits m a needs _ = true

-- ---- the scripts of a machine

abbrev pub runs_side : MachineData → Actor → Side → Type 0
runs_side m a side.Os = is_worker m a ≡ true
runs_side m a side.Firmware = is_firmware m a ≡ true

both_true : (x y : Bool) → x ≡ true → y ≡ true → (x && y) ≡ true
both_true x y p q = ap (λ z. z && y) p ∙ q

-- what suits a side suits an actor that runs it
suits_actor : (m : MachineData) (a : Actor) (s : Side) → runs_side m a s → (needs : Bool) (x : Act) → suits_side m s needs x ≡ true → suits m a needs x ≡ true
suits_actor m a s runs needs act.Lock suited = refl
suits_actor m a s runs needs act.Unlock suited = refl
suits_actor m a s runs needs (act.Read c) suited = refl
suits_actor m a s runs needs (act.Write c v) suited = refl
suits_actor m a s runs needs (act.Ask r) suited = suited
suits_actor m a side.Os runs needs (act.Notify d v) suited = runs
suits_actor m a side.Firmware runs needs (act.Notify d v) suited = cc
suits_actor m a s runs needs (act.Drop n) suited = refl
suits_actor m a side.Os runs needs (act.Up n) suited = both_true (is_worker m a) (is_listed (listed_in m) n) runs suited
suits_actor m a side.Firmware runs needs (act.Up n) suited = cc
suits_actor m a side.Os runs needs (act.Down n) suited = runs
suits_actor m a side.Firmware runs needs (act.Down n) suited = cc
suits_actor m a side.Os runs needs (act.Raise n) suited = cc
suits_actor m a side.Firmware runs needs (act.Raise n) suited = runs
suits_actor m a side.Os runs needs (act.Assert n) suited = cc
suits_actor m a side.Firmware runs needs (act.Assert n) suited = runs
suits_actor m a side.Os runs needs (act.Push q) suited = cc
suits_actor m a side.Firmware runs needs (act.Push q) suited = both_true (is_firmware m a) (is_some (own_event m)) runs suited

each_more : (P Q : Bool → Act → Bool) (p : Plan) → ((needs : Bool) (x : Act) → P needs x ≡ true → Q needs x ≡ true) → Each P p → Each Q p
each_more P Q End more each = tt
each_more P Q (Do needs x next) more each = (more needs x each.0, λ byte. each_more P Q (next byte) more (each.1 byte))

script_suits : (m : MachineData) (a : Actor) (s : Side) (ops : List Op) → IsMachine m → runs_side m a s → IsHandler m s ops → Each (suits m a) (plan (act_fields m) ops)
script_suits m a s ops ok runs handler = each_more (suits_side m s) (suits m a) (plan (act_fields m) ops) (suits_actor m a s runs) (runs_well m ok s ops handler).suited

-- ---- the plans of jobs and of firmware

-- a query job comes only where there is a controller
abbrev pub JobIs : MachineData → Option Job → Type 0
JobIs m (Some job.Query) = is_some m.controller ≡ true
JobIs m _ = Unit {0}

event_suits : (m : MachineData) (a : Actor) → IsMachine m → is_worker m a ≡ true → (n : Event) (ls : List ListedEvent) → ((k : ℕ) (l : ListedEvent) → slice_get ls k ≡ Some l → IsListed m l) → Each (suits m a) (plan (act_fields m) (script_in ls n))
event_suits m a ok works n [] all = tt
event_suits m a ok works n (l ∷ ls) all = at (same_event l.listed.event n) (event_suits m a ok works n ls (λ k x at. all (suc k) x at))
  where
    at : (b : Bool) → Each (suits m a) (plan (act_fields m) (script_in ls n)) → Each (suits m a) (plan (act_fields m) (if b then l.script else script_in ls n))
    at true rest = script_suits m a side.Os l.script ok works (all zero l refl).script
    at false rest = rest

code_suits : (m : MachineData) (a : Actor) → IsMachine m → is_worker m a ≡ true → (q : ℕ) (queries : List Query) → ((k : ℕ) (x : Query) → slice_get queries k ≡ Some x → IsQuery m x) → Each (suits m a) (plan (act_fields m) (query_in queries q))
code_suits m a ok works q [] all = tt
code_suits m a ok works q (h ∷ queries) all = at (h.code == q) (code_suits m a ok works q queries (λ k x at. all (suc k) x at))
  where
    at : (b : Bool) → Each (suits m a) (plan (act_fields m) (query_in queries q)) → Each (suits m a) (plan (act_fields m) (if b then h.script else query_in queries q))
    at true rest = script_suits m a side.Os h.script ok works (all zero h refl).script
    at false rest = rest

query_suits : (m : MachineData) (a : Actor) → is_some m.controller ≡ true → (needs : Bool) → Each (suits m a) (query_plan needs)
query_suits m a is false = (is, λ b. tt)
query_suits m a is true = (refl, λ b. (is, λ b. (refl, λ b. tt)))

job_suits : (m : MachineData) (a : Actor) → IsMachine m → is_worker m a ≡ true → (j : Option Job) → JobIs m j → Each (suits m a) (job_plan m j)
job_suits m a ok works None is = tt
job_suits m a ok works (Some (job.Event n)) is = event_suits m a ok works n m.events (each_all (IsListed m) m.events ok.events)
job_suits m a ok works (Some job.Query) is = query_suits m a is (glk m)
job_suits m a ok works (Some (job.Code q)) is = code_suits m a ok works q (queries_in m) (each_all (IsQuery m) (queries_in m) ok.queries)

first_suits : (m : MachineData) (a : Actor) → IsMachine m → Each (suits m a) (first_plan m a)
first_suits m (actor.Firmware k) ok = at (slice_get m.firmware k) refl
  where
    at : (o : Option (List Op)) → slice_get m.firmware k ≡ o → Each (suits m (actor.Firmware k)) (plan (act_fields m) (unwrap_or o []))
    at None is = tt
    at (Some ops) is = script_suits m (actor.Firmware k) side.Firmware ops ok (lt-ltb k (length m.firmware) (slice_get_within m.firmware k ops is)) (each_all (IsHandler m side.Firmware) m.firmware ok.firmware k ops is)
first_suits m _ ok = tt

-- ---- jobs

abbrev AllJobs : MachineData → List Job → Type 0
AllJobs m js = (k : ℕ) (j : Job) → slice_get js k ≡ Some j → JobIs m (Some j)

jobs_more : (m : MachineData) (js : List Job) (o : Option Job) → AllJobs m js → JobIs m o → AllJobs m (and_job js o)
jobs_more m js None all is = all
jobs_more m js (Some y) all is = push js all
  where
    push : (xs : List Job) → AllJobs m xs → AllJobs m (xs ++ y ∷ [])
    push [] all zero j at = subst (λ z. JobIs m (Some z)) (some-injective y j at) is
    push [] all (suc k) j at = cc
    push (x ∷ xs) all zero j at = all zero j at
    push (x ∷ xs) all (suc k) j at = push xs (λ i z at. all (suc i) z at) k j at

own_controls : (m : MachineData) (n : Event) → is_own m n ≡ true → is_some m.controller ≡ true
own_controls m n is = at m.controller is
  where
    at : (o : Option ControllerDesc) → names (event_of_controller o) n ≡ true → is_some o ≡ true
    at None is = cc
    at (Some d) is = refl

claimed_is : (m : MachineData) (queue : List ℕ) (n : Event) → JobIs m (claimed_job m queue n)
claimed_is m queue n = at (lists m n) (is_own m n) (not (is_empty queue)) refl
  where
    at : (x y z : Bool) → is_own m n ≡ y → JobIs m (if x then Some (job.Event n) else (if y && z then Some job.Query else None))
    at true y z own = tt
    at false true true own = own_controls m n own
    at false true false own = tt
    at false false z own = tt

taken_is : (m : MachineData) (o : Option Open) (v : Option ℕ) → JobIs m (taken_job o v)
taken_is m o None = tt
taken_is m o (Some q) = at (asks_code o && not (q == 0))
  where
    at : (x : Bool) → JobIs m (if x then Some (job.Code q) else None)
    at true = tt
    at false = tt

made_is : (m : MachineData) (past : List Entry) (d : Deed) → JobIs m (made_by m (open_of past) (codes past) d)
made_is m past (deed.Claim n) = claimed_is m (codes past) n
made_is m past (deed.Take v) = taken_is m (open_of past) v
made_is m past _ = tt

pub jobs_are : (m : MachineData) (past : List Entry) → AllJobs m (jobs m past)
jobs_are m [] = λ k j at. cc
jobs_are m (e ∷ past) = jobs_more m (jobs m past) (made m past e) (jobs_are m past) (made_is m past e.deed)

job_is : (m : MachineData) (past : List Entry) (j : ℕ) → JobIs m (slice_get (jobs m past) j)
job_is m past j = at (slice_get (jobs m past) j) refl
  where
    at : (o : Option Job) → slice_get (jobs m past) j ≡ o → JobIs m o
    at None is = tt
    at (Some x) is = jobs_are m past j x is

-- ---- what is left

own_suits : (m : MachineData) → IsMachine m → (past : List Entry) (a : Actor) (d : Deed) → Allowed m past (entry a d) → Each (suits m a) (plan_left m past a) → Each (suits m a) (left_after m (jobs m past) d (plan_left m past a))
own_suits m ok past a (deed.Start j) may before = job_suits m a ok (hold m past a (deed.Start j) may).0 (slice_get (jobs m past) j) (job_is m past j)
own_suits m ok past a (deed.Finish j) may before = tt
own_suits m ok past a deed.Own may before = after_each (suits m a) (plan_left m past a) 0 before
own_suits m ok past a deed.Disown may before = after_each (suits m a) (plan_left m past a) 0 before
own_suits m ok past a (deed.Read c v) may before = after_each (suits m a) (plan_left m past a) v before
own_suits m ok past a (deed.Write c v) may before = after_each (suits m a) (plan_left m past a) 0 before
own_suits m ok past a (deed.Take v) may before = after_each (suits m a) (plan_left m past a) (unwrap_or v 0) before
own_suits m ok past a (deed.Push q) may before = after_each (suits m a) (plan_left m past a) 0 before
own_suits m ok past a (deed.Raise n) may before = after_each (suits m a) (plan_left m past a) 0 before
own_suits m ok past a (deed.Assert n) may before = after_each (suits m a) (plan_left m past a) 0 before
own_suits m ok past a (deed.Drop n) may before = after_each (suits m a) (plan_left m past a) 0 before
own_suits m ok past a (deed.Notify x v) may before = after_each (suits m a) (plan_left m past a) 0 before
own_suits m ok past a (deed.Up n) may before = after_each (suits m a) (plan_left m past a) 0 before
own_suits m ok past a (deed.Down n) may before = after_each (suits m a) (plan_left m past a) 0 before
own_suits m ok past a _ may before = before

pub left_suits : (m : MachineData) → IsMachine m → (past : List Entry) (a : Actor) → LegalPast m past → Each (suits m a) (plan_left m past a)
left_suits m ok [] a legal = first_suits m a ok
left_suits m ok (e ∷ past) a legal = at (same_actor a e.actor) refl (left_suits m ok past a legal.1)
  where
    at : (b : Bool) → same_actor a e.actor ≡ b → Each (suits m a) (plan_left m past a) → Each (suits m a) (if b then left_after m (jobs m past) e.deed (plan_left m past a) else plan_left m past a)
    at true same before = own_suits m ok past a e.deed (subst (λ x. Allowed m past (entry x e.deed)) (sym (same_actor-true a e.actor same)) legal.0) before
    at false apart before = before

-- the next act suits its actor
pub next_suits : (m : MachineData) → IsMachine m → (past : List Entry) (a : Actor) (x : Act) → LegalPast m past → next_act (plan_left m past a) ≡ Some x → (needs : Bool) × (suits m a needs x ≡ true)
next_suits m ok past a x legal next = next_each (suits m a) (plan_left m past a) x next (left_suits m ok past a legal)
