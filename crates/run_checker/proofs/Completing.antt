-- A legal history is complete exactly where no actor has a reason.
use Rattle.std.proofs.Common.{ℕ, zero, suc, ◌+◌, ◌<◌, ◌≤◌, ◌≡◌, ◌⊎◌, inl, inr, ◌||◌, ◌&&◌, Bool, true, false, cond, nat_lt, List, [], ◌∷◌, ◌++◌, length, reverse, Option, Some, None, is_some, slice_get, if◌then◌else◌, refl, sym, ap, ◌∙◌, subst, arith}
use Rattle.std.proofs.lemmas.Bool.{and_parts, le-ltb, lt-ltb, ltb-false, ltb-true, or_cases}
use Rattle.acpi_regs.specs.declared.actor.Actor.{Actor}
use Rattle.acpi_regs.specs.declared.actor.Actor.TheVariants as actor
use Rattle.acpi_regs.specs.declared.actor.Side.{Side}
use Rattle.acpi_regs.specs.declared.actor.Side.TheVariants as side
use Rattle.acpi_regs.specs.declared.entry.Deed.{Deed}
use Rattle.acpi_regs.specs.declared.entry.Deed.TheVariants as deed
use Rattle.acpi_regs.specs.declared.entry.Effect.TheVariants as effect
use Rattle.acpi_regs.specs.declared.entry.Entry.{Entry}
use Rattle.acpi_regs.specs.declared.event.Event.{Event}
use Rattle.acpi_regs.specs.Actor.{is_side, side_of, stands_on}
use Rattle.acpi_regs.specs.Lock.{busies, is_someone, leaves, other, owner, seeker, signals_in}
use Rattle.ec_driver.specs.Driver.{effect_in}
use Rattle.handler_script.specs.declared.act.Act.{Act}
use Rattle.handler_script.specs.declared.act.Act.TheVariants as act
use Rattle.handler_script.specs.Plan.{Do, End, Plan, next_act}
use Rattle.machine_core.proofs.Resting.{idle_outsider}
use Rattle.machine_core.proofs.Standing.{maker}
use Rattle.machine_desc.specs.Actors.{actors_of, numbered, of_controller}
use Rattle.machine_desc.specs.Kept.{IsMachine}
use Rattle.machine_desc.specs.Machine.{MachineData}
use Rattle.machine_desc.proofs.Order.{behind, numbered_at, of_kind, past_kind}
use Rattle.machine_history.specs.Complete.{Complete, Rest}
use Rattle.machine_history.specs.Events.{latches, pending}
use Rattle.machine_history.specs.Jobs.{jobs, running, starts}
use Rattle.machine_history.specs.Legal.{Allowed, Legal, LegalPast, is_seeker, is_worker, runs_scripts, seeks}
use Rattle.machine_history.specs.Machine.{times}
use Rattle.machine_history.specs.Scripts.{next_of, plan_left}
use Rattle.machine_history.specs.Steps.{ctl_move, host_move}
use Rattle.machine_history.specs.Values.{next_in, next_move}
use Rattle.machine_history.specs.Wire.{Open, codes, moved, open_after, open_of, put_out}
use Rattle.machine_history.proofs.JobCounts.{started_is}
use Rattle.machine_history.proofs.Keeping.{kept}
use Rattle.machine_history.proofs.Known.{same_actor-true, same_self}
use Rattle.machine_history.proofs.Owning.{open_next, someone_is}
use Rattle.machine_history.proofs.Stages.{Away, Busied, Disowned, Owned, Sought, Stage, is_active, is_owned, stage, staged}
use Rattle.run_checker.specs.Reasons.{Code, CtlMove, Has, HasReason, HostMove, Job, NoneUnfinished, Pending, Pulse, Reason, Run, Script, Seeks, Signal, answerable, first_after, first_leaver}
use Rattle.run_checker.proofs.Runs.{runs, with_act}

abbrev entry : Actor → Deed → Entry
entry a d = record { actor = a; deed = d }

-- ---- each worker and firmware stands in the order of actors

worker_place : (m : MachineData) (k : ℕ) → k < m.workers → slice_get (actors_of m) (suc (suc k)) ≡ Some (actor.Worker k)
unfolding actors_of
worker_place m k less = of_kind actor.Worker m.workers (of_controller m.controller ++ (numbered actor.Device (length m.devices) ++ numbered actor.Firmware (length m.firmware))) k less

int_place : (m : MachineData) → slice_get (actors_of m) 0 ≡ Some actor.Int
unfolding actors_of
int_place m = refl

firmware_place : (m : MachineData) (k : ℕ) → k < length m.firmware → (j : ℕ) × (slice_get (actors_of m) j ≡ Some (actor.Firmware k))
unfolding actors_of
firmware_place m k less =
    let firmware = numbered actor.Firmware (length m.firmware) in
    let devices = numbered actor.Device (length m.devices) ++ firmware in
    let one = past_kind actor.Device (length m.devices) firmware k ∙ no_more (length m.firmware) k less in
    let two = behind (of_controller m.controller) devices (length m.devices + k) ∙ one in
    let three = past_kind actor.Worker m.workers (of_controller m.controller ++ devices) (length (of_controller m.controller) + (length m.devices + k)) ∙ two in
    (suc (suc (m.workers + (length (of_controller m.controller) + (length m.devices + k)))), three)
  where
    no_more : (n k : ℕ) → k < n → slice_get (numbered actor.Firmware n) k ≡ Some (actor.Firmware k)
    no_more n k less = numbered_at actor.Firmware n k less

-- ---- who runs scripts has a reason while something of its own is open

none_at : (m : MachineData) (past : List Entry) (a : Actor) → NoneUnfinished m past → runs_scripts m a ≡ true → HasReason m past a → ⊥
none_at m past actor.Int none scripts has = let e = scripts in cc
none_at m past actor.Poll none scripts has = let e = scripts in cc
none_at m past actor.Ec none scripts has = let e = scripts in cc
none_at m past (actor.Device k) none scripts has = let e = scripts in cc
none_at m past (actor.Worker k) none scripts has = none (suc (suc k)) (actor.Worker k) (worker_place m k (ltb-true k m.workers (by_or (nat_lt k m.workers) scripts))) has
  where
    by_or : (b : Bool) → (b || false) ≡ true → b ≡ true
    by_or true h = refl
    by_or false h = let e = h in cc
none_at m past (actor.Firmware k) none scripts has = let p = firmware_place m k (ltb-true k (length m.firmware) scripts) in none p.0 (actor.Firmware k) p.1 has

run_reason : (m : MachineData) (past : List Entry) (k : ℕ) → is_some (running past (actor.Worker k)) ≡ true → HasReason m past (actor.Worker k)
run_reason m past zero is = (Run, is)
run_reason m past (suc k) is = (Run, is)

-- a worker that does not run none runs one
runs_some : (past : List Entry) (k : ℕ) → (running past (actor.Worker k) ≡ None → ⊥) → is_some (running past (actor.Worker k)) ≡ true
runs_some past k busy = by_job (running past (actor.Worker k)) refl
  where
    by_job : (o : Option ℕ) → running past (actor.Worker k) ≡ o → is_some o ≡ true
    by_job None is = absurd (busy is)
    by_job (Some j) is = refl

works_at : (m : MachineData) (k : ℕ) → runs_scripts m (actor.Worker k) ≡ true → is_worker m (actor.Worker k) ≡ true
works_at m k scripts = by_or (nat_lt k m.workers) scripts
  where
    by_or : (b : Bool) → (b || false) ≡ true → b ≡ true
    by_or true h = refl
    by_or false h = let e = h in cc

-- a worker or firmware with an act left has a reason
act_reason : (m : MachineData) (past : List Entry) (a : Actor) (x : Act) → LegalPast m past → runs_scripts m a ≡ true → next_of m past a ≡ Some x → HasReason m past a
act_reason m past actor.Int x legal scripts next = absurd (let e = scripts in cc)
act_reason m past actor.Poll x legal scripts next = absurd (let e = scripts in cc)
act_reason m past actor.Ec x legal scripts next = absurd (let e = scripts in cc)
act_reason m past (actor.Device k) x legal scripts next = absurd (let e = scripts in cc)
act_reason m past (actor.Worker k) x legal scripts next = run_reason m past k (runs_some past k (with_act m past (actor.Worker k) x (kept m past (actor.Worker k) legal) (works_at m k scripts) next))
act_reason m past (actor.Firmware k) x legal scripts next = (Script, (ltb-true k (length m.firmware) scripts, ap is_some next))

-- one that competes for the lock has a reason
active_reason : (m : MachineData) → IsMachine m → (past : List Entry) (a : Actor) → LegalPast m past → runs_scripts m a ≡ true → is_active (stage a past) ≡ true → HasReason m past a
active_reason m ok past actor.Int legal scripts active = absurd (let e = scripts in cc)
active_reason m ok past actor.Poll legal scripts active = absurd (let e = scripts in cc)
active_reason m ok past actor.Ec legal scripts active = absurd (let e = scripts in cc)
active_reason m ok past (actor.Device k) legal scripts active = absurd (let e = scripts in cc)
active_reason m ok past (actor.Worker k) legal scripts active = run_reason m past k (runs_some past k (runs m ok (actor.Worker k) past legal (works_at m k scripts) active))
active_reason m ok past (actor.Firmware k) legal scripts active = (Seeks, someone_is (actor.Firmware k) (seeker side.Firmware past) ((staged m past (actor.Firmware k) legal).0 ∙ active))

-- ---- who opened a transaction, owns the lock, competes for it or signalled runs scripts

abbrev RunsScripts : MachineData → Option Actor → Type 0
RunsScripts m None = Unit {0}
RunsScripts m (Some a) = runs_scripts m a ≡ true

abbrev OpenerRuns : MachineData → Option Open → Type 0
OpenerRuns m None = Unit {0}
OpenerRuns m (Some o) = runs_scripts m o.by ≡ true

moved_runs : (m : MachineData) (o : Option Open) → OpenerRuns m o → OpenerRuns m (moved o)
moved_runs m None before = tt
moved_runs m (Some o) before = before

put_runs : (m : MachineData) (v : ℕ) (o : Option Open) → OpenerRuns m o → OpenerRuns m (put_out v o)
put_runs m v None before = tt
put_runs m v (Some o) before = before

open_step : (m : MachineData) (past : List Entry) (a : Actor) (d : Deed) → Allowed m past (entry a d) → OpenerRuns m (open_of past) → OpenerRuns m (open_after a d (open_of past))
open_step m past a (deed.Begin r) allowed before = maker m past a (deed.Begin r) allowed
open_step m past a (deed.Take v) allowed before = tt
open_step m past a (deed.Step h) allowed before = moved_runs m (open_of past) before
open_step m past a (deed.Ctl effect.Taken) allowed before = moved_runs m (open_of past) before
open_step m past a (deed.Ctl (effect.Out v)) allowed before = put_runs m v (open_of past) before
open_step m past a (deed.Ctl effect.Put) allowed before = moved_runs m (open_of past) before
open_step m past a (deed.Ctl effect.Calm) allowed before = before
open_step m past a _ allowed before = before

opener_runs : (m : MachineData) (past : List Entry) → LegalPast m past → OpenerRuns m (open_of past)
opener_runs m [] legal = tt
opener_runs m (e ∷ past) legal = open_step m past e.actor e.deed legal.0 (opener_runs m past legal.1)

owner_step : (m : MachineData) (past : List Entry) (a : Actor) (d : Deed) → Allowed m past (entry a d) → RunsScripts m (owner past) → RunsScripts m (owner (entry a d ∷ past))
owner_step m past a deed.Own allowed before = maker m past a deed.Own allowed
owner_step m past a deed.Disown allowed before = tt
owner_step m past a _ allowed before = before

owner_runs : (m : MachineData) (past : List Entry) → LegalPast m past → RunsScripts m (owner past)
owner_runs m [] legal = tt
owner_runs m (e ∷ past) legal = owner_step m past e.actor e.deed legal.0 (owner_runs m past legal.1)

-- and it stands on the side for which it competes
abbrev SeekerRuns : MachineData → Side → Option Actor → Type 0
SeekerRuns m s None = Unit {0}
SeekerRuns m s (Some a) = (runs_scripts m a ≡ true) × (stands_on s a ≡ true)

seek_step : (m : MachineData) (s : Side) (past : List Entry) (a : Actor) (d : Deed) → Allowed m past (entry a d) → SeekerRuns m s (seeker s past) → SeekerRuns m s (seeker s (entry a d ∷ past))
seek_step m s past a deed.Seek allowed before = by_side (stands_on s a) refl
  where
    by_side : (b : Bool) → stands_on s a ≡ b → SeekerRuns m s (if b then Some a else seeker s past)
    by_side true on = (maker m past a deed.Seek allowed, on)
    by_side false on = before
seek_step m s past a (deed.Leave x) allowed before = by_side (stands_on s a)
  where
    by_side : (b : Bool) → SeekerRuns m s (if b then None else seeker s past)
    by_side true = tt
    by_side false = before
seek_step m s past a _ allowed before = before

seeker_runs : (m : MachineData) (s : Side) (past : List Entry) → LegalPast m past → SeekerRuns m s (seeker s past)
seeker_runs m s [] legal = tt
seeker_runs m s (e ∷ past) legal = seek_step m s past e.actor e.deed legal.0 (seeker_runs m s past legal.1)

leave_step : (m : MachineData) (s : Side) (past : List Entry) (a : Actor) (d : Deed) (o : Option Actor) → Allowed m past (entry a d) → RunsScripts m o → RunsScripts m (first_after s a d o)
leave_step m s past a d (Some b) allowed before = before
leave_step m s past a (deed.Leave true) None allowed before = by_side (stands_on s a)
  where
    by_side : (b : Bool) → RunsScripts m (if b then Some a else None)
    by_side true = maker m past a (deed.Leave true) allowed
    by_side false = tt
leave_step m s past a (deed.Leave false) None allowed before = tt
leave_step m s past a _ None allowed before = tt

leaver_runs : (m : MachineData) (s : Side) (past : List Entry) → LegalPast m past → RunsScripts m (first_leaver s past)
leaver_runs m s [] legal = tt
leaver_runs m s (e ∷ past) legal = leave_step m s past e.actor e.deed (first_leaver s past) legal.0 (leaver_runs m s past legal.1)

-- where a side has signalled, somebody did first
abbrev IsFound : Option Actor → Type 0
IsFound o = (b : Actor) × (o ≡ Some b)

same_count : (b : Bool) (before : ℕ) → 0 < (if b then 0 else 0) + before → 0 < before
same_count true before some = omega (arith, some)
same_count false before some = omega (arith, some)

signal_step : (s : Side) (a : Actor) (d : Deed) (before : ℕ) (o : Option Actor) → (0 < before → IsFound o) → 0 < (if stands_on s a then signals_in d else 0) + before → IsFound (first_after s a d o)
signal_step s a d before (Some b) earlier some = (b, refl)
signal_step s a (deed.Leave true) before None earlier some = by_side (stands_on s a) some
  where
    by_side : (x : Bool) → 0 < (if x then 1 else 0) + before → IsFound (if x then Some a else None)
    by_side true more = (a, refl)
    by_side false more = earlier (omega (arith, more))
signal_step s a (deed.Leave false) before None earlier some = earlier (same_count (stands_on s a) before some)
signal_step s a _ before None earlier some = earlier (same_count (stands_on s a) before some)

first_signal : (s : Side) (past : List Entry) → 0 < leaves s past → (a : Actor) × (first_leaver s past ≡ Some a)
first_signal s [] some = absurd (omega (arith, some))
first_signal s (e ∷ past) some = signal_step s e.actor e.deed (leaves s past) (first_leaver s past) (first_signal s past) some

-- ---- complete, where no actor has a reason

end_of : (p : Plan) → next_act p ≡ None → p ≡ End
end_of End none = refl
end_of (Do needs x next) none = cc

side_is : (s : Side) (a : Actor) (o : Option Side) → is_side s o ≡ true → o ≡ Some s
side_is side.Os a None on = let e = on in cc
side_is side.Os a (Some side.Os) on = refl
side_is side.Os a (Some side.Firmware) on = let e = on in cc
side_is side.Firmware a None on = let e = on in cc
side_is side.Firmware a (Some side.Os) on = let e = on in cc
side_is side.Firmware a (Some side.Firmware) on = refl

is_owned-active : (st : Stage) → is_owned st ≡ true → is_active st ≡ true
is_owned-active Away owned = owned
is_owned-active Sought owned = refl
is_owned-active Busied owned = refl
is_owned-active Owned owned = refl
is_owned-active Disowned owned = refl

rested : (m : MachineData) → IsMachine m → (past : List Entry) → LegalPast m past → NoneUnfinished m past → Rest m past
rested m ok past legal none = record {
  quiet = λ n. quiet_at n (pending m past n) refl;
  no_code = no_code_at (codes past) refl;
  all_started = started_at (nat_lt (starts past) (length (jobs m past))) refl;
  none_runs = λ a. idle_at a (is_worker m a) refl;
  none_open = open_at (open_of past) refl;
  no_owner = owner_at (owner past) refl;
  no_seeker = λ s. seeker_at s (seeker s past) refl;
}
  where
    int : HasReason m past actor.Int → ⊥
    int has = none 0 actor.Int (int_place m) has

    at : (a : Actor) → runs_scripts m a ≡ true → HasReason m past a → ⊥
    at a scripts has = none_at m past a none scripts has

    quiet_at : (n : Event) (b : Bool) → pending m past n ≡ b → pending m past n ≡ false
    quiet_at n true is = absurd (int (Pending, (n, is)))
    quiet_at n false is = is

    no_code_at : (queue : List ℕ) → codes past ≡ queue → codes past ≡ []
    no_code_at [] is = is
    no_code_at (q ∷ queue) is = absurd (int (Code, (λ empty. (let e : (q ∷ queue) ≡ [] = sym is ∙ empty in cc))))

    started_at : (b : Bool) → nat_lt (starts past) (length (jobs m past)) ≡ b → starts past ≡ length (jobs m past)
    started_at true is = absurd (none 2 (actor.Worker 0) (worker_place m 0 (omega (arith, ok.some_workers))) (Job, ltb-true (starts past) (length (jobs m past)) is))
    started_at false is = omega (arith, ltb-false (starts past) (length (jobs m past)) is, (started_is (λ j. 0) m past legal).0)

    worker_idle : (k : ℕ) (o : Option ℕ) → is_worker m (actor.Worker k) ≡ true → running past (actor.Worker k) ≡ o → running past (actor.Worker k) ≡ None
    worker_idle k None works is = is
    worker_idle k (Some j) works is = absurd (none (suc (suc k)) (actor.Worker k) (worker_place m k (ltb-true k m.workers works)) (run_reason m past k (ap is_some is)))

    idle_at : (a : Actor) (b : Bool) → is_worker m a ≡ b → running past a ≡ None
    idle_at a false is = idle_outsider m past legal a is
    idle_at (actor.Worker k) true is = worker_idle k (running past (actor.Worker k)) is refl
    idle_at actor.Int true is = absurd (let e = is in cc)
    idle_at actor.Poll true is = absurd (let e = is in cc)
    idle_at actor.Ec true is = absurd (let e = is in cc)
    idle_at (actor.Device k) true is = absurd (let e = is in cc)
    idle_at (actor.Firmware k) true is = absurd (let e = is in cc)

    open_at : (oo : Option Open) → open_of past ≡ oo → open_of past ≡ None
    open_at None is = is
    open_at (Some o) is =
        let scripts = subst (OpenerRuns m) is (opener_runs m past legal) in
        absurd (at o.by scripts (act_reason m past o.by (act.Ask o.asks) legal scripts (open_next m past o legal is)))

    owner_at : (o : Option Actor) → owner past ≡ o → owner past ≡ None
    owner_at None is = is
    owner_at (Some a) is =
        let scripts = subst (RunsScripts m) is (owner_runs m past legal) in
        let owned = sym (staged m past a legal).1 ∙ (ap (is_someone a) is ∙ same_self a) in
        absurd (at a scripts (active_reason m ok past a legal scripts (is_owned-active (stage a past) owned)))

    seeker_at : (s : Side) (o : Option Actor) → seeker s past ≡ o → seeker s past ≡ None
    seeker_at s None is = is
    seeker_at s (Some a) is =
        let kept = subst (SeekerRuns m s) is (seeker_runs m s past legal) in
        let seeks_it : is_seeker past a ≡ true = ap (seeks past a) (side_is s a (side_of a) kept.1) ∙ (ap (is_someone a) is ∙ same_self a) in
        absurd (at a kept.0 (active_reason m ok past a legal kept.0 (sym (staged m past a legal).0 ∙ seeks_it)))

pub completed : (m : MachineData) → IsMachine m → (history : List Entry) → Legal m history → NoneUnfinished m (reverse history) → Complete m history
completed m ok history legal none = record {
  legal = legal;
  rest = rested m ok (reverse history) legal none;
  ended = λ k less. ended_at k less (next_of m (reverse history) (actor.Firmware k)) refl;
  latched = λ k pulses n is some. latched_at k pulses n is some (nat_lt 0 (latches (reverse history) n)) refl;
  signals = λ s. signals_at s (nat_lt (busies (other s) (reverse history)) (leaves s (reverse history))) refl;
}
  where
    ended_at : (k : ℕ) → k < length m.firmware → (o : Option Act) → next_of m (reverse history) (actor.Firmware k) ≡ o → plan_left m (reverse history) (actor.Firmware k) ≡ End
    ended_at k less None is = end_of (plan_left m (reverse history) (actor.Firmware k)) is
    ended_at k less (Some x) is = let p = firmware_place m k less in absurd (none p.0 (actor.Firmware k) p.1 (Script, (less, ap is_some is)))

    latched_at : (k : ℕ) (pulses : List Event) (n : Event) → slice_get m.devices k ≡ Some pulses → 0 < times n pulses → (b : Bool) → nat_lt 0 (latches (reverse history) n) ≡ b → 0 < latches (reverse history) n
    latched_at k pulses n is some true test = ltb-true 0 (latches (reverse history) n) test
    latched_at k pulses n is some false test =
        let few = ltb-false 0 (latches (reverse history) n) test in
        let zero_is : latches (reverse history) n ≡ 0 = omega (arith, few) in
        absurd (none 0 actor.Int (int_place m) (Pulse, (k, pulses, n, is, some, zero_is)))

    signals_at : (s : Side) (b : Bool) → nat_lt (busies (other s) (reverse history)) (leaves s (reverse history)) ≡ b → leaves s (reverse history) ≤ busies (other s) (reverse history)
    signals_at s false test = ltb-false (busies (other s) (reverse history)) (leaves s (reverse history)) test
    signals_at s true test =
        let more = ltb-true (busies (other s) (reverse history)) (leaves s (reverse history)) test in
        let first = first_signal s (reverse history) (omega (arith, more)) in
        let scripts = subst (RunsScripts m) first.1 (leaver_runs m s (reverse history) legal) in
        let answers : answerable s (reverse history) ≡ Some first.0 = ap (λ b. if b then first_leaver s (reverse history) else None) test ∙ first.1 in
        absurd (none_at m (reverse history) first.0 none scripts (Signal, (s, answers)))

-- ---- and no actor has one where it is complete

pub none_has : (m : MachineData) (history : List Entry) → Complete m history → (a : Actor) (r : Reason) → Has m (reverse history) a r → ⊥
none_has m history whole a Signal has =
    let none = le-ltb (busies (other has.0) (reverse history)) (leaves has.0 (reverse history)) (whole.signals has.0) in
    let e : None ≡ Some a = sym (ap (λ b. if b then first_leaver has.0 (reverse history) else None) none) ∙ has.1 in
    cc
none_has m history whole actor.Int Pending has = let e : true ≡ false = sym has.1 ∙ whole.rest.quiet has.0 in cc
none_has m history whole actor.Int Code has = has whole.rest.no_code
none_has m history whole actor.Int Pulse has = let some = whole.latched has.0 has.1 has.2 has.3 has.4 in omega (arith, some, has.5)
none_has m history whole actor.Poll HostMove has = let e : Some has.0 ≡ None = sym has.1 ∙ whole.rest.none_open in cc
none_has m history whole (actor.Worker zero) Job has = let all = whole.rest.all_started in omega (arith, all, has)
none_has m history whole (actor.Worker zero) Run has = let e : false ≡ true = sym (ap is_some (whole.rest.none_runs (actor.Worker 0))) ∙ has in cc
none_has m history whole (actor.Worker (suc k)) Run has = let e : false ≡ true = sym (ap is_some (whole.rest.none_runs (actor.Worker (suc k)))) ∙ has in cc
none_has m history whole actor.Ec CtlMove has = let e : false ≡ true = sym (ap (λ o. is_some (effect_in (next_in m (reverse history) o))) whole.rest.none_open) ∙ has in cc
none_has m history whole (actor.Firmware k) Script has = let e : false ≡ true = sym (ap (λ p. is_some (next_act p)) (whole.ended k has.0)) ∙ has.1 in cc
none_has m history whole (actor.Firmware k) Seeks has = let e : Some (actor.Firmware k) ≡ None = sym has ∙ whole.rest.no_seeker side.Firmware in cc
none_has m history whole _ _ has = absurd has
