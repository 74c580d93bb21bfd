-- Who competes for the Global Lock has something left to do: a worker runs a job.
use Rattle.std.proofs.Common.{ℕ, ◌≡◌, Bool, true, false, cond, ◌&&◌, ◌||◌, is_none, List, [], ◌∷◌, Option, Some, None, refl, sym, ap, ◌∙◌, subst}
use Rattle.std.proofs.lemmas.Bool.{and_from, and_parts}
use Rattle.acpi_regs.specs.declared.actor.Actor.{Actor}
use Rattle.acpi_regs.specs.declared.actor.Actor.TheVariants as actor
use Rattle.acpi_regs.specs.declared.actor.Side.{Side}
use Rattle.acpi_regs.specs.declared.actor.Side.TheVariants as side
use Rattle.acpi_regs.specs.declared.entry.Deed.{Deed}
use Rattle.acpi_regs.specs.declared.entry.Deed.TheVariants as deed
use Rattle.acpi_regs.specs.declared.entry.Entry.{Entry}
use Rattle.acpi_regs.specs.Actor.{same_actor, side_of, stands_on}
use Rattle.acpi_regs.specs.Lock.{has_disowned, has_owned, is_busy, is_someone, owner, seeker}
use Rattle.handler_script.specs.declared.act.Act.{Act}
use Rattle.handler_script.specs.declared.act.Act.TheVariants as act
use Rattle.handler_script.specs.Locked.{Locked}
use Rattle.handler_script.specs.Plan.{End, Plan, next_act}
use Rattle.machine_desc.specs.Kept.{IsMachine}
use Rattle.machine_desc.specs.Machine.{MachineData}
use Rattle.machine_history.specs.Jobs.{jobs, running, running_after}
use Rattle.machine_history.specs.Legal.{Allowed, LegalPast, has_quit, is_firmware, is_leave, is_seeker, is_worker, runs_scripts, seeks}
use Rattle.machine_history.specs.Scripts.{next_of, plan_left}
use Rattle.machine_history.proofs.Keeping.{Kept, kept, next_lock}
use Rattle.machine_history.proofs.Known.{hold, is_none-none, same_actor-true, same_self, some-injective}
use Rattle.machine_history.proofs.Stages.{At, Away, Busied, Disowned, Follows, Owned, Sought, Stage, follows_own, is_active, is_owned, is_trying_at, stage, stage_after, staged}
use Rattle.machine_history.proofs.Owning.{ended, guarded}

abbrev entry : Actor → Deed → Entry
entry a d = record { actor = a; deed = d }

-- a worker that runs no job does not compete for the lock
abbrev pub Runs : MachineData → List Entry → Actor → Type 0
Runs m past a = is_worker m a ≡ true → is_active (stage a past) ≡ true → running past a ≡ None → ⊥

-- with an act left a worker runs a job
pub with_act : (m : MachineData) (past : List Entry) (a : Actor) (x : Act) → Kept m past a → is_worker m a ≡ true → next_of m past a ≡ Some x → running past a ≡ None → ⊥
with_act m past a x k works next free = let none = ap next_act (k.2 works free) in let both : Some x ≡ None = sym next ∙ none in absurd (let e = both in cc)

worker_runs_scripts : (m : MachineData) (a : Actor) → is_worker m a ≡ true → runs_scripts m a ≡ true
worker_runs_scripts m a works = ap (λ b. b || is_firmware m a) works

-- a worker that finishes its job is away from the lock
finish_away : (m : MachineData) → IsMachine m → (past : List Entry) (a : Actor) (j : ℕ) → LegalPast m past → Allowed m past (entry a (deed.Finish j)) → is_worker m a ≡ true → is_active (stage a past) ≡ true → ⊥
finish_away m ok past a j legal allowed works active = by_stage (stage a past) refl
  where
    h : (is_none (next_of m past a) ≡ true) × (cond (has_quit m past a) false true ≡ true)
    h = let all = hold m past a (deed.Finish j) allowed in (all.1.1.1.0, all.1.0)

    none : next_of m past a ≡ None
    none = is_none-none (next_of m past a) h.0

    no_quit : (b : Bool) → cond b false true ≡ true → b ≡ true → ⊥
    no_quit true test quit = let e = test in cc
    no_quit false test quit = let e = quit in cc

    at : At (is_seeker past a) (is_someone a (owner past)) (stage a past) (has_owned a past) (has_disowned a past) (is_busy a past)
    at = staged m past a legal

    tries : is_trying_at (stage a past) ≡ true → ⊥
    tries trying = let both : None ≡ Some act.Lock = sym none ∙ (kept m past a legal).0 trying in let e = both in cc

    by_stage : (st : Stage) → stage a past ≡ st → ⊥
    by_stage Away is = let e : false ≡ true = ap is_active (sym is) ∙ active in cc
    by_stage Sought is = tries (ap is_trying_at is)
    by_stage Busied is = tries (ap is_trying_at is)
    by_stage Owned is =
        let free = ended (plan_left m past a) (is_owned (stage a past)) none (guarded m ok a past legal) in
        let e : true ≡ false = ap is_owned (sym is) ∙ free in cc
    by_stage Disowned is =
        let quit_at = subst (λ st. At (is_seeker past a) (is_someone a (owner past)) st (has_owned a past) (has_disowned a past) (is_busy a past)) is at in
        let scripts = worker_runs_scripts m a works in
        let quit = and_from (runs_scripts m a && is_seeker past a) (has_disowned a past) (and_from (runs_scripts m a) (is_seeker past a) scripts quit_at.0) quit_at.2.1 in
        no_quit (has_quit m past a) h.1 quit

own_runs : (m : MachineData) → IsMachine m → (past : List Entry) (a : Actor) (d : Deed) → LegalPast m past → Allowed m past (entry a d) → Follows d (stage a past) → Runs m past a → is_worker m a ≡ true → is_active (stage_after d (stage a past)) ≡ true → running_after d (running past a) ≡ None → ⊥
own_runs m ok past a deed.Seek legal allowed f before works active free =
    with_act m past a act.Lock (kept m past a legal) works (next_lock (next_of m past a) (hold m past a deed.Seek allowed).1.1.0) free
own_runs m ok past a deed.Busy legal allowed f before works active free = before works (ap is_active f) free
own_runs m ok past a deed.Woken legal allowed f before works active free = before works (ap is_active f) free
own_runs m ok past a deed.Own legal allowed f before works active free = before works (ap is_active f) free
own_runs m ok past a deed.Disown legal allowed f before works active free = before works (ap is_active f) free
own_runs m ok past a (deed.Leave s) legal allowed f before works active free = let e = active in cc
own_runs m ok past a (deed.Start j) legal allowed f before works active free = let e = free in cc
own_runs m ok past a (deed.Finish j) legal allowed f before works active free = finish_away m ok past a j legal allowed works active
own_runs m ok past a _ legal allowed f before works active free = before works active free

pub runs : (m : MachineData) → IsMachine m → (a : Actor) (past : List Entry) → LegalPast m past → Runs m past a
runs m ok a [] legal works active free = let e = active in cc
runs m ok a (e ∷ past) legal works active free = at (same_actor a e.actor) refl (runs m ok a past legal.1) active free
  where
    active_at : (d : Deed) → is_active (stage a (entry a d ∷ past)) ≡ true → is_active (stage_after d (stage a past)) ≡ true
    active_at d act = ap (λ b. is_active (cond b (stage_after d (stage a past)) (stage a past))) (sym (same_self a)) ∙ act

    idle_at : (d : Deed) → running (entry a d ∷ past) a ≡ None → running_after d (running past a) ≡ None
    idle_at d idle = ap (λ b. cond b (running_after d (running past a)) (running past a)) (sym (same_self a)) ∙ idle

    mine : (b : Actor) (d : Deed) → a ≡ b → Allowed m past (entry b d) → Follows d (stage a past) → Runs m past a → is_active (stage a (entry b d ∷ past)) ≡ true → running (entry b d ∷ past) a ≡ None → ⊥
    mine b d same = subst (λ x. Allowed m past (entry x d) → Follows d (stage a past) → Runs m past a → is_active (stage a (entry x d ∷ past)) ≡ true → running (entry x d ∷ past) a ≡ None → ⊥) same
        (λ may f before act idle. own_runs m ok past a d legal.1 may f before works (active_at d act) (idle_at d idle))

    at : (x : Bool) → same_actor a e.actor ≡ x → Runs m past a → is_active (stage a (e ∷ past)) ≡ true → running (e ∷ past) a ≡ None → ⊥
    at true same before act idle = let is = same_actor-true a e.actor same in mine e.actor e.deed is legal.0 (follows_own m past a e is legal.1 legal.0) before act idle
    at false other before act idle =
        before works
        (ap (λ b. is_active (cond b (stage_after e.deed (stage a past)) (stage a past))) (sym other) ∙ act)
        (ap (λ b. cond b (running_after e.deed (running past a)) (running past a)) (sym other) ∙ idle)
