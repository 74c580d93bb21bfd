-- Jobs: what was started is no more than what was made, and what was finished no more than what was started.
use Rattle.std.proofs.Common.{ℕ, zero, suc, ◌+◌, ◌<◌, ◌≤◌, ◌≡◌, ◌==◌, true, ◌&&◌, nat_lt, List, [], ◌∷◌, ◌++◌, length, drop, slice_get, Option, Some, None, is_some, is_none, if◌then◌else◌, refl, sym, ap, subst, arith}
use Rattle.std.proofs.lemmas.Bool.{and_parts, eqb-true, ltb-true}
use Rattle.acpi_regs.specs.declared.actor.Actor.{Actor}
use Rattle.acpi_regs.specs.declared.actor.Actor.TheVariants as actor
use Rattle.acpi_regs.specs.declared.entry.Deed.{Deed}
use Rattle.acpi_regs.specs.declared.entry.Deed.TheVariants as deed
use Rattle.acpi_regs.specs.declared.entry.Entry.{Entry}
use Rattle.machine_desc.specs.Machine.{MachineData}
use Rattle.machine_history.specs.declared.parts.Job.{Job}
use Rattle.machine_history.specs.Jobs.{and_job, jobs, made, running, running_after, starts}
use Rattle.machine_history.specs.Legal.{Allowed, LegalPast, may_start, same_number}
use Rattle.machine_history.proofs.Known.{hold}
use Rattle.machine_history.proofs.Paying.{started}
use Rattle.machine_history.proofs.Stages.{by_own}
use Rattle.machine_history.proofs.Totals.{Count, bounded, by_deed, one, own, sum_of, total}

-- ---- starts and finishes of one actor

abbrev pub is_start : Deed → ℕ
is_start (deed.Start j) = 1
is_start _ = 0

abbrev pub is_finish : Deed → ℕ
is_finish (deed.Finish j) = 1
is_finish _ = 0

pub some_runs : (j : ℕ) (o : Option ℕ) → same_number (Some j) o ≡ true → one (is_some o) ≡ 1
some_runs j None is = cc
some_runs j (Some k) is = refl

pub finish_step : (m : MachineData) (past : List Entry) (a : Actor) (d : Deed) → Allowed m past (record { actor = a; deed = d })
    → is_finish d + one (is_some (running_after d (running past a))) ≤ is_start d + one (is_some (running past a))
finish_step m past a (deed.Start j) ok = omega arith
finish_step m past a (deed.Finish j) ok = let runs = some_runs j (running past a) (hold m past a (deed.Finish j) ok).1.1.0 in omega arith
finish_step m past a _ ok = omega arith

pub few_finishes : (m : MachineData) (a : Actor) (past : List Entry) → LegalPast m past → total (own a (by_deed is_finish)) past + one (is_some (running past a)) ≤ 0 + total (own a (by_deed is_start)) past
few_finishes m a past legal =
    bounded m (λ p. one (is_some (running p a))) (own a (by_deed is_finish)) (own a (by_deed is_start)) 0 (omega arith)
    (λ p e lp ok. by_own a e.actor (λ x. (if x then is_finish e.deed else 0) + one (is_some (if x then running_after e.deed (running p a) else running p a)) ≤ (if x then is_start e.deed else 0) + one (is_some (running p a)))
    (λ same. finish_step m p a e.deed (subst (λ x. Allowed m p (record { actor = x; deed = e.deed })) (sym same) ok))
    (λ other. omega arith))
    past legal

-- ---- the worth of jobs

abbrev pub made_worth : (Option Job → ℕ) → Option Job → ℕ
made_worth w None = 0
made_worth w (Some j) = w (Some j)

abbrev pub made_in : (Option Job → ℕ) → MachineData → Count
made_in w m past e = made_worth w (made m past e)

-- what the jobs that wait are worth
abbrev pub waits : (Option Job → ℕ) → List Job → ℕ → ℕ
waits w js k = sum_of (λ j. w (Some j)) (drop k js)

pub drop-get : (w : Option Job → ℕ) (js : List Job) (k : ℕ) → k < length js → waits w js k ≡ w (slice_get js k) + waits w js (suc k)
drop-get w [] k below = absurd (omega arith)
drop-get w (j ∷ js) zero below = refl
drop-get w (j ∷ js) (suc k) below = drop-get w js k (omega arith)

pub drop-push : (w : Option Job → ℕ) (js : List Job) (j : Job) (k : ℕ) → k ≤ length js → waits w (js ++ j ∷ []) k ≡ waits w js k + w (Some j)
drop-push w [] j zero within = omega arith
drop-push w [] j (suc k) within = absurd (omega arith)
drop-push w (x ∷ js) j zero within = let rest = drop-push w js j zero (omega arith) in omega arith
drop-push w (x ∷ js) j (suc k) within = drop-push w js j k (omega arith)

pub length-push : (js : List Job) (j : Job) → length (js ++ j ∷ []) ≡ length js + 1
length-push [] j = refl
length-push (x ∷ js) j = let rest = length-push js j in omega arith

pub length-grown : (js : List Job) (o : Option Job) → length js ≤ length (and_job js o)
length-grown js None = omega arith
length-grown js (Some j) = let more = length-push js j in omega arith

pub grown : (w : Option Job → ℕ) (js : List Job) (o : Option Job) (k : ℕ) → k ≤ length js → waits w (and_job js o) k ≡ waits w js k + made_worth w o
grown w js None k within = omega arith
grown w js (Some j) k within = drop-push w js j k within

pub start_parts : (m : MachineData) (past : List Entry) (a : Actor) (j : ℕ) → may_start m past a j ≡ true → (j ≡ starts past) × (starts past < length (jobs m past))
start_parts m past a j may =
    let p = and_parts (is_none (running past a) && (j == starts past)) (nat_lt (starts past) (length (jobs m past))) may in
    let q = and_parts (is_none (running past a)) (j == starts past) p.0 in
    (eqb-true j (starts past) q.1, ltb-true (starts past) (length (jobs m past)) p.1)

-- no more starts than jobs, and what was started and what waits is what was made
abbrev pub StartedAt : (Option Job → ℕ) → MachineData → List Entry → Type 0
StartedAt w m past = (starts past ≤ length (jobs m past)) × (total (started w m) past + waits w (jobs m past) (starts past) ≡ total (made_in w m) past)

abbrev pub entry : Actor → Deed → Entry
entry a d = record { actor = a; deed = d }

pub other_step : (w : Option Job → ℕ) (m : MachineData) (past : List Entry) (o : Option Job) → StartedAt w m past
    → (starts past ≤ length (and_job (jobs m past) o)) × ((0 + total (started w m) past) + waits w (and_job (jobs m past) o) (starts past) ≡ made_worth w o + total (made_in w m) past)
other_step w m past o before =
    let within = before.0 in
    let same = before.1 in
    let long = length-grown (jobs m past) o in
    let more = grown w (jobs m past) o (starts past) within in
    (omega arith, omega arith)

pub started_step : (w : Option Job → ℕ) (m : MachineData) (past : List Entry) (a : Actor) (d : Deed) → Allowed m past (entry a d) → StartedAt w m past → StartedAt w m (entry a d ∷ past)
started_step w m past a (deed.Start j) ok before =
    let p = start_parts m past a j (hold m past a (deed.Start j) ok).1.1.0 in
    let less : starts past < length (jobs m past) = p.1 in
    let worth : w (slice_get (jobs m past) j) ≡ w (slice_get (jobs m past) (starts past)) = ap (λ k. w (slice_get (jobs m past) k)) p.0 in
    let taken = drop-get w (jobs m past) (starts past) less in
    let next : waits w (jobs m past) (suc (starts past)) ≡ waits w (jobs m past) (starts past + 1) = ap (waits w (jobs m past)) (one_more (starts past)) in
    let same = before.1 in
    (omega arith, omega arith)
  where
    one_more : (n : ℕ) → suc n ≡ n + 1
    one_more n = omega arith
started_step w m past a (deed.Claim n) ok before = other_step w m past (made m past (entry a (deed.Claim n))) before
started_step w m past a (deed.Take v) ok before = other_step w m past (made m past (entry a (deed.Take v))) before
started_step w m past a _ ok before = other_step w m past None before

pub started_is : (w : Option Job → ℕ) (m : MachineData) (past : List Entry) → LegalPast m past → StartedAt w m past
started_is w m [] legal = (omega arith, refl)
started_is w m (e ∷ past) legal = started_step w m past e.actor e.deed legal.0 (started_is w m past legal.1)

pub few_started : (w : Option Job → ℕ) (m : MachineData) (past : List Entry) → LegalPast m past → total (started w m) past ≤ total (made_in w m) past
few_started w m past legal = let all = (started_is w m past legal).1 in omega arith

-- a firmware starts no job
pub no_start : (w : Option Job → ℕ) (m : MachineData) (past : List Entry) (k : ℕ) (d : Deed) → Allowed m past (entry (actor.Firmware k) d) → started w m past (entry (actor.Firmware k) d) ≡ 0
no_start w m past k (deed.Start j) ok = let works = (hold m past (actor.Firmware k) (deed.Start j) ok).0 in cc
no_start w m past k _ ok = refl

pub firmware_starts : (w : Option Job → ℕ) (m : MachineData) (k : ℕ) (past : List Entry) → LegalPast m past → total (own (actor.Firmware k) (started w m)) past ≡ 0
firmware_starts w m k [] legal = refl
firmware_starts w m k (e ∷ past) legal =
    let rest = firmware_starts w m k past legal.1 in
    let here : own (actor.Firmware k) (started w m) past e ≡ 0 = by_own (actor.Firmware k) e.actor (λ x. (if x then started w m past e else 0) ≡ 0)
    (λ same. no_start w m past k e.deed (subst (λ x. Allowed m past (entry x e.deed)) (sym same) legal.0))
    (λ other. refl) in
    omega arith
