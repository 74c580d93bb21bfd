-- In a history at rest the starts of code jobs are worth what the pushes are, code by code.
use Rattle.std.proofs.Common.{ℕ, ◌+◌, ◌≡◌, List, [], ◌∷◌, ◌++◌, length, reverse, filter_map, Option, Some, None, refl, ap, ◌∙◌, arith}
use Rattle.std.proofs.lemmas.List.{append-nil}
use Rattle.acpi_regs.specs.declared.actor.Actor.{Actor}
use Rattle.acpi_regs.specs.declared.entry.Deed.{Deed}
use Rattle.acpi_regs.specs.declared.entry.Deed.TheVariants as deed
use Rattle.acpi_regs.specs.declared.entry.Entry.{Entry}
use Rattle.machine_desc.specs.Kept.{IsMachine}
use Rattle.machine_desc.specs.Machine.{MachineData}
use Rattle.machine_history.specs.declared.parts.Job.{Job}
use Rattle.machine_history.specs.declared.parts.Job.TheVariants as job
use Rattle.machine_history.specs.Complete.{Rest}
use Rattle.machine_history.specs.Jobs.{jobs, made, starts}
use Rattle.machine_history.specs.Legal.{LegalPast}
use Rattle.machine_history.specs.Sentences.{codes_of, out_in, push_by, pushed_in}
use Rattle.machine_history.specs.Wire.{given}
use Rattle.history_laws.proofs.CodeOrder.{codes-grown, job_codes, pushed-push, runs_of_past, same_codes}
use Rattle.machine_history.proofs.Codes.{code_jobs_in, code_price}
use Rattle.machine_history.proofs.JobCounts.{made_in, made_worth, started_is, waits}
use Rattle.machine_history.proofs.Paying.{started}
use Rattle.machine_history.proofs.Prices.{charge, charged, pushes_price}
use Rattle.machine_history.proofs.Totals.{sum_of, total}

pub sum_of-append : {X : Type 0} (f : X → ℕ) (xs ys : List X) → sum_of f (xs ++ ys) ≡ sum_of f xs + sum_of f ys
sum_of-append f [] ys = omega arith
sum_of-append f (x ∷ xs) ys = let rest = sum_of-append f xs ys in omega arith

-- ---- the pushes

pub pushes_worth : (g : ℕ → ℕ) (past : List Entry) → sum_of g (pushed_in (reverse past)) ≡ total (charged (pushes_price g)) past
pushes_worth g [] = refl
pushes_worth g (e ∷ past) = ap (sum_of g) (pushed-push past e) ∙ (sum_of-append g (pushed_in (reverse past)) (filter_map (λ (x : Entry). push_by x.deed) (e ∷ [])) ∙ at e.actor e.deed (pushes_worth g past))
  where
    at : (a : Actor) (d : Deed) → sum_of g (pushed_in (reverse past)) ≡ total (charged (pushes_price g)) past
        → sum_of g (pushed_in (reverse past)) + sum_of g (filter_map (λ (x : Entry). push_by x.deed) (record { actor = a; deed = d } ∷ [])) ≡ charge (pushes_price g) d + total (charged (pushes_price g)) past
    at a (deed.Push q) before = omega arith
    at a _ before = omega arith

-- ---- the jobs

pub job_codes-worth : (g : ℕ → ℕ) (o : Option Job) → sum_of g (job_codes o) ≡ code_price g o
job_codes-worth g None = refl
job_codes-worth g (Some (job.Event n)) = refl
job_codes-worth g (Some job.Query) = refl
job_codes-worth g (Some (job.Code q)) = omega arith

pub jobs_worth : (g : ℕ → ℕ) (m : MachineData) (past : List Entry) → total (code_jobs_in g m) past ≡ sum_of g (codes_of (jobs m past))
jobs_worth g m [] = refl
jobs_worth g m (e ∷ past) =
    let rest = jobs_worth g m past in
    let grown = ap (sum_of g) (codes-grown (jobs m past) (made m past e)) in
    let split = sum_of-append g (codes_of (jobs m past)) (job_codes (made m past e)) in
    let here = job_codes-worth g (made m past e) in
    omega arith

pub made_codes : (g : ℕ → ℕ) (m : MachineData) (past : List Entry) → total (made_in (code_price g) m) past ≡ total (code_jobs_in g m) past
made_codes g m [] = refl
made_codes g m (e ∷ past) = let rest = made_codes g m past in let here = one (made m past e) in omega arith
  where
    one : (o : Option Job) → made_worth (code_price g) o ≡ code_price g o
    one None = refl
    one (Some j) = refl

pub none_waits : (w : Option Job → ℕ) (js : List Job) → waits w js (length js) ≡ 0
none_waits w [] = refl
none_waits w (j ∷ js) = none_waits w js

pub starts_worth : (g : ℕ → ℕ) (m : MachineData) (past : List Entry) → LegalPast m past → starts past ≡ length (jobs m past) → total (started (code_price g) m) past ≡ total (code_jobs_in g m) past
starts_worth g m past legal all =
    let is = (started_is (code_price g) m past legal).1 in
    let none = ap (waits (code_price g) (jobs m past)) all ∙ none_waits (code_price g) (jobs m past) in
    let same = made_codes g m past in
    omega arith

-- ---- each code that was pushed was started

-- the codes of the jobs are those that were pushed
pub codes_pushed : (m : MachineData) → IsMachine m → (past : List Entry) → LegalPast m past → Rest m past → pushed_in (reverse past) ≡ codes_of (jobs m past)
codes_pushed m ok past legal rest =
    same_codes m ok past legal
    ∙ (ap (λ waiting. given past ++ waiting) rest.no_code
    ∙ (append-nil (given past)
    ∙ (runs_of_past m past legal
    ∙ (ap (λ o. codes_of (jobs m past) ++ out_in o) rest.none_open
    ∙ append-nil (codes_of (jobs m past))))))

pub codes_started : (g : ℕ → ℕ) (m : MachineData) → IsMachine m → (past : List Entry) → LegalPast m past → Rest m past → total (started (code_price g) m) past ≡ total (charged (pushes_price g)) past
codes_started g m ok past legal rest =
    let starts_are = starts_worth g m past legal rest.all_started in
    let jobs_are = jobs_worth g m past in
    let pushes_are = pushes_worth g past in
    let same = ap (sum_of g) (codes_pushed m ok past legal rest) in
    omega arith
