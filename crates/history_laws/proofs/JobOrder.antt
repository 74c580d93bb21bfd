-- Jobs are started in order, each at most once, and finished no more often than started.
use Rattle.std.proofs.Common.{ℕ, ◌+◌, ◌<◌, ◌≤◌, ◌≡◌, ◌==◌, ◌⊎◌, inl, inr, Bool, true, cond, nat_lt, List, [], ◌∷◌, ◌++◌, length, reverse, count_by, filter_map, Option, Some, None, slice_get, if◌then◌else◌, refl, sym, ap, ◌∙◌, subst, arith}
use Rattle.std.proofs.lemmas.Bool.{cases_eq, cases_lt, eq-eqb, eqb-true, lt-ltb, le-ltb, ne_eqb}
use Rattle.std.proofs.lemmas.List.{append-nil, length_push, reverse-reverse}
use Rattle.std.proofs.lemmas.List.Elements.{filter_map-append}
use Rattle.std.proofs.lemmas.List.Sums.{sum_by_push}
use Rattle.acpi_regs.specs.declared.actor.Actor.{Actor}
use Rattle.acpi_regs.specs.declared.entry.Deed.{Deed}
use Rattle.acpi_regs.specs.declared.entry.Deed.TheVariants as deed
use Rattle.acpi_regs.specs.declared.entry.Entry.{Entry}
use Rattle.machine_desc.specs.Machine.{MachineData}
use Rattle.machine_history.specs.Complete.{Complete}
use Rattle.machine_history.specs.Jobs.{jobs, running, running_after, starts, starts_after}
use Rattle.machine_history.specs.Legal.{Allowed, Legal, LegalPast, is_worker, runs_scripts, same_number}
use Rattle.machine_history.specs.Sentences.{JobsDone, JobsInOrder, is_finish_of, is_start_of, start_by, started_in}
use Rattle.machine_history.proofs.Actors.{ByScripts, over-le, over_within, within_over}
use Rattle.machine_history.proofs.JobCounts.{start_parts, started_is}
use Rattle.machine_history.proofs.Keeping.{start_free}
use Rattle.machine_history.proofs.Known.{hold}
use Rattle.machine_history.proofs.Locking.{by_actors}
use Rattle.machine_history.proofs.Places.{reverse-cons, slice_get-push}
use Rattle.machine_history.proofs.Stages.{by_own}
use Rattle.machine_history.proofs.Totals.{by_deed, one, one_small, own, total, when}

-- a count over a history, oldest first, is a total over its past
pub count-total : (p : Deed → Bool) (past : List Entry) → count_by (λ (e : Entry). p e.deed) (reverse past) ≡ total (by_deed (λ d. one (p d))) past
count-total p [] = refl
count-total p (e ∷ past) =
    let rest = count-total p past in
    let push = sum_by_push (λ (x : Entry). cond (p x.deed) 1 0) (reverse past) e in
    let here = ap (λ h. count_by (λ (x : Entry). p x.deed) h) (reverse-cons e past) in
    omega arith

-- ---- the starts, in order

pub started-push : (past : List Entry) (e : Entry) → started_in (reverse (e ∷ past)) ≡ started_in (reverse past) ++ filter_map (λ (x : Entry). start_by x.deed) (e ∷ [])
started-push past e = ap started_in (reverse-cons e past) ∙ filter_map-append (λ (x : Entry). start_by x.deed) (reverse past) (e ∷ [])

abbrev pub entry : Actor → Deed → Entry
entry a d = record { actor = a; deed = d }

pub started-length : (past : List Entry) → length (started_in (reverse past)) ≡ starts past
started-length [] = refl
started-length (e ∷ past) = ap length (started-push past e) ∙ at e.actor e.deed (started-length past)
  where
    at : (a : Actor) (d : Deed) → length (started_in (reverse past)) ≡ starts past → length (started_in (reverse past) ++ filter_map (λ (x : Entry). start_by x.deed) (entry a d ∷ [])) ≡ starts_after d (starts past)
    at a (deed.Start j) rest = length_push (started_in (reverse past)) j ∙ ap (λ k. k + 1) rest
    at a _ rest = ap length (append-nil (started_in (reverse past))) ∙ rest

pub InOrder : List ℕ → Type 0
InOrder js = (k j : ℕ) → slice_get js k ≡ Some j → j ≡ k

pub order_push : (js : List ℕ) (j : ℕ) → j ≡ length js → InOrder js → InOrder (js ++ j ∷ [])
unfolding InOrder
order_push js j is before k x at =
    elim (slice_get-push js j k x at) [
      | inl left ↦ before k x left.1
      | inr last ↦ sym last.1 ∙ (is ∙ sym last.0)
    ]

pub in_order : (m : MachineData) (past : List Entry) → LegalPast m past → InOrder (started_in (reverse past))
unfolding InOrder
in_order m [] legal = λ k j at. cc
in_order m (e ∷ past) legal = subst InOrder (sym (started-push past e)) (at e.actor e.deed legal.0 (in_order m past legal.1))
  where
    at : (a : Actor) (d : Deed) → Allowed m past (entry a d) → InOrder (started_in (reverse past)) → InOrder (started_in (reverse past) ++ filter_map (λ (x : Entry). start_by x.deed) (entry a d ∷ []))
    at a (deed.Start j) ok before = order_push (started_in (reverse past)) j ((start_parts m past a j (hold m past a (deed.Start j) ok).1.1.0).0 ∙ sym (started-length past)) before
    at a _ ok before = subst InOrder (sym (append-nil (started_in (reverse past)))) before

-- ---- once

-- a job was started where its number is below the number of starts
pub started_once : (m : MachineData) (j : ℕ) (past : List Entry) → LegalPast m past → total (by_deed (λ d. one (is_start_of j d))) past ≡ one (nat_lt j (starts past))
started_once m j [] legal = let none : one (nat_lt j 0) ≡ 0 = ap one (le-ltb j 0 (omega arith)) in omega arith
started_once m j (e ∷ past) legal = at e.actor e.deed legal.0 (started_once m j past legal.1)
  where
    later : (j ≡ starts past → ⊥) → one (nat_lt j (starts past)) ≡ one (nat_lt j (starts past + 1))
    later other = elim (cases_lt j (starts past)) [
      | inl less ↦ ap one (lt-ltb j (starts past) less ∙ sym (lt-ltb j (starts past + 1) (let l : j < starts past = less in omega arith)))
      | inr more ↦ ap one (le-ltb j (starts past) more ∙ sym (le-ltb j (starts past + 1) (let l : starts past ≤ j = more in omega (arith, other))))
    ]

    at : (a : Actor) (d : Deed) → Allowed m past (entry a d) → total (by_deed (λ x. one (is_start_of j x))) past ≡ one (nat_lt j (starts past)) → one (is_start_of j d) + total (by_deed (λ x. one (is_start_of j x))) past ≡ one (nat_lt j (starts_after d (starts past)))
    at a (deed.Start k) ok before =
        let is : k ≡ starts past = (start_parts m past a k (hold m past a (deed.Start k) ok).1.1.0).0 in
        elim (cases_eq k j) [
          | inl same ↦ (
              let here : one (k == j) ≡ 1 = ap one (eq-eqb k j same) in
              let none : one (nat_lt j (starts past)) ≡ 0 = ap one (le-ltb j (starts past) (let s : k ≡ j = same in omega arith)) in
              let now : one (nat_lt j (starts past + 1)) ≡ 1 = ap one (lt-ltb j (starts past + 1) (let s : k ≡ j = same in omega arith)) in
              omega arith)
          | inr other ↦ (
              let here : one (k == j) ≡ 0 = ap one (ne_eqb k j other) in
              let more = later (λ same. other (is ∙ sym same)) in
              omega arith)
        ]
    at a _ ok before = omega arith

-- ---- finishes

pub runs : ℕ → Option ℕ → ℕ
runs j None = 0
runs j (Some k) = one (k == j)

pub runs_same : (j k : ℕ) (o : Option ℕ) → same_number (Some k) o ≡ true → runs j o ≡ one (k == j)
unfolding runs
runs_same j k None is = cc
runs_same j k (Some x) is = ap (λ y. one (y == j)) (sym (eqb-true k x is))

pub runs_none : (j : ℕ) (o : Option ℕ) → o ≡ None → runs j o ≡ 0
unfolding runs
runs_none j o is = ap (runs j) is

pub finish_step : (m : MachineData) (j : ℕ) (past : List Entry) (a : Actor) (d : Deed) → Allowed m past (entry a d) → one (is_finish_of j d) + runs j (running_after d (running past a)) ≡ one (is_start_of j d) + runs j (running past a)
unfolding runs
finish_step m j past a (deed.Start k) ok = let free = runs_none j (running past a) (start_free m past a k (hold m past a (deed.Start k) ok).1.1.0) in omega arith
finish_step m j past a (deed.Finish k) ok = let is = runs_same j k (running past a) (hold m past a (deed.Finish k) ok).1.1.0 in omega arith
finish_step m j past a _ ok = refl

-- what an actor started it finished, but for the job that it runs
pub finishes_of : (m : MachineData) (j : ℕ) (a : Actor) (past : List Entry) → LegalPast m past → total (own a (by_deed (λ d. one (is_finish_of j d)))) past + runs j (running past a) ≡ total (own a (by_deed (λ d. one (is_start_of j d)))) past
unfolding runs
finishes_of m j a [] legal = refl
finishes_of m j a (e ∷ past) legal =
    let before = finishes_of m j a past legal.1 in
    let here = by_own a e.actor (λ x. when x (one (is_finish_of j e.deed)) + runs j (if x then running_after e.deed (running past a) else running past a) ≡ when x (one (is_start_of j e.deed)) + runs j (running past a))
    (λ same. finish_step m j past a e.deed (subst (λ x. Allowed m past (entry x e.deed)) (sym same) legal.0))
    (λ other. refl) in
    omega arith

pub start_by_worker : (m : MachineData) (j : ℕ) → ByScripts m (by_deed (λ d. one (is_start_of j d)))
start_by_worker m j past e ok = at e.actor e.deed ok
  where
    works : (a : Actor) → is_worker m a ≡ true → runs_scripts m a ≡ true
    works a is = rw is refl

    at : (a : Actor) (d : Deed) → Allowed m past (entry a d) → (one (is_start_of j d) ≡ 0) ⊎ (runs_scripts m a ≡ true)
    at a (deed.Start k) ok = inr (works a (hold m past a (deed.Start k) ok).0)
    at a _ ok = inl refl

pub finish_by : (m : MachineData) (j : ℕ) → ByScripts m (by_deed (λ d. one (is_finish_of j d)))
finish_by m j past e ok = at e.actor e.deed ok
  where
    works : (a : Actor) → is_worker m a ≡ true → runs_scripts m a ≡ true
    works a is = rw is refl

    at : (a : Actor) (d : Deed) → Allowed m past (entry a d) → (one (is_finish_of j d) ≡ 0) ⊎ (runs_scripts m a ≡ true)
    at a (deed.Finish k) ok = inr (works a (hold m past a (deed.Finish k) ok).0)
    at a _ ok = inl refl

pub few_finishes : (m : MachineData) (j : ℕ) (past : List Entry) → LegalPast m past → total (by_deed (λ d. one (is_finish_of j d))) past ≤ total (by_deed (λ d. one (is_start_of j d))) past
few_finishes m j past legal = by_actors m (by_deed (λ d. one (is_finish_of j d))) (by_deed (λ d. one (is_start_of j d))) (finish_by m j) (λ a p lp. (let one_actor = finishes_of m j a p lp in omega arith)) past legal

-- where nobody runs a job each that was started was finished
pub all_finished : (m : MachineData) (j : ℕ) (past : List Entry) → LegalPast m past → ((a : Actor) → running past a ≡ None) → total (by_deed (λ d. one (is_start_of j d))) past ≤ total (by_deed (λ d. one (is_finish_of j d))) past
all_finished m j past legal none =
    let split = within_over m (by_deed (λ d. one (is_start_of j d))) (start_by_worker m j) past legal in
    let each = over-le m (λ a. total (own a (by_deed (λ d. one (is_start_of j d)))) past) (λ a. total (own a (by_deed (λ d. one (is_finish_of j d)))) past)
    (λ a. (let same = finishes_of m j a past legal in let free = runs_none j (running past a) (none a) in omega arith)) in
    let joined = over_within m (by_deed (λ d. one (is_finish_of j d))) past in
    omega arith

pub of_past : (m : MachineData) (past : List Entry) → LegalPast m past → JobsInOrder m (reverse past)
unfolding InOrder
of_past m past legal = record {
  in_order = in_order m past legal;
  made = (let all = (started_is (λ j. 0) m past legal).0 in let long = started-length past in let same = ap (λ p. length (jobs m p)) (reverse-reverse past) in omega arith);
  once = λ j. (let all = started_once m j past legal in let few = one_small (nat_lt j (starts past)) in let same = count-total (is_start_of j) past in omega arith);
  ended = λ j. (let all = few_finishes m j past legal in let left = count-total (is_finish_of j) past in let right = count-total (is_start_of j) past in omega arith);
}

pub jobs_in_order : (m : MachineData) (history : List Entry) → Legal m history → JobsInOrder m history
jobs_in_order m history legal = subst (JobsInOrder m) (reverse-reverse history) (of_past m (reverse history) legal)

-- the history is the reverse of its past
pub count_past : (p : Deed → Bool) (history : List Entry) → count_by (λ (e : Entry). p e.deed) history ≡ total (by_deed (λ d. one (p d))) (reverse history)
count_past p history = ap (count_by (λ (e : Entry). p e.deed)) (sym (reverse-reverse history)) ∙ count-total p (reverse history)

pub jobs_done : (m : MachineData) (history : List Entry) → Complete m history → JobsDone m history
jobs_done m history complete j below =
    let started = started_once m j (reverse history) complete.legal in
    let all : starts (reverse history) ≡ length (jobs m (reverse history)) = complete.rest.all_started in
    let one_start : one (nat_lt j (starts (reverse history))) ≡ 1 = ap one (lt-ltb j (starts (reverse history)) (omega arith)) in
    let most = few_finishes m j (reverse history) complete.legal in
    let least = all_finished m j (reverse history) complete.legal complete.rest.none_runs in
    let starts_are = count_past (is_start_of j) history in
    let finishes_are = count_past (is_finish_of j) history in
    (omega arith, omega arith)
