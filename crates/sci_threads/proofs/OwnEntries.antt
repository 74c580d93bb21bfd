-- What is left of a firmware's script is told by its own entries.
use Rattle.std.proofs.Common.{◌≡◌, Bool, true, false, cond, List, [], ◌∷◌, ◌++◌, filter, reverse, ℕ, refl, sym, ap, subst, ◌∙◌, append-nil}
use mathlib.Core.List.{reverse-append}
use Rattle.std.proofs.lemmas.List.Elements.{filter-append}
use Rattle.acpi_regs.specs.declared.actor.Actor.{Actor}
use Rattle.acpi_regs.specs.declared.actor.Actor.TheVariants as actor
use Rattle.acpi_regs.specs.declared.entry.Deed.{Deed}
use Rattle.acpi_regs.specs.declared.entry.Deed.TheVariants as deed
use Rattle.acpi_regs.specs.declared.entry.Entry.{Entry}
use Rattle.acpi_regs.specs.Actor.{same_actor}
use Rattle.acpi_regs.specs.History.{entries_of}
use Rattle.acpi_regs.proofs.LockActors.{actor_true}
use Rattle.handler_script.specs.Plan.{Plan, next_act}
use Rattle.machine_desc.specs.Machine.{MachineData}
use Rattle.machine_history.specs.declared.parts.Job.{Job}
use Rattle.machine_history.specs.Jobs.{jobs}
use Rattle.machine_history.specs.Legal.{Allowed, LegalPast}
use Rattle.machine_history.specs.Scripts.{left_after, next_of, plan_left}
use Rattle.machine_history.proofs.Known.{hold}

filter-reverse : (p : Entry → Bool) (xs : List Entry) → filter p (reverse xs) ≡ reverse (filter p xs)
filter-reverse p [] = refl
filter-reverse p (x ∷ xs) =
    ap (filter p) (reverse-append (x ∷ []) xs)
    ∙ filter-append p (reverse xs) (x ∷ [])
    ∙ ap (λ l. l ++ filter p (x ∷ [])) (filter-reverse p xs)
    ∙ by_test (p x)
  where
    by_test : (b : Bool) → reverse (filter p xs) ++ cond b (x ∷ []) [] ≡ reverse (cond b (x ∷ filter p xs) (filter p xs))
    by_test true = sym (reverse-append (x ∷ []) (filter p xs))
    by_test false = append-nil (reverse (filter p xs))

is_start : Deed → Bool
is_start (deed.Start j) = true
is_start _ = false

-- what a deed that starts no job leaves does not rest on the jobs
same_left : (m : MachineData) (made other : List Job) (d : Deed) (p q : Plan) → is_start d ≡ false → p ≡ q → left_after m made d p ≡ left_after m other d q
unfolding is_start
same_left m made other (deed.Start j) p q none same = cc
same_left m made other (deed.Finish j) p q none same = refl
same_left m made other d p q none same = ap (left_after m other d) same

-- a firmware starts no job
no_start : (m : MachineData) (past : List Entry) (k : ℕ) (d : Deed) → Allowed m past (record { actor = actor.Firmware k; deed = d }) → is_start d ≡ false
unfolding is_start
no_start m past k (deed.Start j) ok = absurd (no (hold m past (actor.Firmware k) (deed.Start j) ok).0)
  where
    no : false ≡ true → ⊥
    no e = cc
no_start m past k _ ok = refl

plan_own : (m : MachineData) (k : ℕ) (past : List Entry) → LegalPast m past → plan_left m past (actor.Firmware k) ≡ plan_left m (filter (λ e. same_actor (actor.Firmware k) e.actor) past) (actor.Firmware k)
plan_own m k [] legal = refl
plan_own m k (e ∷ past) legal = by_test (same_actor (actor.Firmware k) e.actor) refl (plan_own m k past legal.1)
  where
    own : List Entry
    own = filter (λ x. same_actor (actor.Firmware k) x.actor) past

    by_test : (b : Bool) → same_actor (actor.Firmware k) e.actor ≡ b → plan_left m past (actor.Firmware k) ≡ plan_left m own (actor.Firmware k)
        → cond b (left_after m (jobs m past) e.deed (plan_left m past (actor.Firmware k))) (plan_left m past (actor.Firmware k)) ≡ plan_left m (cond b (e ∷ own) own) (actor.Firmware k)
    by_test false is same = same
    by_test true is same =
        same_left m (jobs m past) (jobs m own) e.deed _ _ (no_start m past k e.deed (subst (λ a. Allowed m past (record { actor = a; deed = e.deed })) (sym (actor_true (actor.Firmware k) e.actor is)) legal.0)) same
        ∙ sym (ap (λ b. cond b (left_after m (jobs m own) e.deed (plan_left m own (actor.Firmware k))) (plan_left m own (actor.Firmware k))) is)

pub next_own : (m : MachineData) (k : ℕ) (history : List Entry) → LegalPast m (reverse history) → next_of m (reverse history) (actor.Firmware k) ≡ next_of m (reverse (entries_of history (actor.Firmware k))) (actor.Firmware k)
next_own m k history legal =
    ap next_act (plan_own m k (reverse history) legal) ∙ ap (λ l. next_of m l (actor.Firmware k)) (filter-reverse (λ e. same_actor (actor.Firmware k) e.actor) history)
