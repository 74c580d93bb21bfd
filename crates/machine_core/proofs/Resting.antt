-- When nothing is left open.
use Rattle.std.proofs.Common.{ℕ, zero, suc, ◌<◌, ◌≡◌, ◌&&◌, ◌↔◌, Bool, true, false, cond, List, [], ◌∷◌, length, None, IsTrue, refl, sym, ◌∙◌, ap, subst, arith}
use Rattle.std.proofs.lemmas.Bool.{and_from, and_parts, ltb-true}
use Rattle.acpi_regs.specs.declared.actor.Actor.{Actor}
use Rattle.acpi_regs.specs.declared.actor.Actor.TheVariants as actor
use Rattle.acpi_regs.specs.declared.entry.Deed.{Deed}
use Rattle.acpi_regs.specs.declared.entry.Deed.TheVariants as deed
use Rattle.acpi_regs.specs.declared.entry.Entry.{Entry}
use Rattle.acpi_regs.specs.declared.event.Event.{Event}
use Rattle.acpi_regs.specs.Actor.{same_actor}
use Rattle.machine_desc.specs.Kept.{IsMachine}
use Rattle.machine_desc.specs.Machine.{MachineData}
use Rattle.machine_core.specs.Board.{IsFree}
use Rattle.machine_core.proofs.Standing.{entry, maker, same_actor-true}
use Rattle.machine_history.specs.Complete.{Rest}
use Rattle.machine_history.specs.Events.{pending}
use Rattle.machine_history.specs.Jobs.{jobs, running, running_after, starts}
use Rattle.machine_history.specs.Legal.{Allowed, LegalPast, is_worker}
use Rattle.machine_history.specs.Wire.{codes, open_of}

-- ---- who runs a job

starts_none : (m : MachineData) (past : List Entry) (a : Actor) (d : Deed) → Allowed m past (entry a d) → is_worker m a ≡ false → running_after d None ≡ None
starts_none m past a (deed.Start j) allowed none = absurd (let e : true ≡ false = sym (maker m past a (deed.Start j) allowed) ∙ none in cc)
starts_none m past a (deed.Finish j) allowed none = refl
starts_none m past a _ allowed none = refl

pub idle_outsider : (m : MachineData) (past : List Entry) → LegalPast m past → (a : Actor) → is_worker m a ≡ false → running past a ≡ None
idle_outsider m [] legal a none = refl
idle_outsider m (e ∷ past) legal a none = by_actor (same_actor a e.actor) refl (idle_outsider m past legal.1 a none)
  where
    by_actor : (b : Bool) → same_actor a e.actor ≡ b → running past a ≡ None → cond b (running_after e.deed (running past a)) (running past a) ≡ None
    by_actor false is rest = rest
    by_actor true is rest =
        let same = same_actor-true a e.actor is in
        ap (running_after e.deed) rest ∙ starts_none m past e.actor e.deed legal.0 (subst (λ x. is_worker m x ≡ false) same none)

-- where none of the four workers runs a job, nobody does
pub none_run : (m : MachineData) → IsMachine m → (past : List Entry) → LegalPast m past → running past (actor.Worker 0) ≡ None → running past (actor.Worker 1) ≡ None → running past (actor.Worker 2) ≡ None → running past (actor.Worker 3) ≡ None → (a : Actor) → running past a ≡ None
none_run m ok past legal one two three four a = by_kind (is_worker m a) refl a refl
  where
    worker : (k : ℕ) → k < 4 → running past (actor.Worker k) ≡ None
    worker zero below = one
    worker (suc zero) below = two
    worker (suc (suc zero)) below = three
    worker (suc (suc (suc zero))) below = four
    worker (suc (suc (suc (suc k)))) below = absurd (omega arith)

    by_kind : (b : Bool) → is_worker m a ≡ b → (x : Actor) → a ≡ x → running past a ≡ None
    by_kind false is x same = idle_outsider m past legal a is
    by_kind true is (actor.Worker k) same =
        let below = ltb-true k m.workers (subst (λ y. is_worker m y ≡ true) same is) in
        let few = ok.few_workers in
        subst (λ y. running past y ≡ None) (sym same) (worker k (omega arith))
    by_kind true is actor.Int same = absurd (let e = subst (λ y. is_worker m y ≡ true) same is in cc)
    by_kind true is actor.Poll same = absurd (let e = subst (λ y. is_worker m y ≡ true) same is in cc)
    by_kind true is actor.Ec same = absurd (let e = subst (λ y. is_worker m y ≡ true) same is in cc)
    by_kind true is (actor.Device k) same = absurd (let e = subst (λ y. is_worker m y ≡ true) same is in cc)
    by_kind true is (actor.Firmware k) same = absurd (let e = subst (λ y. is_worker m y ≡ true) same is in cc)

-- ---- rest, part by part

pub rest_is : (m : MachineData) (past : List Entry) (events queue quiet started idle work closed free lock most all : Bool)
    → (IsTrue events ↔ ((n : Event) → pending m past n ≡ false)) → (IsTrue queue ↔ (codes past ≡ [])) → quiet ≡ (events && queue)
    → (IsTrue started ↔ (starts past ≡ length (jobs m past))) → (IsTrue idle ↔ ((a : Actor) → running past a ≡ None)) → work ≡ (started && idle)
    → (IsTrue closed ↔ (open_of past ≡ None)) → (IsTrue free ↔ IsFree past) → lock ≡ (closed && free)
    → most ≡ (quiet && work) → all ≡ (most && lock)
    → (IsTrue all ↔ Rest m past)
rest_is m past events queue quiet started idle work closed free lock most all one two one_two three four three_four five six five_six upper whole = (forth, back)
  where
    forth : IsTrue all → Rest m past
    forth is =
        let w = and_parts most lock (sym whole ∙ is) in
        let u = and_parts quiet work (sym upper ∙ w.0) in
        let a = and_parts events queue (sym one_two ∙ u.0) in
        let b = and_parts started idle (sym three_four ∙ u.1) in
        let d = and_parts closed free (sym five_six ∙ w.1) in
        let f = six.0 d.1 in
        record { quiet = one.0 a.0; no_code = two.0 a.1; all_started = three.0 b.0; none_runs = four.0 b.1; none_open = five.0 d.0; no_owner = f.0; no_seeker = f.1 }

    back : Rest m past → IsTrue all
    back r = rw (whole, upper, one_two, three_four, five_six) (and_from _ _ (and_from _ _ (and_from _ _ (one.1 r.quiet) (two.1 r.no_code)) (and_from _ _ (three.1 r.all_started) (four.1 r.none_runs))) (and_from _ _ (five.1 r.none_open) (six.1 (r.no_owner, r.no_seeker))))
