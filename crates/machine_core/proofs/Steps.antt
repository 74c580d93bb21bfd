-- What the board keeps stays what the past says, subject by subject, when an allowed entry is appended.
use Rattle.std.proofs.Common.{ℕ, ◌+◌, ◌-◌, ◌<◌, ◌≤◌, ◌≡◌, ◌==◌, ◌⊎◌, inl, inr, ◌||◌, ◌&&◌, Bool, true, false, cond, nat_lt, List, [], ◌∷◌, length, slice_get, Option, Some, None, refl, sym, ◌∙◌, ap, subst, arith, length-append}
use Rattle.std.proofs.lemmas.Bool.{and_parts, cases_eq, cases_lt, ltb-true, ltb-false, eq-eqb, ne_eqb}
use Rattle.acpi_regs.specs.declared.actor.Actor.{Actor}
use Rattle.acpi_regs.specs.declared.actor.Actor.TheVariants as actor
use Rattle.acpi_regs.specs.declared.entry.Cell.{Cell}
use Rattle.acpi_regs.specs.declared.entry.Deed.{Deed}
use Rattle.acpi_regs.specs.declared.entry.Deed.TheVariants as deed
use Rattle.acpi_regs.specs.declared.entry.Effect.{Effect}
use Rattle.acpi_regs.specs.declared.entry.Effect.TheVariants as effect
use Rattle.acpi_regs.specs.declared.entry.Entry.{Entry}
use Rattle.acpi_regs.specs.declared.entry.Request.{Request}
use Rattle.acpi_regs.specs.declared.entry.Request.TheVariants as request
use Rattle.acpi_regs.specs.declared.event.Event.{Event}
use Rattle.acpi_regs.specs.Actor.{same_actor}
use Rattle.acpi_regs.specs.Event.{same_event}
use Rattle.event_chip.specs.Chip.{slot_of}
use Rattle.handler_script.specs.Plan.{Plan}
use Rattle.machine_desc.specs.Kept.{IsMachine}
use Rattle.machine_desc.specs.Machine.{MachineData}
use Rattle.machine_core.specs.declared.actors.ActorState.{ActorState}
use Rattle.machine_core.specs.declared.actors.Actors.{Actors}
use Rattle.machine_core.specs.declared.actors.Words.{Words}
use Rattle.machine_core.specs.declared.events.Events.{Events}
use Rattle.machine_core.specs.declared.jobs.Jobs.{Jobs}
use Rattle.machine_core.specs.Actors.{IsActor, IsActors, Moves, Stands, left_by, seat, state_of, words_after}
use Rattle.machine_core.specs.Cells.{IsCells, IsIn, byte_in}
use Rattle.machine_core.specs.Events.{IsEvent, IsEvents, unlatched_after, unlatched_of}
use Rattle.machine_core.specs.Jobs.{IsJobs}
use Rattle.machine_core.proofs.Space.{no_memory}
use Rattle.machine_core.proofs.Standing.{entry, maker, same_actor-refl, same_actor-true}
use Rattle.machine_history.specs.declared.parts.Job.{Job}
use Rattle.machine_history.specs.Acts.{is_memory, is_memory_cell}
use Rattle.machine_history.specs.Events.{latches, latches_after, slot_after, touched}
use Rattle.machine_history.specs.Jobs.{and_job, jobs, made, starts, starts_after}
use Rattle.machine_history.specs.Legal.{Allowed, is_firmware, is_worker, may_make, runs_scripts}
use Rattle.machine_history.specs.Machine.{controller_place, pulses_of, space}
use Rattle.machine_history.specs.Scripts.{left_after}
use Rattle.machine_history.specs.Values.{ctl_access, deed_access, open_access, value, value_after}
use Rattle.machine_history.specs.Wire.{Open, open_of}

no : {X : Type 0} → false ≡ true → X
no e = absurd (let x = e in cc)

-- ---- events

fewer : (b : Bool) (p l : ℕ) → cond b ((p - l) - 1) (p - l) ≡ p - cond b (l + 1) l
fewer true p l = omega arith
fewer false p l = refl

unlatched_step : (n : Event) (d : Deed) (p l : ℕ) → unlatched_after n d (p - l) ≡ p - latches_after n d l
unlatched_step n (deed.Latch x) p l = fewer (same_event x n) p l
unlatched_step n _ p l = refl

pub events_step : (m : MachineData) (past : List Entry) (a : Actor) (d : Deed) (old new : Events) → IsEvents m past old → length new.unlatched.items ≡ 261
    → ((n : Event) → slot_of new.chip n ≡ slot_after n (touched m past (entry a d)) (slot_of old.chip n))
    → ((n : Event) → IsEvent n → unlatched_of new.unlatched.items n ≡ unlatched_after n d (unlatched_of old.unlatched.items n))
    → IsEvents m (entry a d ∷ past) new
events_step m past a d old new is size slots unlatched = record {
  slots_are = λ n. slots n ∙ ap (slot_after n (touched m past (entry a d))) (is.slots_are n);
  size = size;
  unlatched_are = λ n below. unlatched n below ∙ (ap (unlatched_after n d) (is.unlatched_are n below) ∙ unlatched_step n d (pulses_of m n) (latches past n));
}

-- ---- jobs

and_job-length : (w : List Job) (j : Option Job) → length (and_job w j) ≤ length w + 1
and_job-length w None = omega arith
and_job-length w (Some j) = rw (length-append w (j ∷ [])) (omega arith)

pub jobs_within : (m : MachineData) (past : List Entry) → length (jobs m past) ≤ length past
jobs_within m [] = omega arith
jobs_within m (e ∷ past) =
    let more = and_job-length (jobs m past) (made m past e) in
    let rest = jobs_within m past in
    omega arith

starts_after-one : (d : Deed) (k : ℕ) → starts_after d k ≤ k + 1
starts_after-one (deed.Start j) k = omega arith
starts_after-one _ k = omega arith

pub starts_within : (past : List Entry) → starts past ≤ length past
starts_within [] = omega arith
starts_within (e ∷ past) =
    let more = starts_after-one e.deed (starts past) in
    let rest = starts_within past in
    omega arith

pub jobs_step : (m : MachineData) (past : List Entry) (a : Actor) (d : Deed) (old new : Jobs) → IsJobs m past old → new.made.items ≡ and_job old.made.items (made m past (entry a d)) → new.starts ≡ starts_after d old.starts → IsJobs m (entry a d ∷ past) new
jobs_step m past a d old new is made_is starts_is = record {
  made_are = made_is ∙ ap (λ w. and_job w (made m past (entry a d))) is.made_are;
  starts_are = starts_is ∙ ap (starts_after d) is.starts_are;
}

-- ---- cells

-- the controller writes to no cell of memory
apart : (m : MachineData) (c : Cell) (by : Actor) (x v old : ℕ) (w : Bool) → is_memory_cell m c ≡ true → value_after c (Some (record { by = by; cell = space m x; byte = v; writes = w })) old ≡ old
apart m c by x v old false plain = refl
apart m c by x v old true plain = by_same (controller_place m.regions == c.region) refl
  where
    by_same : (b : Bool) → (controller_place m.regions == c.region) ≡ b → cond ((controller_place m.regions == c.region) && (x == c.offset)) v old ≡ old
    by_same false is = rw is refl
    by_same true is = absurd (no_memory m.regions (subst (λ r. is_memory (slice_get m.regions r) ≡ true) (sym (Rattle.std.proofs.lemmas.Bool.eqb-true (controller_place m.regions) c.region is)) (and_parts _ _ plain).0))

by_request : (m : MachineData) (c : Cell) (by : Actor) (r : Request) (e : Effect) (old : ℕ) → is_memory_cell m c ≡ true → value_after c (ctl_access m by r e) old ≡ old
by_request m c by (request.Rd x) (effect.Out v) old plain = apart m c by x v old false plain
by_request m c by (request.Wr x w) effect.Put old plain = apart m c by x w old true plain
by_request m c by (request.Rd x) _ old plain = refl
by_request m c by (request.Wr x w) _ old plain = refl
by_request m c by request.Be e old plain = refl
by_request m c by request.Bd e old plain = refl
by_request m c by request.Qr e old plain = refl

by_open : (m : MachineData) (c : Cell) (o : Option Open) (e : Effect) (old : ℕ) → is_memory_cell m c ≡ true → value_after c (open_access m o e) old ≡ old
by_open m c None e old plain = refl
by_open m c (Some o) e old plain = by_request m c o.by o.asks e old plain

memory_access : (m : MachineData) (c : Cell) (o : Option Open) (a : Actor) (d : Deed) (old : ℕ) → is_memory_cell m c ≡ true → value_after c (deed_access m None a d) old ≡ value_after c (deed_access m o a d) old
memory_access m c o a (deed.Ctl e) old plain = sym (by_open m c o e old plain)
memory_access m c o a _ old plain = refl

pub cells_step : (m : MachineData) (past : List Entry) (a : Actor) (d : Deed) (old new : List (List ℕ)) → IsCells m past old
    → ((c : Cell) → IsIn old c → byte_in new c ≡ value_after c (deed_access m None a d) (byte_in old c))
    → ((c : Cell) → IsIn old c → IsIn new c)
    → IsCells m (entry a d ∷ past) new
cells_step m past a d old new is values stay = record {
  within = λ c plain. stay c (is.within c plain);
  are = λ c plain. values c (is.within c plain) ∙ (ap (value_after c (deed_access m None a d)) (is.are c plain) ∙ memory_access m c (open_of past) a d (value m past c) plain);
}

-- ---- actors

seats_apart : (j k : ℕ) → (b c : Bool) → nat_lt j 4 ≡ b → nat_lt k 8 ≡ c → cond b j 12 < 12 → cond b j 12 ≡ cond c (4 + k) 12 → ⊥
seats_apart j k true true j_is k_is below same = let few = ltb-true j 4 j_is in omega arith
seats_apart j k true false j_is k_is below same = omega arith
seats_apart j k false c j_is k_is below same = omega arith

same_worker : (j k : ℕ) (b c : Bool) → nat_lt j 4 ≡ b → nat_lt k 4 ≡ c → cond b j 12 < 12 → cond b j 12 ≡ cond c k 12 → j ≡ k
same_worker j k true true j_is k_is below same = same
same_worker j k true false j_is k_is below same = absurd (omega arith)
same_worker j k false c j_is k_is below same = absurd (omega arith)

same_firmware : (j k : ℕ) (b c : Bool) → nat_lt j 8 ≡ b → nat_lt k 8 ≡ c → cond b (4 + j) 12 < 12 → cond b (4 + j) 12 ≡ cond c (4 + k) 12 → j ≡ k
same_firmware j k true true j_is k_is below same = omega arith
same_firmware j k true false j_is k_is below same = absurd (omega arith)
same_firmware j k false c j_is k_is below same = absurd (omega arith)

-- no two actors have one seat
one_seat : (a b : Actor) → seat a < 12 → seat a ≡ seat b → a ≡ b
one_seat (actor.Worker j) (actor.Worker k) below same = ap actor.Worker (same_worker j k (nat_lt j 4) (nat_lt k 4) refl refl below same)
one_seat (actor.Firmware j) (actor.Firmware k) below same = ap actor.Firmware (same_firmware j k (nat_lt j 8) (nat_lt k 8) refl refl below same)
one_seat (actor.Worker j) (actor.Firmware k) below same = absurd (seats_apart j k (nat_lt j 4) (nat_lt k 8) refl refl below same)
one_seat (actor.Firmware j) (actor.Worker k) below same = absurd (seats_apart k j (nat_lt k 4) (nat_lt j 8) refl refl (subst (λ n. n < 12) same below) (sym same))
one_seat actor.Int b below same = absurd (omega arith)
one_seat actor.Poll b below same = absurd (omega arith)
one_seat actor.Ec b below same = absurd (omega arith)
one_seat (actor.Device k) b below same = absurd (omega arith)
one_seat (actor.Worker j) b below same = absurd (omega arith)
one_seat (actor.Firmware j) b below same = absurd (omega arith)

-- who has no seat runs no scripts
seatless : (m : MachineData) → IsMachine m → (a : Actor) → 12 ≤ seat a → runs_scripts m a ≡ true → ⊥
seatless m ok (actor.Worker k) out runs = by_few (nat_lt k 4) refl out
  where
    works : (b : Bool) → (b || false) ≡ true → b ≡ true
    works true e = refl
    works false e = cc

    by_few : (b : Bool) → nat_lt k 4 ≡ b → 12 ≤ cond b k 12 → ⊥
    by_few true is out = let few = ltb-true k 4 is in omega arith
    by_few false is out =
        let some = ltb-true k m.workers (works (nat_lt k m.workers) runs) in
        let many = ltb-false k 4 is in
        let most = ok.few_workers in
        omega arith
seatless m ok (actor.Firmware k) out runs = by_few (nat_lt k 8) refl out
  where
    by_few : (b : Bool) → nat_lt k 8 ≡ b → 12 ≤ cond b (4 + k) 12 → ⊥
    by_few true is out = let few = ltb-true k 8 is in omega arith
    by_few false is out =
        let some = ltb-true k (length m.firmware) runs in
        let many = ltb-false k 8 is in
        let most = ok.few_firmware in
        omega arith
seatless m ok actor.Int out runs = no runs
seatless m ok actor.Poll out runs = no runs
seatless m ok actor.Ec out runs = no runs
seatless m ok (actor.Device k) out runs = no runs

works_runs : (m : MachineData) (a : Actor) → is_worker m a ≡ true → runs_scripts m a ≡ true
works_runs m a works = rw works refl

fires_runs : (m : MachineData) (a : Actor) → is_firmware m a ≡ true → runs_scripts m a ≡ true
fires_runs m a fires = by_worker (is_worker m a)
  where
    by_worker : (b : Bool) → (b || is_firmware m a) ≡ true
    by_worker true = refl
    by_worker false = fires

-- an entry of an actor that runs no scripts changes nothing of it
outsider : (m : MachineData) (w : List Job) (o : Option Open) (a : Actor) (d : Deed) (words : Words) (p : Plan) → (runs_scripts m a ≡ true → ⊥) → may_make m o a d ≡ true → (words_after d words ≡ words) × (left_after m w d p ≡ p)
outsider m w o a (deed.Step h) words p none may = (refl, refl)
outsider m w o a (deed.Ctl e) words p none may = (refl, refl)
outsider m w o a (deed.Latch n) words p none may = (refl, refl)
outsider m w o a (deed.Claim n) words p none may = (refl, refl)
outsider m w o a (deed.Push q) words p none may = absurd (none (fires_runs m a may))
outsider m w o a (deed.Raise n) words p none may = absurd (none (fires_runs m a may))
outsider m w o a (deed.Assert n) words p none may = absurd (none (fires_runs m a may))
outsider m w o a (deed.Start j) words p none may = absurd (none (works_runs m a may))
outsider m w o a (deed.Finish j) words p none may = absurd (none (works_runs m a may))
outsider m w o a (deed.Notify x v) words p none may = absurd (none (works_runs m a may))
outsider m w o a (deed.Up n) words p none may = absurd (none (works_runs m a may))
outsider m w o a (deed.Down n) words p none may = absurd (none (works_runs m a may))
outsider m w o a _ words p none may = absurd (none may)

-- what is kept of another actor stays
other_actor : (m : MachineData) (past : List Entry) (a by : Actor) (d : Deed) (s : ActorState) → same_actor a by ≡ false → IsActor m past a s → IsActor m (entry by d ∷ past) a s
other_actor m past a by d s other is = record {
  words_are = rw other is.words_are;
  left_is = rw other is.left_is;
  stands = is.stands;
}

own_actor : (m : MachineData) (past : List Entry) (a : Actor) (d : Deed) (s t : ActorState) → IsActor m past a s → t.words ≡ words_after d s.words → left_by m t.course ≡ left_after m (jobs m past) d (left_by m s.course) → Stands m t.course → IsActor m (entry a d ∷ past) a t
own_actor m past a d s t is words left stands = record {
  words_are = rw (same_actor-refl a) (words ∙ ap (words_after d) is.words_are);
  left_is = rw (same_actor-refl a) (left ∙ ap (left_after m (jobs m past) d) is.left_is);
  stands = stands;
}

apart_actors : (a b : Actor) (s : Bool) → same_actor a b ≡ s → (seat a ≡ seat b → ⊥) → same_actor a b ≡ false
apart_actors a b true is differ = absurd (differ (ap seat (same_actor-true a b is)))
apart_actors a b false is differ = is

pub actors_step : (m : MachineData) → IsMachine m → (past : List Entry) (by : Actor) (d : Deed) (old new : Actors) → IsActors m past old → Allowed m past (entry by d)
    → length new.states ≡ length old.states
    → (seat by < 12 → Moves m (jobs m past) d (state_of old.states by) (state_of new.states by))
    → ((a : Actor) → (seat a ≡ seat by → ⊥) → state_of new.states a ≡ state_of old.states a)
    → (12 ≤ seat by → new ≡ old)
    → IsActors m (entry by d ∷ past) new
actors_step m ok past by d old new is allowed size moves stay outside = record {
  size = size ∙ is.size;
  each = λ a. at a;
}
  where
    with_seat : (a : Actor) → seat a ≡ seat by → seat by < 12 → IsActor m (entry by d ∷ past) a (state_of new.states a)
    with_seat a same below =
        let one : a ≡ by = one_seat a by (rw same below) same in
        let m' = moves below in
        subst (λ x. IsActor m (entry by d ∷ past) x (state_of new.states x)) (sym one)
        (own_actor m past by d (state_of old.states by) (state_of new.states by) (is.each by) m'.words m'.left m'.stands)

    unseated : (a : Actor) → 12 ≤ seat by → (b : Bool) → same_actor a by ≡ b → IsActor m (entry by d ∷ past) a (state_of old.states a)
    unseated a out false other = other_actor m past a by d (state_of old.states a) other (is.each a)
    unseated a out true same =
        let none : runs_scripts m by ≡ true → ⊥ = seatless m ok by out in
        let still = outsider m (jobs m past) (open_of past) by d (state_of old.states by).words (left_by m (state_of old.states by).course) none (maker m past by d allowed) in
        let one : a ≡ by = same_actor-true a by same in
        subst (λ x. IsActor m (entry by d ∷ past) x (state_of old.states x)) (sym one)
        (own_actor m past by d (state_of old.states by) (state_of old.states by) (is.each by) (sym still.0) (sym still.1) (is.each by).stands)

    seated : (a : Actor) → seat a ≡ seat by → (seat by < 12) ⊎ (12 ≤ seat by) → IsActor m (entry by d ∷ past) a (state_of new.states a)
    seated a same (inl below) = with_seat a same below
    seated a same (inr out) = subst (λ x. IsActor m (entry by d ∷ past) a (state_of x.states a)) (sym (outside out)) (unseated a out (same_actor a by) refl)

    at : (a : Actor) → IsActor m (entry by d ∷ past) a (state_of new.states a)
    at a = elim (cases_eq (seat a) (seat by)) [
      | inl same ↦ seated a same (cases_lt (seat by) 12)
      | inr differ ↦ subst (IsActor m (entry by d ∷ past) a) (sym (stay a differ)) (other_actor m past a by d (state_of old.states a) (apart_actors a by (same_actor a by) refl differ) (is.each a))
    ]
