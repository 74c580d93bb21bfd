-- The acts of scripts and jobs, each once and in order.
use Rattle.std.proofs.Common.{ℕ, zero, suc, ◌<◌, ◌≤◌, ◌≡◌, ◌==◌, Bool, true, false, List, [], ◌∷◌, ◌++◌, length, reverse, option_to_list, unwrap_or, Option, Some, None, slice_get, if◌then◌else◌, refl, sym, ap, ◌∙◌, subst, append_assoc, append-nil, arith}
use Rattle.std.proofs.lemmas.Bool.{and_parts, eqb-true}
use Rattle.std.proofs.lemmas.List.{length_push}
use Rattle.acpi_regs.specs.declared.actor.Actor.{Actor}
use Rattle.acpi_regs.specs.declared.actor.Actor.TheVariants as actor
use Rattle.acpi_regs.specs.declared.entry.Deed.{Deed}
use Rattle.acpi_regs.specs.declared.entry.Deed.TheVariants as deed
use Rattle.acpi_regs.specs.declared.entry.Entry.{Entry}
use Rattle.acpi_regs.specs.declared.entry.Request.{Request}
use Rattle.acpi_regs.specs.declared.entry.Request.TheVariants as request
use Rattle.acpi_regs.specs.Actor.{same_actor}
use Rattle.acpi_regs.specs.History.{past_of}
use Rattle.ec_driver.specs.Wire.{carried, wire}
use Rattle.handler_script.specs.declared.act.Act.{Act}
use Rattle.handler_script.specs.declared.act.Act.TheVariants as act
use Rattle.handler_script.specs.Acts.{brings, brings_asked}
use Rattle.handler_script.specs.Plan.{Plan, Do, End, acts_of, next_act, plan_after}
use Rattle.machine_desc.specs.Machine.{MachineData}
use Rattle.machine_history.specs.declared.parts.Job.{Job}
use Rattle.machine_history.specs.Complete.{Complete}
use Rattle.machine_history.specs.Jobs.{and_job, jobs, made, running, running_after}
use Rattle.machine_history.specs.Legal.{Allowed, Legal, LegalPast, asked, asked_by, is_taking, same_number}
use Rattle.history_laws.specs.Once.{IsFirstLeft, JobsOnce, ScriptsOnce, answers, answers_after, asked_of, begun, begun_after, passed, passed_act, passed_after, taken_byte}
use Rattle.machine_history.specs.Scripts.{first_left, job_plan, left_after, next_of, plan_left}
use Rattle.machine_history.specs.Values.{blank, taking_in}
use Rattle.machine_history.specs.Wire.{Open, open_of}
use Rattle.machine_history.proofs.JobCounts.{start_parts}
use Rattle.machine_history.proofs.Keeping.{Kept, is_plain, kept, opener_asks, some_asked}
use Rattle.machine_history.proofs.Known.{hold, is_none-none, same_actor-true, same_cell-true, same_event-true, same_self, some-injective}
use Rattle.machine_history.proofs.PlanFacts.{Steady, is_query_act, left_steady}
use Rattle.machine_history.proofs.Places.{legal-each, legal-front}
use Rattle.machine_history.proofs.Stages.{Follows, follows_own, is_trying_at, stage}

abbrev pub entry : Actor → Deed → Entry
entry a d = record { actor = a; deed = d }

-- ---- plans

-- the next act is passed, with a byte or without
pub goes_on : (p : Plan) (x : Act) (more : List ℕ) → next_act p ≡ Some x → brings x ≡ false → acts_of p more ≡ x ∷ acts_of (plan_after 0 p) more
goes_on End x more next plain = cc
goes_on (Do needs a rest) x [] next plain = let same : a ≡ x = cc in rw (same, plain) refl
goes_on (Do needs a rest) x (byte ∷ more) next plain = let same : a ≡ x = cc in rw (same, plain) refl

pub goes_with : (p : Plan) (x : Act) (byte : ℕ) (more : List ℕ) → next_act p ≡ Some x → brings x ≡ true → acts_of p (byte ∷ more) ≡ x ∷ acts_of (plan_after byte p) more
goes_with End x byte more next brought = cc
goes_with (Do needs a rest) x byte more next brought = let same : a ≡ x = cc in rw (same, brought) refl

pub nothing_left : (p : Plan) (more : List ℕ) → next_act p ≡ None → acts_of p more ≡ []
nothing_left End more none = refl
nothing_left (Do needs a rest) more none = cc

pub steady_after : (p : Plan) (byte : ℕ) → Steady p → next_act p ≡ Some (act.Ask request.Qr) → plan_after byte p ≡ plan_after 0 p
steady_after End byte steady next = cc
steady_after (Do needs a rest) byte steady next = steady.0 (ap is_query_act (some-injective a (act.Ask request.Qr) next)) byte

-- ---- what is kept: the acts for these answers and more are those that were passed and those that are left

abbrev pub Split : Plan → List ℕ → List Act → Plan → Type 0
Split start bytes acts p = (more : List ℕ) → acts_of start (bytes ++ more) ≡ acts ++ acts_of p more

pub quiet : (start : Plan) (bytes : List ℕ) (acts : List Act) (p : Plan) → Split start bytes acts p → Split start (bytes ++ []) (acts ++ []) p
quiet start bytes acts p before more =
    ap (λ bs. acts_of start (bs ++ more)) (append-nil bytes) ∙ (before more ∙ ap (λ xs. xs ++ acts_of p more) (sym (append-nil acts)))

pub plain : (start : Plan) (bytes : List ℕ) (acts : List Act) (p : Plan) (x : Act) → next_act p ≡ Some x → brings x ≡ false → Split start bytes acts p → Split start (bytes ++ []) (acts ++ x ∷ []) (plan_after 0 p)
plain start bytes acts p x next none before more =
    ap (λ bs. acts_of start (bs ++ more)) (append-nil bytes) ∙ (before more ∙ (ap (λ xs. acts ++ xs) (goes_on p x more next none) ∙ sym (append_assoc acts (x ∷ []) (acts_of (plan_after 0 p) more))))

pub with_byte : (start : Plan) (bytes : List ℕ) (acts : List Act) (p : Plan) (x : Act) (byte : ℕ) → next_act p ≡ Some x → brings x ≡ true → Split start bytes acts p → Split start (bytes ++ byte ∷ []) (acts ++ x ∷ []) (plan_after byte p)
with_byte start bytes acts p x byte next brought before more =
    ap (acts_of start) (append_assoc bytes (byte ∷ []) more) ∙ (before (byte ∷ more) ∙ (ap (λ xs. acts ++ xs) (goes_with p x byte more next brought) ∙ sym (append_assoc acts (x ∷ []) (acts_of (plan_after byte p) more))))

-- ---- the act that a deed passes

pub plain_same : (x : Act) (d : Deed) → is_plain d ≡ true → asked x d ≡ true → passed_act None d ≡ Some x
plain_same act.Unlock deed.Disown plain is = refl
plain_same (act.Read c) (deed.Read e v) plain is = ap (λ y. Some (act.Read y)) (sym (same_cell-true c e is))
plain_same (act.Write c v) (deed.Write e w) plain is = let p = and_parts _ _ is in sym (ap (λ y. Some (act.Write y v)) (same_cell-true c e p.0) ∙ ap (λ y. Some (act.Write e y)) (eqb-true v w p.1))
plain_same (act.Push q) (deed.Push k) plain is = ap (λ y. Some (act.Push y)) (sym (eqb-true q k is))
plain_same (act.Raise n) (deed.Raise x) plain is = ap (λ y. Some (act.Raise y)) (sym (same_event-true n x is))
plain_same (act.Assert n) (deed.Assert x) plain is = ap (λ y. Some (act.Assert y)) (sym (same_event-true n x is))
plain_same (act.Drop n) (deed.Drop x) plain is = ap (λ y. Some (act.Drop y)) (sym (same_event-true n x is))
plain_same (act.Up n) (deed.Up x) plain is = ap (λ y. Some (act.Up y)) (sym (same_event-true n x is))
plain_same (act.Down n) (deed.Down x) plain is = ap (λ y. Some (act.Down y)) (sym (same_event-true n x is))
plain_same (act.Notify d v) (deed.Notify e w) plain is = let p = and_parts _ _ is in sym (ap (λ y. Some (act.Notify y v)) (eqb-true d e p.0) ∙ ap (λ y. Some (act.Notify e y)) (eqb-true v w p.1))
plain_same act.Lock deed.Seek plain is = cc
plain_same (act.Ask r) (deed.Begin s) plain is = cc
plain_same x _ plain is = cc

pub next_plain : (m : MachineData) (past : List Entry) (a : Actor) (d : Deed) (x : Act) → is_plain d ≡ true → passed_act None d ≡ Some x → asked_by (next_of m past a) d ≡ true → next_of m past a ≡ Some x
next_plain m past a d x plain passes is =
    let next = some_asked (next_of m past a) d is in
    next.1 ∙ (sym (plain_same next.0 d plain next.2) ∙ passes)

-- ---- one entry of its own

abbrev pub SplitOf : MachineData → List Entry → Actor → Type 0
SplitOf m past a = Split (begun m past a) (answers past a) (passed past a) (plan_left m past a)

abbrev pub After : MachineData → List Entry → Actor → Deed → Type 0
After m past a d = Split (begun_after m (jobs m past) d (begun m past a)) (answers_after (open_of past) d (answers past a)) (passed_after (open_of past) d (passed past a)) (left_after m (jobs m past) d (plan_left m past a))

-- the byte of a take whose request brings none
pub none_brought : (r : Request) (b : ℕ) (v : Option ℕ) (p : Plan) → brings_asked r ≡ false → same_number v (carried r b) ≡ true → Steady p → next_act p ≡ Some (act.Ask r) → plan_after (unwrap_or v 0) p ≡ plan_after 0 p
none_brought (request.Wr x w) b None p brought same steady next = refl
none_brought (request.Wr x w) b (Some v) p brought same steady next = cc
none_brought request.Bd b None p brought same steady next = refl
none_brought request.Bd b (Some v) p brought same steady next = cc
none_brought request.Qr b v p brought same steady next = steady_after p (unwrap_or v 0) steady next
none_brought (request.Rd x) b v p brought same steady next = cc
none_brought request.Be b v p brought same steady next = cc

pub take_carries : (made : Bool) (w v : Option ℕ) → is_taking v (if made then Some w else None) ≡ true → same_number v w ≡ true
take_carries true w v is = is
take_carries false w v is = cc

pub take_split : (m : MachineData) (past : List Entry) (a : Actor) (v : Option ℕ) (oo : Option Open) (o : Open) → oo ≡ Some o → next_of m past a ≡ Some (act.Ask o.asks) → is_taking v (taking_in m past oo) ≡ true → SplitOf m past a
    → Split (begun m past a) (answers past a ++ option_to_list (taken_byte oo v)) (passed past a ++ option_to_list (asked_of oo)) (plan_after (unwrap_or v 0) (plan_left m past a))
take_split m past a v oo o is next takes before =
    subst (λ w. Split (begun m past a) (answers past a ++ option_to_list (taken_byte w v)) (passed past a ++ option_to_list (asked_of w)) (plan_after (unwrap_or v 0) (plan_left m past a))) (sym is)
    (at (brings_asked o.asks) refl)
  where
    carries : same_number v (carried o.asks (blank m past o)) ≡ true
    carries = take_carries (o.made == length (wire o.asks 0)) (carried o.asks (blank m past o)) v (subst (λ w. is_taking v (taking_in m past w) ≡ true) is takes)

    at : (b : Bool) → brings_asked o.asks ≡ b → Split (begun m past a) (answers past a ++ option_to_list (if b then Some (unwrap_or v 0) else None)) (passed past a ++ act.Ask o.asks ∷ []) (plan_after (unwrap_or v 0) (plan_left m past a))
    at true brought = with_byte (begun m past a) (answers past a) (passed past a) (plan_left m past a) (act.Ask o.asks) (unwrap_or v 0) next brought before
    at false none =
        subst (Split (begun m past a) (answers past a ++ []) (passed past a ++ act.Ask o.asks ∷ [])) (sym (none_brought o.asks (blank m past o) v (plan_left m past a) none carries (left_steady m past a) next))
        (plain (begun m past a) (answers past a) (passed past a) (plan_left m past a) (act.Ask o.asks) next none before)

pub own_split : (m : MachineData) (past : List Entry) (a : Actor) (d : Deed) → Allowed m past (entry a d) → Follows d (stage a past) → Kept m past a → SplitOf m past a → After m past a d
own_split m past a (deed.Start j) ok f k before = λ more. refl
own_split m past a (deed.Finish j) ok f k before = λ more.
    let none = is_none-none (next_of m past a) (hold m past a (deed.Finish j) ok).1.1.1.0 in
    quiet (begun m past a) (answers past a) (passed past a) (plan_left m past a) before more ∙ ap (λ xs. (passed past a ++ []) ++ xs) (nothing_left (plan_left m past a) more none)
own_split m past a deed.Own ok f k before = plain (begun m past a) (answers past a) (passed past a) (plan_left m past a) act.Lock (k.0 (ap is_trying_at f)) refl before
own_split m past a deed.Disown ok f k before = plain (begun m past a) (answers past a) (passed past a) (plan_left m past a) act.Unlock (next_plain m past a deed.Disown act.Unlock refl refl (hold m past a deed.Disown ok).1.1.1.0) refl before
own_split m past a (deed.Read c v) ok f k before = with_byte (begun m past a) (answers past a) (passed past a) (plan_left m past a) (act.Read c) v (next_plain m past a (deed.Read c v) (act.Read c) refl refl (hold m past a (deed.Read c v) ok).1.1.0) refl before
own_split m past a (deed.Write c v) ok f k before = plain (begun m past a) (answers past a) (passed past a) (plan_left m past a) (act.Write c v) (next_plain m past a (deed.Write c v) (act.Write c v) refl refl (hold m past a (deed.Write c v) ok).1.1.0) refl before
own_split m past a (deed.Push q) ok f k before = plain (begun m past a) (answers past a) (passed past a) (plan_left m past a) (act.Push q) (next_plain m past a (deed.Push q) (act.Push q) refl refl (hold m past a (deed.Push q) ok).1.1.0) refl before
own_split m past a (deed.Raise n) ok f k before = plain (begun m past a) (answers past a) (passed past a) (plan_left m past a) (act.Raise n) (next_plain m past a (deed.Raise n) (act.Raise n) refl refl (hold m past a (deed.Raise n) ok).1.1.0) refl before
own_split m past a (deed.Assert n) ok f k before = plain (begun m past a) (answers past a) (passed past a) (plan_left m past a) (act.Assert n) (next_plain m past a (deed.Assert n) (act.Assert n) refl refl (hold m past a (deed.Assert n) ok).1.1.0) refl before
own_split m past a (deed.Drop n) ok f k before = plain (begun m past a) (answers past a) (passed past a) (plan_left m past a) (act.Drop n) (next_plain m past a (deed.Drop n) (act.Drop n) refl refl (hold m past a (deed.Drop n) ok).1.1.0) refl before
own_split m past a (deed.Notify x v) ok f k before = plain (begun m past a) (answers past a) (passed past a) (plan_left m past a) (act.Notify x v) (next_plain m past a (deed.Notify x v) (act.Notify x v) refl refl (hold m past a (deed.Notify x v) ok).1.1.0) refl before
own_split m past a (deed.Up n) ok f k before = plain (begun m past a) (answers past a) (passed past a) (plan_left m past a) (act.Up n) (next_plain m past a (deed.Up n) (act.Up n) refl refl (hold m past a (deed.Up n) ok).1.1.0) refl before
own_split m past a (deed.Down n) ok f k before = plain (begun m past a) (answers past a) (passed past a) (plan_left m past a) (act.Down n) (next_plain m past a (deed.Down n) (act.Down n) refl refl (hold m past a (deed.Down n) ok).1.1.0) refl before
own_split m past a (deed.Take v) ok f k before =
    let h = hold m past a (deed.Take v) ok in
    let o = opener_asks a (next_of m past a) (open_of past) h.1.1.0 k.1 in
    take_split m past a v (open_of past) o.0 o.1 o.3 h.1.1.1.1.0 before
own_split m past a _ ok f k before = quiet (begun m past a) (answers past a) (passed past a) (plan_left m past a) before

pub splits : (m : MachineData) (a : Actor) (past : List Entry) → LegalPast m past → SplitOf m past a
splits m a [] legal = λ more. refl
splits m a (e ∷ past) legal = at (same_actor a e.actor) refl (splits m a past legal.1)
  where
    mine : (b : Actor) (d : Deed) → a ≡ b → Allowed m past (entry b d) → Follows d (stage a past) → SplitOf m past a → SplitOf m (entry b d ∷ past) a
    mine b d same ok f before = subst (λ x. Allowed m past (entry x d) → SplitOf m (entry x d ∷ past) a) same (λ allowed. rw (same_self a) (own_split m past a d allowed f (kept m past a legal.1) before)) ok

    beside : (d : Deed) (b : Actor) → same_actor a b ≡ false → SplitOf m past a → SplitOf m (entry b d ∷ past) a
    beside d b other before = rw other before

    at : (x : Bool) → same_actor a e.actor ≡ x → SplitOf m past a → SplitOf m (e ∷ past) a
    at true same before = let is = same_actor-true a e.actor same in mine e.actor e.deed is legal.0 (follows_own m past a e is legal.1 legal.0) before
    at false other before = beside e.deed e.actor other before

-- what was passed is all that there is, once nothing is left
pub all_passed : (m : MachineData) (past : List Entry) (a : Actor) → LegalPast m past → next_of m past a ≡ None → passed past a ≡ acts_of (begun m past a) (answers past a)
all_passed m past a legal none =
    let split = splits m a past legal [] in
    sym (ap (acts_of (begun m past a)) (sym (append-nil (answers past a))) ∙ (split ∙ (ap (λ xs. passed past a ++ xs) (nothing_left (plan_left m past a) [] none) ∙ append-nil (passed past a))))

-- ---- firmware

-- a firmware starts no job
pub no_start : (m : MachineData) (past : List Entry) (k : ℕ) (d : Deed) → Allowed m past (entry (actor.Firmware k) d) → (p : Plan) → begun_after m (jobs m past) d p ≡ p
no_start m past k (deed.Start j) ok p = let works = (hold m past (actor.Firmware k) (deed.Start j) ok).0 in cc
no_start m past k _ ok p = refl

pub firmware_begun : (m : MachineData) (k : ℕ) (past : List Entry) → LegalPast m past → begun m past (actor.Firmware k) ≡ first_left m k
firmware_begun m k [] legal = refl
firmware_begun m k (e ∷ past) legal = at (same_actor (actor.Firmware k) e.actor) refl ∙ firmware_begun m k past legal.1
  where
    at : (b : Bool) → same_actor (actor.Firmware k) e.actor ≡ b → (if b then begun_after m (jobs m past) e.deed (begun m past (actor.Firmware k)) else begun m past (actor.Firmware k)) ≡ begun m past (actor.Firmware k)
    at true same = no_start m past k e.deed (subst (λ a. Allowed m past (entry a e.deed)) (sym (same_actor-true (actor.Firmware k) e.actor same)) legal.0) (begun m past (actor.Firmware k))
    at false other = refl

pub scripts_once : (m : MachineData) (history : List Entry) → Complete m history → ScriptsOnce m history
scripts_once m history complete k below =
    let none : next_of m (reverse history) (actor.Firmware k) ≡ None = ap next_act (complete.ended k below) in
    all_passed m (reverse history) (actor.Firmware k) complete.legal none ∙ ap (λ p. acts_of p (answers (reverse history) (actor.Firmware k))) (firmware_begun m k (reverse history) complete.legal)

-- ---- jobs

pub get-push : (js : List Job) (o : Option Job) (j : ℕ) → j < length js → slice_get (and_job js o) j ≡ slice_get js j
get-push js None j below = refl
get-push [] (Some x) j below = absurd (omega arith)
get-push (y ∷ js) (Some x) zero below = refl
get-push (y ∷ js) (Some x) (suc j) below = get-push js (Some x) j (omega arith)

pub length-grown : (js : List Job) (o : Option Job) → length js ≤ length (and_job js o)
length-grown js None = omega arith
length-grown js (Some x) = let more = length_push js x in omega arith

-- a worker began the job that it runs
abbrev pub Runs : MachineData → List Job → Option ℕ → Plan → Type 0
Runs m js r p = (j : ℕ) → r ≡ Some j → (j < length js) × (p ≡ job_plan m (slice_get js j))

pub runs_more : (m : MachineData) (js : List Job) (o : Option Job) (r : Option ℕ) (p : Plan) → Runs m js r p → Runs m (and_job js o) r p
runs_more m js o r p before j is =
    let b = before j is in
    let below : j < length js = b.0 in
    let long = length-grown js o in
    (omega arith, b.1 ∙ ap (job_plan m) (sym (get-push js o j below)))

pub runs_started : (m : MachineData) (js : List Job) (k : ℕ) → k < length js → Runs m js (Some k) (job_plan m (slice_get js k))
runs_started m js k below j is = let same : k ≡ j = some-injective k j is in (subst (λ x. x < length js) same below, ap (λ x. job_plan m (slice_get js x)) same)

pub runs_own : (m : MachineData) (past : List Entry) (a : Actor) (d : Deed) → Allowed m past (entry a d) → Runs m (jobs m past) (running past a) (begun m past a) → Runs m (jobs m (entry a d ∷ past)) (running_after d (running past a)) (begun_after m (jobs m past) d (begun m past a))
runs_own m past a (deed.Start k) ok before =
    let parts = start_parts m past a k (hold m past a (deed.Start k) ok).1.1.0 in
    runs_started m (jobs m past) k (subst (λ x. x < length (jobs m past)) (sym parts.0) parts.1)
runs_own m past a (deed.Finish k) ok before = λ j is. cc
runs_own m past a (deed.Claim n) ok before = runs_more m (jobs m past) (made m past (entry a (deed.Claim n))) (running past a) (begun m past a) before
runs_own m past a (deed.Take v) ok before = runs_more m (jobs m past) (made m past (entry a (deed.Take v))) (running past a) (begun m past a) before
runs_own m past a _ ok before = before

pub runs : (m : MachineData) (a : Actor) (past : List Entry) → LegalPast m past → Runs m (jobs m past) (running past a) (begun m past a)
runs m a [] legal = λ j is. cc
runs m a (e ∷ past) legal = at (same_actor a e.actor) refl (runs m a past legal.1)
  where
    at : (b : Bool) → same_actor a e.actor ≡ b → Runs m (jobs m past) (running past a) (begun m past a)
        → Runs m (jobs m (e ∷ past)) (if b then running_after e.deed (running past a) else running past a) (if b then begun_after m (jobs m past) e.deed (begun m past a) else begun m past a)
    at true same before = own e.actor (same_actor-true a e.actor same) legal.0 before where
      own : (b : Actor) → a ≡ b → Allowed m past (entry b e.deed) → Runs m (jobs m past) (running past a) (begun m past a) → Runs m (jobs m (entry b e.deed ∷ past)) (running_after e.deed (running past a)) (begun_after m (jobs m past) e.deed (begun m past a))
      own b is ok before = subst (λ x. Allowed m past (entry x e.deed) → Runs m (jobs m (entry x e.deed ∷ past)) (running_after e.deed (running past a)) (begun_after m (jobs m past) e.deed (begun m past a))) is (λ allowed. runs_own m past a e.deed allowed before) ok
    at false other before = runs_more m (jobs m past) (made m past e) (running past a) (begun m past a) before

pub number_is : (j : ℕ) (o : Option ℕ) → same_number (Some j) o ≡ true → o ≡ Some j
number_is j None is = cc
number_is j (Some k) is = ap Some (sym (eqb-true j k is))

pub finish_passed : (m : MachineData) (past : List Entry) (a : Actor) (j : ℕ) → LegalPast m past → Allowed m past (entry a (deed.Finish j)) → passed past a ≡ acts_of (job_plan m (slice_get (jobs m past) j)) (answers past a)
finish_passed m past a j legal ok =
    let h = hold m past a (deed.Finish j) ok in
    let runs_it = runs m a past legal j (number_is j (running past a) h.1.1.0) in
    all_passed m past a legal (is_none-none (next_of m past a) h.1.1.1.0) ∙ ap (λ p. acts_of p (answers past a)) runs_it.1

pub jobs_once : (m : MachineData) (history : List Entry) → Legal m history → JobsOnce m history
jobs_once m history legal i j e at is =
    finish_passed m (past_of history i) e.actor j (legal-front m history i legal) (subst (λ d. Allowed m (past_of history i) (entry e.actor d)) is (legal-each m history legal i e at))

-- ---- the next act

pub first_of_plan : (p : Plan) → slice_get (acts_of p []) 0 ≡ next_act p
first_of_plan End = refl
first_of_plan (Do needs a next) = refl

pub next_is_first : (m : MachineData) (history : List Entry) (a : Actor) → Legal m history → IsFirstLeft m (reverse history) a
next_is_first m history a legal =
    let split = splits m a (reverse history) legal [] in
    (acts_of (plan_left m (reverse history) a) [], ap (acts_of (begun m (reverse history) a)) (sym (append-nil (answers (reverse history) a))) ∙ split, first_of_plan (plan_left m (reverse history) a))
