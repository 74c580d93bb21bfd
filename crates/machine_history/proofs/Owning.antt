-- Each access that needs the Global Lock is made by its owner.
use Rattle.std.proofs.Common.{ℕ, zero, suc, ◌+◌, ◌≤◌, ◌≡◌, ◌==◌, ◌⊎◌, inl, inr, Bool, true, false, List, [], ◌∷◌, ◌++◌, reverse, unwrap_or, Option, Some, None, slice_get, if◌then◌else◌, nat_eq, refl, sym, ap, ◌∙◌, subst, append_assoc, arith, ◌||◌, not, is_some, ◌&&◌}
use Rattle.std.proofs.lemmas.Bool.{and_from, and_parts, eq-eqb, eqb-true}
use Rattle.std.proofs.lemmas.List.{reverse-append}
use Rattle.acpi_regs.specs.declared.actor.Actor.{Actor}
use Rattle.acpi_regs.specs.declared.actor.Actor.TheVariants as actor
use Rattle.acpi_regs.specs.declared.actor.Side.TheVariants as side
use Rattle.acpi_regs.specs.declared.entry.Cell.{Cell}
use Rattle.acpi_regs.specs.declared.entry.Deed.{Deed}
use Rattle.acpi_regs.specs.declared.entry.Deed.TheVariants as deed
use Rattle.acpi_regs.specs.declared.entry.Effect.{Effect}
use Rattle.acpi_regs.specs.declared.entry.Effect.TheVariants as effect
use Rattle.acpi_regs.specs.declared.entry.Entry.{Entry}
use Rattle.acpi_regs.specs.declared.entry.HostMove.{HostMove}
use Rattle.acpi_regs.specs.declared.entry.Request.{Request}
use Rattle.acpi_regs.specs.declared.entry.Request.TheVariants as request
use Rattle.acpi_regs.specs.declared.event.Event.{Event}
use Rattle.acpi_regs.specs.Actor.{same_actor, stands_on}
use Rattle.acpi_regs.specs.Event.{same_event}
use Rattle.acpi_regs.specs.History.{past_of}
use Rattle.acpi_regs.specs.Lock.{has_disowned, has_owned, is_busy, is_someone, owner}
use Rattle.ec_driver.specs.declared.wire.Move.TheVariants as move
use Rattle.ec_driver.specs.Wire.{wire}
use Rattle.handler_script.specs.declared.act.Act.{Act}
use Rattle.handler_script.specs.declared.act.Act.TheVariants as act
use Rattle.handler_script.specs.declared.op.Op.{Op}
use Rattle.handler_script.specs.Locked.{Locked, held_by}
use Rattle.handler_script.specs.Plan.{Plan, Do, End, next_act, plan, plan_after, query_plan}
use Rattle.handler_script.proofs.Locks.{plan_locked as locked}
use Rattle.machine_desc.specs.declared.machine.ListedEvent.{ListedEvent}
use Rattle.machine_desc.specs.declared.machine.Query.{Query}
use Rattle.machine_desc.specs.Kept.{IsHandler, IsListed, IsMachine, IsQuery, queries_in}
use Rattle.machine_desc.specs.Machine.{MachineData, act_fields, glk}
use Rattle.machine_desc.proofs.EachItem.{Each, each_all}
use Rattle.machine_history.specs.declared.parts.Access.{Access}
use Rattle.machine_history.specs.declared.parts.Job.{Job}
use Rattle.machine_history.specs.declared.parts.Job.TheVariants as job
use Rattle.machine_history.specs.Exclusion.{AccessesByOwner, DisownsBetween, LeavesNext, ReadsLast, entry, made_by, makes, needs_lock}
use Rattle.machine_history.specs.Jobs.{jobs}
use Rattle.machine_history.specs.Legal.{Allowed, Legal, LegalPast, asked, asked_by, has_quit, is_ctl_move, is_firmware, is_host, is_int, is_leave, is_next, is_seeker, may_step, runs_scripts}
use Rattle.machine_history.specs.Machine.{query_in, script_in, space}
use Rattle.machine_history.specs.Scripts.{first_plan, job_plan, left_after, next_of, plan_left}
use Rattle.machine_history.specs.Values.{access_of, answer, blank, ctl_access, next_in, open_access, same_cell, value}
use Rattle.machine_history.specs.Sentences.{StepsByHosts}
use Rattle.machine_history.specs.Wire.{Open, due, moved, open_after, open_of, put_out}
use Rattle.machine_history.proofs.Fronts.{ctl_next}
use Rattle.machine_history.proofs.Keeping.{AsksAt, Kept, is_plain, kept, lock_plain, opener_asks, some_asked, start_free}
use Rattle.machine_history.proofs.Known.{hold, is_none-none, same_actor-true, same_cell-self, same_cell-true, same_self, some-injective}
use Rattle.machine_history.proofs.Places.{legal-each, legal-front, legal-tail, reverse-cons, slice_get-push}
use Rattle.machine_history.proofs.Stages.{Away, Busied, Disowned, Follows, Owned, Sought, Stage, Words, follows_own, is_active, is_owned, is_trying_at, stage, stage_after, staged}

-- ---- plans and the lock

pub pass : (p : Plan) (x : Act) (held : Bool) (byte : ℕ) → next_act p ≡ Some x → Locked held p → Locked (held_by x held) (plan_after byte p)
pass End x held byte next all = cc
pass (Do needs a rest) x held byte next all = subst (λ y. Locked (held_by y held) (rest byte)) (some-injective a x next) (all.2 byte)

pub ended : (p : Plan) (held : Bool) → next_act p ≡ None → Locked held p → held ≡ false
ended End held none all = all
ended (Do needs a rest) held none all = cc

pub needs_held : (p : Plan) (held : Bool) → Locked held p → needs_lock p ≡ true → held ≡ true
needs_held End held all needs = cc
needs_held (Do true a rest) held all needs = all.0
needs_held (Do false a rest) held all needs = cc

-- ---- the plans of a machine

pub handler_locked : (m : MachineData) (found : Option (List Op)) → ((ops : List Op) → found ≡ Some ops → IsHandler m side.Firmware ops) → Locked false (plan (act_fields m) (unwrap_or found []))
handler_locked m None each = refl
handler_locked m (Some ops) each = locked (act_fields m) ops (each ops refl).accepted

pub first_locked : (m : MachineData) → IsMachine m → (a : Actor) → Locked false (first_plan m a)
first_locked m ok (actor.Firmware k) = handler_locked m (slice_get m.firmware k) (λ ops is. each_all (IsHandler m side.Firmware) m.firmware ok.firmware k ops is)
first_locked m ok _ = refl

pub event_locked : (m : MachineData) (n : Event) (ls : List ListedEvent) → Each (IsListed m) ls → Locked false (plan (act_fields m) (script_in ls n))
event_locked m n [] each = refl
event_locked m n (l ∷ ls) each = at (same_event l.listed.event n) (event_locked m n ls (λ k x at. each (suc k) x at))
  where
    at : (b : Bool) → Locked false (plan (act_fields m) (script_in ls n)) → Locked false (plan (act_fields m) (if b then l.script else script_in ls n))
    at true rest = locked (act_fields m) l.script (each zero l refl).script.accepted
    at false rest = rest

pub code_locked : (m : MachineData) (q : ℕ) (queries : List Query) → Each (IsQuery m) queries → Locked false (plan (act_fields m) (query_in queries q))
code_locked m q [] each = refl
code_locked m q (h ∷ queries) each = at (nat_eq h.code q) (code_locked m q queries (λ k x at. each (suc k) x at))
  where
    at : (b : Bool) → Locked false (plan (act_fields m) (query_in queries q)) → Locked false (plan (act_fields m) (if b then h.script else query_in queries q))
    at true rest = locked (act_fields m) h.script (each zero h refl).script.accepted
    at false rest = rest

pub query_locked : (needs : Bool) → Locked false (query_plan needs)
query_locked false = (refl, refl, λ b. refl)
query_locked true = (refl, refl, λ b. (refl, refl, λ b. (refl, refl, λ b. refl)))

pub job_locked : (m : MachineData) → IsMachine m → (j : Option Job) → Locked false (job_plan m j)
job_locked m ok None = refl
job_locked m ok (Some (job.Event n)) = event_locked m n m.events (each_all (IsListed m) m.events ok.events)
job_locked m ok (Some job.Query) = query_locked (glk m)
job_locked m ok (Some (job.Code q)) = code_locked m q (queries_in m) (each_all (IsQuery m) (queries_in m) ok.queries)

-- ---- the plan that is left stands at the actor's stage

abbrev pub Guarded : Stage → Plan → Type 0
Guarded st p = Locked (is_owned st) p

pub at_stage : (st s : Stage) (p : Plan) (b : Bool) → st ≡ s → is_owned s ≡ b → Guarded st p → Locked b p
at_stage st s p b is same guarded = subst (λ x. Locked x p) (ap is_owned is ∙ same) guarded

pub no_lock : (x : Act) (held : Bool) → (x ≡ act.Lock → ⊥) → (x ≡ act.Unlock → ⊥) → held_by x held ≡ held
no_lock act.Lock held lock unlock = absurd (lock refl)
no_lock act.Unlock held lock unlock = absurd (unlock refl)
no_lock (act.Read c) held lock unlock = refl
no_lock (act.Write c v) held lock unlock = refl
no_lock (act.Ask r) held lock unlock = refl
no_lock (act.Notify d v) held lock unlock = refl
no_lock (act.Drop n) held lock unlock = refl
no_lock (act.Up n) held lock unlock = refl
no_lock (act.Down n) held lock unlock = refl
no_lock (act.Raise n) held lock unlock = refl
no_lock (act.Assert n) held lock unlock = refl
no_lock (act.Push q) held lock unlock = refl

-- a deed that passes an act other than the lock's
abbrev pub passes_other : Deed → Bool
passes_other deed.Disown = false
passes_other d = is_plain d

pub other_plain : (d : Deed) → passes_other d ≡ true → is_plain d ≡ true
other_plain deed.Disown other = cc
other_plain d other = other

pub unlock_other : (d : Deed) → passes_other d ≡ true → asked act.Unlock d ≡ true → ⊥
unlock_other deed.Disown other is = cc
unlock_other _ other is = cc

pub plain_guarded : (m : MachineData) (past : List Entry) (a : Actor) (d : Deed) (byte : ℕ) → passes_other d ≡ true → is_next m past a d ≡ true → Guarded (stage a past) (plan_left m past a) → Guarded (stage a past) (plan_after byte (plan_left m past a))
plain_guarded m past a d byte other is guarded =
    let next = some_asked (next_of m past a) d is in
    let same = no_lock next.0 (is_owned (stage a past)) (λ lock. lock_plain d (other_plain d other) (ap (λ y. asked y d) (sym lock) ∙ next.2)) (λ unlock. unlock_other d other (ap (λ y. asked y d) (sym unlock) ∙ next.2)) in
    subst (λ b. Locked b (plan_after byte (plan_left m past a))) same (pass (plan_left m past a) next.0 (is_owned (stage a past)) byte next.1 guarded)

pub own_guarded : (m : MachineData) → IsMachine m → (past : List Entry) (a : Actor) (d : Deed) → Allowed m past (entry a d) → Follows d (stage a past) → Kept m past a → Guarded (stage a past) (plan_left m past a) → Guarded (stage_after d (stage a past)) (left_after m (jobs m past) d (plan_left m past a))
own_guarded m ok past a deed.Seek allowed f k guarded = at_stage (stage a past) Away (plan_left m past a) false f refl guarded
own_guarded m ok past a deed.Busy allowed f k guarded = at_stage (stage a past) Sought (plan_left m past a) false f refl guarded
own_guarded m ok past a deed.Woken allowed f k guarded = at_stage (stage a past) Busied (plan_left m past a) false f refl guarded
own_guarded m ok past a deed.Own allowed f k guarded = pass (plan_left m past a) act.Lock false 0 (k.0 (ap is_trying_at f)) (at_stage (stage a past) Sought (plan_left m past a) false f refl guarded)
own_guarded m ok past a deed.Disown allowed f k guarded =
    let next = some_asked (next_of m past a) deed.Disown (hold m past a deed.Disown allowed).1.1.1.0 in
    pass (plan_left m past a) act.Unlock true 0 (next.1 ∙ ap Some (unlock next.0 next.2)) (at_stage (stage a past) Owned (plan_left m past a) true f refl guarded)
  where
    unlock : (x : Act) → asked x deed.Disown ≡ true → x ≡ act.Unlock
    unlock act.Unlock is = refl
    unlock _ is = cc
own_guarded m ok past a (deed.Leave s) allowed f k guarded = at_stage (stage a past) Disowned (plan_left m past a) false f refl guarded
own_guarded m ok past a (deed.Start j) allowed f k guarded =
    let h = hold m past a (deed.Start j) allowed in
    let none = ap next_act (k.2 h.0 (start_free m past a j h.1.1.0)) in
    let free = ended (plan_left m past a) (is_owned (stage a past)) none guarded in
    subst (λ b. Locked b (job_plan m (slice_get (jobs m past) j))) (sym free) (job_locked m ok (slice_get (jobs m past) j))
own_guarded m ok past a (deed.Finish j) allowed f k guarded = ended (plan_left m past a) (is_owned (stage a past)) (is_none-none (next_of m past a) (hold m past a (deed.Finish j) allowed).1.1.1.0) guarded
own_guarded m ok past a (deed.Take v) allowed f k guarded =
    let o = opener_asks a (next_of m past a) (open_of past) (hold m past a (deed.Take v) allowed).1.1.0 k.1 in
    pass (plan_left m past a) (act.Ask o.0.asks) (is_owned (stage a past)) (unwrap_or v 0) o.3 guarded
own_guarded m ok past a (deed.Read c v) allowed f k guarded = plain_guarded m past a (deed.Read c v) v refl (hold m past a (deed.Read c v) allowed).1.1.0 guarded
own_guarded m ok past a (deed.Write c v) allowed f k guarded = plain_guarded m past a (deed.Write c v) 0 refl (hold m past a (deed.Write c v) allowed).1.1.0 guarded
own_guarded m ok past a (deed.Push q) allowed f k guarded = plain_guarded m past a (deed.Push q) 0 refl (hold m past a (deed.Push q) allowed).1.1.0 guarded
own_guarded m ok past a (deed.Raise n) allowed f k guarded = plain_guarded m past a (deed.Raise n) 0 refl (hold m past a (deed.Raise n) allowed).1.1.0 guarded
own_guarded m ok past a (deed.Assert n) allowed f k guarded = plain_guarded m past a (deed.Assert n) 0 refl (hold m past a (deed.Assert n) allowed).1.1.0 guarded
own_guarded m ok past a (deed.Drop n) allowed f k guarded = plain_guarded m past a (deed.Drop n) 0 refl (hold m past a (deed.Drop n) allowed).1.1.0 guarded
own_guarded m ok past a (deed.Notify x v) allowed f k guarded = plain_guarded m past a (deed.Notify x v) 0 refl (hold m past a (deed.Notify x v) allowed).1.1.0 guarded
own_guarded m ok past a (deed.Up n) allowed f k guarded = plain_guarded m past a (deed.Up n) 0 refl (hold m past a (deed.Up n) allowed).1.1.0 guarded
own_guarded m ok past a (deed.Down n) allowed f k guarded = plain_guarded m past a (deed.Down n) 0 refl (hold m past a (deed.Down n) allowed).1.1.0 guarded
own_guarded m ok past a _ allowed f k guarded = guarded

pub guarded : (m : MachineData) → IsMachine m → (a : Actor) (past : List Entry) → LegalPast m past → Guarded (stage a past) (plan_left m past a)
guarded m ok a [] legal = first_locked m ok a
guarded m ok a (e ∷ past) legal = at (same_actor a e.actor) refl (guarded m ok a past legal.1)
  where
    mine : (b : Actor) (d : Deed) → a ≡ b → Allowed m past (entry b d) → Follows d (stage a past) → Guarded (stage a past) (plan_left m past a) → Guarded (stage a (entry b d ∷ past)) (plan_left m (entry b d ∷ past) a)
    mine b d same allowed f before = subst (λ x. Allowed m past (entry x d) → Guarded (stage a (entry x d ∷ past)) (plan_left m (entry x d ∷ past) a)) same (λ may. rw (same_self a) (own_guarded m ok past a d may f (kept m past a legal.1) before)) allowed

    beside : (d : Deed) (b : Actor) → same_actor a b ≡ false → Guarded (stage a past) (plan_left m past a) → Guarded (stage a (entry b d ∷ past)) (plan_left m (entry b d ∷ past) a)
    beside d b other before = rw other before

    at : (x : Bool) → same_actor a e.actor ≡ x → Guarded (stage a past) (plan_left m past a) → Guarded (stage a (e ∷ past)) (plan_left m (e ∷ past) a)
    at true same before = let is = same_actor-true a e.actor same in mine e.actor e.deed is legal.0 (follows_own m past a e is legal.1 legal.0) before
    at false other before = beside e.deed e.actor other before

pub someone_is : (a : Actor) (o : Option Actor) → is_someone a o ≡ true → o ≡ Some a
someone_is a None is = cc
someone_is a (Some b) is = ap Some (sym (same_actor-true a b is))

-- where the next act needs the lock, its actor owns it
pub owned_where_needed : (m : MachineData) → IsMachine m → (past : List Entry) (a : Actor) → LegalPast m past → needs_lock (plan_left m past a) ≡ true → owner past ≡ Some a
owned_where_needed m ok past a legal needs =
    let owned = needs_held (plan_left m past a) (is_owned (stage a past)) (guarded m ok a past legal) needs in
    someone_is a (owner past) ((staged m past a legal).1 ∙ owned)

-- ---- accesses

pub next_read : (x : Option Act) (c : Cell) (v : ℕ) → asked_by x (deed.Read c v) ≡ true → x ≡ Some (act.Read c)
next_read (Some (act.Read d)) c v is = ap (λ y. Some (act.Read y)) (same_cell-true d c is)
next_read _ c v is = cc

pub next_write : (x : Option Act) (c : Cell) (v : ℕ) → asked_by x (deed.Write c v) ≡ true → x ≡ Some (act.Write c v)
next_write (Some (act.Write d w)) c v is = let p = and_parts (same_cell d c) (w == v) is in ap (λ y. Some (act.Write y w)) (same_cell-true d c p.0) ∙ ap (λ y. Some (act.Write c y)) (eqb-true w v p.1)
next_write _ c v is = cc

abbrev pub Makes : MachineData → List Entry → Option Access → Type 0
Makes m past None = Unit {0}
Makes m past (Some x) = made_by m (next_of m past x.by) x ≡ true

pub makes_from : (m : MachineData) (past : List Entry) (o : Option Access) (x : Access) → o ≡ Some x → Makes m past o → made_by m (next_of m past x.by) x ≡ true
makes_from m past o x is makes = subst (Makes m past) is makes

-- the open request is the next act of its requester
pub open_next : (m : MachineData) (past : List Entry) (o : Open) → LegalPast m past → open_of past ≡ Some o → next_of m past o.by ≡ Some (act.Ask o.asks)
open_next m past o legal is = subst (AsksAt o.by (next_of m past o.by)) is (kept m past o.by legal).1 (same_self o.by)

pub taken_none : (m : MachineData) (by : Actor) (r : Request) → ctl_access m by r effect.Taken ≡ None
taken_none m by (request.Rd x) = refl
taken_none m by (request.Wr x w) = refl
taken_none m by request.Be = refl
taken_none m by request.Bd = refl
taken_none m by request.Qr = refl

pub calm_none : (m : MachineData) (by : Actor) (r : Request) → ctl_access m by r effect.Calm ≡ None
calm_none m by (request.Rd x) = refl
calm_none m by (request.Wr x w) = refl
calm_none m by request.Be = refl
calm_none m by request.Bd = refl
calm_none m by request.Qr = refl

pub ctl_makes : (m : MachineData) (past : List Entry) (e : Effect) (by : Actor) (r : Request) → next_of m past by ≡ Some (act.Ask r) → Makes m past (ctl_access m by r e)
ctl_makes m past (effect.Out v) by (request.Rd x) next = ap (λ o. made_by m o (record { by = by; cell = space m x; byte = v; writes = false })) next ∙ same_cell-self (space m x)
ctl_makes m past effect.Put by (request.Wr x w) next =
    ap (λ o. made_by m o (record { by = by; cell = space m x; byte = w; writes = true })) next ∙ and_from (same_cell (space m x) (space m x)) (w == w) (same_cell-self (space m x)) (eq-eqb w w refl)
ctl_makes m past effect.Taken by r next = subst (Makes m past) (sym (taken_none m by r)) tt
ctl_makes m past effect.Calm by r next = subst (Makes m past) (sym (calm_none m by r)) tt
ctl_makes m past effect.Put by (request.Rd x) next = tt
ctl_makes m past effect.Put by request.Be next = tt
ctl_makes m past effect.Put by request.Bd next = tt
ctl_makes m past effect.Put by request.Qr next = tt
ctl_makes m past (effect.Out v) by (request.Wr x w) next = tt
ctl_makes m past (effect.Out v) by request.Be next = tt
ctl_makes m past (effect.Out v) by request.Bd next = tt
ctl_makes m past (effect.Out v) by request.Qr next = tt

pub open_makes : (m : MachineData) (past : List Entry) (e : Effect) (oo : Option Open) → ((o : Open) → oo ≡ Some o → next_of m past o.by ≡ Some (act.Ask o.asks)) → Makes m past (open_access m oo e)
open_makes m past e None next = tt
open_makes m past e (Some o) next = ctl_makes m past e o.by o.asks (next o refl)

pub makes_its : (m : MachineData) (past : List Entry) (a : Actor) (d : Deed) → LegalPast m past → Allowed m past (entry a d) → Makes m past (access_of m past (entry a d))
makes_its m past a (deed.Read c v) legal ok = ap (λ o. made_by m o (record { by = a; cell = c; byte = v; writes = false })) (next_read (next_of m past a) c v (hold m past a (deed.Read c v) ok).1.1.0) ∙ same_cell-self c
makes_its m past a (deed.Write c v) legal ok =
    ap (λ o. made_by m o (record { by = a; cell = c; byte = v; writes = true })) (next_write (next_of m past a) c v (hold m past a (deed.Write c v) ok).1.1.0) ∙ and_from (same_cell c c) (v == v) (same_cell-self c) (eq-eqb v v refl)
makes_its m past a (deed.Ctl e) legal ok = open_makes m past e (open_of past) (λ o is. open_next m past o legal is)
makes_its m past a _ legal ok = tt

pub accesses_by_owner : (m : MachineData) (history : List Entry) → IsMachine m → Legal m history → AccessesByOwner m history
accesses_by_owner m history ok legal i e x at is = (
  makes_from m (past_of history i) (access_of m (past_of history i) e) x is (makes_its m (past_of history i) e.actor e.deed (legal-front m history i legal) (legal-each m history legal i e at)),
  λ needs. owned_where_needed m ok (past_of history i) x.by (legal-front m history i legal) needs,
)

-- ---- reads

-- a read's byte is put out by its fourth move
abbrev pub is_rd : Request → Bool
is_rd (request.Rd x) = true
is_rd _ = false

abbrev pub Unread : Option Open → Type 0
Unread None = Unit {0}
Unread (Some o) = is_rd o.asks ≡ true → o.made ≤ 3 → o.out ≡ None

pub rd_is : (r : Request) → is_rd r ≡ true → (x : ℕ) × (r ≡ request.Rd x)
rd_is (request.Rd x) is = (x, refl)
rd_is _ is = cc

pub rd_place : (x b k v : ℕ) → slice_get (wire (request.Rd x) b) k ≡ Some (move.Ctl (effect.Out v)) → (k ≡ 3) × (v ≡ b)
rd_place x b zero v at = cc
rd_place x b (suc zero) v at = cc
rd_place x b (suc (suc zero)) v at = cc
rd_place x b (suc (suc (suc zero))) v at = (refl, cc)
rd_place x b (suc (suc (suc (suc zero)))) v at = cc
rd_place x b (suc (suc (suc (suc (suc k))))) v at = cc

pub out_place : (m : MachineData) (past : List Entry) (v : ℕ) (o : Open) (x : ℕ) → o.asks ≡ request.Rd x → is_ctl_move (effect.Out v) (next_in m past (Some o)) ≡ true → (o.made ≡ 3) × (v ≡ blank m past o)
out_place m past v o x rd is =
    let next = ctl_next (effect.Out v) (next_in m past (Some o)) is in
    rd_place x (blank m past o) o.made v (subst (λ r. slice_get (wire r (blank m past o)) o.made ≡ Some (move.Ctl (effect.Out v))) rd next)

pub unread_moved : (oo : Option Open) → Unread oo → Unread (moved oo)
unread_moved None before = tt
unread_moved (Some o) before = λ rd few. before rd (let most : o.made + 1 ≤ 3 = few in omega arith)

pub unread_out : (m : MachineData) (past : List Entry) (v : ℕ) (oo : Option Open) → is_ctl_move (effect.Out v) (next_in m past oo) ≡ true → Unread (put_out v oo)
unread_out m past v None is = tt
unread_out m past v (Some o) is = λ rd few. (
    let x = rd_is o.asks rd in
    let place = (out_place m past v o x.0 x.1 is).0 in
    let most : o.made + 1 ≤ 3 = few in
    absurd (omega arith))

pub unread_deed : (m : MachineData) (past : List Entry) (a : Actor) (d : Deed) → Allowed m past (entry a d) → Unread (open_of past) → Unread (open_after a d (open_of past))
unread_deed m past a (deed.Begin r) ok before = λ rd few. refl
unread_deed m past a (deed.Take v) ok before = tt
unread_deed m past a (deed.Step h) ok before = unread_moved (open_of past) before
unread_deed m past a (deed.Ctl effect.Calm) ok before = before
unread_deed m past a (deed.Ctl effect.Taken) ok before = unread_moved (open_of past) before
unread_deed m past a (deed.Ctl effect.Put) ok before = unread_moved (open_of past) before
unread_deed m past a (deed.Ctl (effect.Out v)) ok before = unread_out m past v (open_of past) (hold m past a (deed.Ctl (effect.Out v)) ok).1.1.1.0
unread_deed m past a _ ok before = before

pub unread : (m : MachineData) (past : List Entry) → LegalPast m past → Unread (open_of past)
unread m [] legal = tt
unread m (e ∷ past) legal = unread_deed m past e.actor e.deed legal.0 (unread m past legal.1)

abbrev pub GivesLast : MachineData → List Entry → Option Access → Type 0
GivesLast m past None = Unit {0}
GivesLast m past (Some x) = x.writes ≡ false → x.byte ≡ value m past x.cell

pub read_out : (m : MachineData) (past : List Entry) (v : ℕ) (o : Open) → Unread (Some o) → is_ctl_move (effect.Out v) (next_in m past (Some o)) ≡ true → GivesLast m past (ctl_access m o.by o.asks (effect.Out v))
read_out m past v o before is = at o.asks refl
  where
    at : (r : Request) → o.asks ≡ r → GivesLast m past (ctl_access m o.by r (effect.Out v))
    at (request.Rd x) rd = λ reads.
        let place = out_place m past v o x rd is in
        let none = before (ap is_rd rd) (let three = place.0 in omega arith) in
        place.1 ∙ (ap (λ out. unwrap_or out (answer m past o.asks)) none ∙ ap (answer m past) rd)
    at (request.Wr x w) rd = tt
    at request.Be rd = tt
    at request.Bd rd = tt
    at request.Qr rd = tt

pub ctl_gives : (m : MachineData) (past : List Entry) (e : Effect) (oo : Option Open) → Unread oo → is_ctl_move e (next_in m past oo) ≡ true → GivesLast m past (open_access m oo e)
ctl_gives m past e None before is = tt
ctl_gives m past (effect.Out v) (Some o) before is = read_out m past v o before is
ctl_gives m past effect.Taken (Some o) before is = subst (GivesLast m past) (sym (taken_none m o.by o.asks)) tt
ctl_gives m past effect.Calm (Some o) before is = subst (GivesLast m past) (sym (calm_none m o.by o.asks)) tt
ctl_gives m past effect.Put (Some o) before is = put o.asks
  where
    put : (r : Request) → GivesLast m past (ctl_access m o.by r effect.Put)
    put (request.Wr x w) = λ reads. cc
    put (request.Rd x) = tt
    put request.Be = tt
    put request.Bd = tt
    put request.Qr = tt

pub calm_gives : (m : MachineData) (past : List Entry) (oo : Option Open) → GivesLast m past (open_access m oo effect.Calm)
calm_gives m past None = tt
calm_gives m past (Some o) = subst (GivesLast m past) (sym (calm_none m o.by o.asks)) tt

pub gives_last : (m : MachineData) (past : List Entry) (a : Actor) (d : Deed) → LegalPast m past → Allowed m past (entry a d) → GivesLast m past (access_of m past (entry a d))
gives_last m past a (deed.Read c v) legal ok = λ reads. eqb-true v (value m past c) (hold m past a (deed.Read c v) ok).1.1.1.0
gives_last m past a (deed.Write c v) legal ok = λ reads. cc
gives_last m past a (deed.Ctl effect.Calm) legal ok = calm_gives m past (open_of past)
gives_last m past a (deed.Ctl effect.Taken) legal ok = ctl_gives m past effect.Taken (open_of past) (unread m past legal) (hold m past a (deed.Ctl effect.Taken) ok).1.1.1.0
gives_last m past a (deed.Ctl effect.Put) legal ok = ctl_gives m past effect.Put (open_of past) (unread m past legal) (hold m past a (deed.Ctl effect.Put) ok).1.1.1.0
gives_last m past a (deed.Ctl (effect.Out v)) legal ok = ctl_gives m past (effect.Out v) (open_of past) (unread m past legal) (hold m past a (deed.Ctl (effect.Out v)) ok).1.1.1.0
gives_last m past a _ legal ok = tt

pub reads_last : (m : MachineData) (history : List Entry) → Legal m history → ReadsLast m history
reads_last m history legal i e x at is reads =
    subst (GivesLast m (past_of history i)) is (gives_last m (past_of history i) e.actor e.deed (legal-front m history i legal) (legal-each m history legal i e at)) reads

-- ---- between two owns

abbrev pub Stands : Entry → List Entry → Type 0
Stands e xs = (j : ℕ) × (slice_get xs j ≡ Some e)

-- since an own either its actor still owns, or it has disowned
pub since_own : (m : MachineData) (a : Actor) (older newer : List Entry) → LegalPast m (newer ++ (entry a deed.Own ∷ older)) → Stands (entry a deed.Disown) newer ⊎ (owner (newer ++ (entry a deed.Own ∷ older)) ≡ Some a)
since_own m a older [] legal = inr refl
since_own m a older (e ∷ newer) legal = at e.actor e.deed legal.0 (since_own m a older newer legal.1)
  where
    both : (o : Option Actor) → o ≡ None → o ≡ Some a → ⊥
    both o none some = cc

    at : (b : Actor) (d : Deed) → Allowed m (newer ++ (entry a deed.Own ∷ older)) (entry b d) → Stands (entry a deed.Disown) newer ⊎ (owner (newer ++ (entry a deed.Own ∷ older)) ≡ Some a) → Stands (entry a deed.Disown) (entry b d ∷ newer) ⊎ (owner (entry b d ∷ (newer ++ (entry a deed.Own ∷ older))) ≡ Some a)
    at b d ok (inl stands) = inl (suc stands.0, stands.1)
    at b deed.Own ok (inr owns) = let none = is_none-none (owner (newer ++ (entry a deed.Own ∷ older))) (hold m (newer ++ (entry a deed.Own ∷ older)) b deed.Own ok).1.1.1.1.0 in absurd (both (owner (newer ++ (entry a deed.Own ∷ older))) none owns)
    at b deed.Disown ok (inr owns) = let its = someone_is b (owner (newer ++ (entry a deed.Own ∷ older))) (hold m (newer ++ (entry a deed.Own ∷ older)) b deed.Disown ok).1.1.0 in inl (zero, ap (λ x. Some (entry x deed.Disown)) (some-injective b a (sym its ∙ owns)))
    at b _ ok (inr owns) = inr owns

pub joined : (later between earlier : List Entry) (x y : Entry) → (((later ++ y ∷ []) ++ between) ++ x ∷ []) ++ earlier ≡ later ++ (y ∷ (between ++ (x ∷ earlier)))
joined later between earlier x y =
    append_assoc ((later ++ y ∷ []) ++ between) (x ∷ []) earlier ∙ (append_assoc (later ++ y ∷ []) between (x ∷ earlier) ∙ append_assoc later (y ∷ []) (between ++ (x ∷ earlier)))

pub reversed : (earlier between later : List Entry) (x y : Entry) → reverse (earlier ++ (x ∷ (between ++ (y ∷ later)))) ≡ reverse later ++ (y ∷ (reverse between ++ (x ∷ reverse earlier)))
reversed earlier between later x y =
    reverse-append earlier (x ∷ (between ++ (y ∷ later)))
    ∙ (ap (λ l. l ++ reverse earlier) (reverse-cons x (between ++ (y ∷ later)) ∙ ap (λ l. l ++ x ∷ []) (reverse-append between (y ∷ later) ∙ ap (λ l. l ++ reverse between) (reverse-cons y later)))
    ∙ joined (reverse later) (reverse between) (reverse earlier) x y)

pub stands_reverse : (e : Entry) (xs : List Entry) → Stands e (reverse xs) → Stands e xs
stands_reverse e [] stands = stands
stands_reverse e (x ∷ xs) stands =
    elim (slice_get-push (reverse xs) x stands.0 e (subst (λ l. slice_get l stands.0 ≡ Some e) (reverse-cons x xs) stands.1)) [
      | inl left ↦ later (stands_reverse e xs (stands.0, left.1))
      | inr last ↦ (zero, ap Some last.1)
    ]
  where
    later : Stands e xs → Stands e (x ∷ xs)
    later rest = (suc rest.0, rest.1)

pub disowns_between : (m : MachineData) → DisownsBetween m
disowns_between m earlier between later a b legal =
    let whole = legal-tail m (reverse later) (entry b deed.Own ∷ (reverse between ++ (entry a deed.Own ∷ reverse earlier))) (subst (LegalPast m) (reversed earlier between later (entry a deed.Own) (entry b deed.Own)) legal) in
    let past : List Entry = reverse between ++ (entry a deed.Own ∷ reverse earlier) in
    let none = is_none-none (owner past) (hold m past b deed.Own whole.0).1.1.1.1.0 in
    elim (since_own m a (reverse earlier) (reverse between) whole.1) [
      | inl stands ↦ stands_reverse (entry a deed.Disown) between stands
      | inr owns ↦ absurd (both (owner past) none owns)
    ]
  where
    both : (o : Option Actor) → o ≡ None → o ≡ Some a → ⊥
    both o none some = cc

-- ---- between a disown and a leave

-- others' entries leave an actor's stage
pub stage_beside : (a : Actor) (newer older : List Entry) → ((j : ℕ) (e : Entry) → slice_get newer j ≡ Some e → same_actor a e.actor ≡ false) → stage a (newer ++ older) ≡ stage a older
stage_beside a [] older others = refl
stage_beside a (e ∷ newer) older others = rw (others zero e refl) (stage_beside a newer older (λ j x at. others (suc j) x at))

pub quit_now : (m : MachineData) (past : List Entry) (a : Actor) → LegalPast m past → runs_scripts m a ≡ true → stage a past ≡ Disowned → has_quit m past a ≡ true
quit_now m past a legal runs is =
    let at = staged m past a legal in
    let words = subst (λ st. Words st (has_owned a past) (has_disowned a past) (is_busy a past)) is at.2 in
    and_from (runs_scripts m a && is_seeker past a) (has_disowned a past) (and_from (runs_scripts m a) (is_seeker past a) runs (at.0 ∙ ap is_active is)) words.1

pub only_leaves : (b l : Bool) → b ≡ true → (if b then l else not l) ≡ true → l ≡ true
only_leaves true l is h = h
only_leaves false l is h = cc

pub leaves_next : (m : MachineData) → LeavesNext m
leaves_next m earlier between later a d legal others =
    let whole = legal-tail m (reverse later) (entry a d ∷ (reverse between ++ (entry a deed.Disown ∷ reverse earlier))) (subst (LegalPast m) (reversed earlier between later (entry a deed.Disown) (entry a d)) legal) in
    let disown = (legal-tail m (reverse between) (entry a deed.Disown ∷ reverse earlier) whole.1).0 in
    let here : stage a (entry a deed.Disown ∷ reverse earlier) ≡ Disowned = rw (same_self a) refl in
    let is = stage_beside a (reverse between) (entry a deed.Disown ∷ reverse earlier) (λ j e at. (let stands = stands_reverse e between (j, at) in others stands.0 e stands.1)) ∙ here in
    let quit = quit_now m (reverse between ++ (entry a deed.Disown ∷ reverse earlier)) a whole.1 (hold m (reverse earlier) a deed.Disown disown).0 is in
    only_leaves _ (is_leave d) quit (hold m (reverse between ++ (entry a deed.Disown ∷ reverse earlier)) a d whole.0).1.0

-- ---- who steps

pub step_host : (m : MachineData) (o : Open) (a : Actor) (b : Bool) → stands_on side.Os o.by ≡ b → may_step m (Some o) a ≡ true → (b ≡ true → is_host a ≡ true) × (b ≡ false → a ≡ o.by)
step_host m o a true is may = (λ t. subst (λ x. (if x then is_host a else (is_firmware m a && same_actor a o.by)) ≡ true) is may, λ f. cc)
step_host m o a false is may = (λ t. cc, λ f. same_actor-true a o.by (and_parts (is_firmware m a) (same_actor a o.by) (subst (λ x. (if x then is_host a else (is_firmware m a && same_actor a o.by)) ≡ true) is may)).1)

pub due_int : (m : MachineData) (past : List Entry) (a : Actor) → (not (is_int a) || due m past) ≡ true → a ≡ actor.Int → due m past ≡ true
due_int m past a h is = subst (λ x. (not (is_int x) || due m past) ≡ true) is h

pub step_of : (m : MachineData) (past : List Entry) (a : Actor) (h : HostMove) (oo : Option Open) → open_of past ≡ oo → Allowed m past (entry a (deed.Step h))
    → (o : Open) × (oo ≡ Some o) × (stands_on side.Os o.by ≡ true → is_host a ≡ true) × (stands_on side.Os o.by ≡ false → a ≡ o.by) × (a ≡ actor.Int → due m past ≡ true)
step_of m past a h None is ok = let some = ap is_some (sym is) in let held = (hold m past a (deed.Step h) ok).1.1.0 in cc
step_of m past a h (Some o) is ok =
    let c = hold m past a (deed.Step h) ok in
    let who = step_host m o a (stands_on side.Os o.by) refl (subst (λ oo. may_step m oo a ≡ true) is c.0) in
    (o, refl, who.0, who.1, due_int m past a c.1.1.1.1.0)

pub steps_by_hosts : (m : MachineData) (history : List Entry) → Legal m history → StepsByHosts m history
steps_by_hosts m history legal i e h at is =
    step_of m (past_of history i) e.actor h (open_of (past_of history i)) refl (subst (λ d. Allowed m (past_of history i) (entry e.actor d)) is (legal-each m history legal i e at))
