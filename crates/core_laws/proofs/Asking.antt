-- Where codes wait, the controller's event has status, or a query was made whose Out has not come: from the table of entries
-- alone.
use Rattle.std.proofs.Common.{ℕ, zero, suc, ◌<◌, ◌≤◌, ◌≡◌, ◌==◌, ◌&&◌, ◌⊎◌, inl, inr, Bool, true, false, not, cond, nat_lt, List, [], ◌∷◌, ◌++◌, length, drop, slice_get, Option, Some, None, is_some, refl, sym, ap, ◌∙◌, subst, arith, if◌then◌else◌}
use Rattle.std.proofs.lemmas.Bool.{and_parts, eqb-false, eqb-true, lt-ltb, or_right}
use Rattle.acpi_regs.specs.declared.actor.Actor.{Actor}
use Rattle.acpi_regs.specs.declared.actor.Actor.TheVariants as actor
use Rattle.acpi_regs.specs.declared.actor.Side.TheVariants as side
use Rattle.acpi_regs.specs.declared.entry.Deed.{Deed}
use Rattle.acpi_regs.specs.declared.entry.Deed.TheVariants as deed
use Rattle.acpi_regs.specs.declared.entry.Effect.{Effect}
use Rattle.acpi_regs.specs.declared.entry.Effect.TheVariants as effect
use Rattle.acpi_regs.specs.declared.entry.Entry.{Entry}
use Rattle.acpi_regs.specs.declared.entry.HostMove.{HostMove}
use Rattle.acpi_regs.specs.declared.entry.Request.{Request}
use Rattle.acpi_regs.specs.declared.entry.Request.TheVariants as request
use Rattle.acpi_regs.specs.declared.event.Event.{Event}
use Rattle.acpi_regs.specs.Actor.{same_actor, stands_on}
use Rattle.acpi_regs.specs.CoreEvents.{entry}
use Rattle.acpi_regs.specs.Event.{gbl, same_event}
use Rattle.ec_driver.specs.declared.wire.Move.TheVariants as move
use Rattle.ec_driver.specs.Wire.{carried, wire}
use Rattle.event_chip.specs.declared.state.Touch.{Touch}
use Rattle.event_chip.specs.declared.state.Touch.TheVariants as touch
use Rattle.event_chip.specs.State.{is_level}
use Rattle.handler_script.specs.declared.act.Act.{Act}
use Rattle.handler_script.specs.declared.act.Act.TheVariants as act
use Rattle.handler_script.specs.Plan.{Plan, next_act, plan_after, query_plan}
use Rattle.machine_desc.specs.declared.machine.ControllerDesc.{ControllerDesc}
use Rattle.machine_desc.specs.Kept.{IsMachine, event_of_controller, own_event}
use Rattle.machine_desc.specs.Machine.{MachineData, glk}
use Rattle.machine_history.specs.declared.parts.Job.{Job}
use Rattle.machine_history.specs.declared.parts.Job.TheVariants as job
use Rattle.machine_history.specs.declared.parts.Touched.{Touched}
use Rattle.machine_history.specs.Events.{does, does_to, is_loud, leaves_codes, status, touch_of, touched}
use Rattle.machine_history.specs.Events as events
use Rattle.machine_history.specs.Jobs.{and_job, claimed_job, event_ended, is_empty, jobs, made, running, running_after, starts}
use Rattle.machine_history.specs.Legal.{Allowed, LegalPast, asked, asked_by, is_ec, is_firmware, is_host_move, is_next}
use Rattle.machine_history.specs.Machine.{is_silent}
use Rattle.machine_history.specs.Scripts.{job_plan, left_after, next_of, plan_left}
use Rattle.machine_history.specs.Values.{blank, next_in, taking_in}
use Rattle.machine_history.specs.Wire.{Open, asks_code, begun, codes, is_query, moved, open_after, open_of, put_out}
use Rattle.machine_history.proofs.JobCounts.{start_parts}
use Rattle.machine_history.proofs.Keeping.{AsksAt, ask_plain, is_plain, kept, lock_plain, opener_asks, some_asked, start_free}
use Rattle.machine_history.proofs.Known.{hold, is_none-none, same_actor-true, same_event-self, same_event-true, same_self}
use Rattle.machine_history.proofs.Machines.{own_is}
use Rattle.machine_history.proofs.Queries.{IsOwn, next_status, slot_kind, status_next, unasked}
use Rattle.machine_history.proofs.Stages.{Follows, follows_own, is_trying_at, stage}
use Rattle.machine_history.proofs.Wires.{host_is}
use Rattle.core_laws.specs.Sound.{CodesSound, IsAsked, IsAsking, IsBeforeOut, IsEarly, OwnHasStatus}
use Rattle.core_laws.proofs.Suits.{next_suits}

both : (x : Bool) → x ≡ true → x ≡ false → ⊥
both x p q = cc

-- ---- what is next at a query

at_lock : (p : Plan) → p ≡ query_plan true → next_act p ≡ Some act.Lock
at_lock p is = ap next_act is

at_ask : (p : Plan) → IsAsking p → next_act p ≡ Some (act.Ask request.Qr)
at_ask p (inl is) = ap next_act is
at_ask p (inr is) = ap next_act is

lock_or_ask : (x : Option Act) (r : Request) → x ≡ Some act.Lock → x ≡ Some (act.Ask r) → ⊥
lock_or_ask x r lock ask = let same = sym lock ∙ ask in cc

same_ask : (x : Option Act) (r s : Request) → x ≡ Some (act.Ask r) → x ≡ Some (act.Ask s) → r ≡ s
same_ask x r s one other = let same = sym one ∙ other in cc

-- at its ask, a worker's own open transaction is a query
own_query : (w : Actor) (x : Option Act) (o : Open) → AsksAt w x (Some o) → x ≡ Some (act.Ask request.Qr) → same_actor w o.by ≡ true → o.asks ≡ request.Qr
own_query w x o asks next own = same_ask x o.asks request.Qr (asks own) next

-- ---- an open transaction stays early

host_first : (v k : ℕ) (g : HostMove) → slice_get (wire request.Qr v) k ≡ Some (move.Host g) → k ≤ 1 → k ≡ 0
host_first v zero g at few = refl
host_first v (suc zero) g at few = cc
host_first v (suc (suc k)) g at few = absurd (omega arith)

early_host : (m : MachineData) (past : List Entry) (w : Actor) (x : Option Act) (h : HostMove) (oo : Option Open) → AsksAt w x oo → x ≡ Some (act.Ask request.Qr) → is_host_move h (next_in m past oo) ≡ true → IsEarly w oo → IsEarly w (moved oo)
early_host m past w x h None asks next is early = tt
early_host m past w x h (Some o) asks next is early = λ own. (
    let found = host_is h (next_in m past (Some o)) is in
    let at = subst (λ r. slice_get (wire r (blank m past o)) o.made ≡ Some (move.Host found.0)) (own_query w x o asks next own) found.1 in
    let first = host_first (blank m past o) o.made found.0 at (early own) in
    omega arith)

early_other : (w : Actor) (x : Option Act) (oo pp : Option Open) → AsksAt w x oo → x ≡ Some (act.Ask request.Qr) → asks_code oo ≡ false → ((o : Open) → oo ≡ Some o → (p : Open) × (pp ≡ Some p) × (p.by ≡ o.by)) → (oo ≡ None → pp ≡ None) → IsEarly w pp
early_other w x None pp asks next none some nothing = subst (IsEarly w) (sym (nothing refl)) tt
early_other w x (Some o) pp asks next none some nothing =
    let p = some o refl in
    subst (IsEarly w) (sym p.1) (λ own. absurd (both (is_query o.asks) (ap is_query (own_query w x o asks next (ap (same_actor w) (sym p.2) ∙ own))) none))

early_moved : (w : Actor) (x : Option Act) (oo : Option Open) → AsksAt w x oo → x ≡ Some (act.Ask request.Qr) → asks_code oo ≡ false → IsEarly w (moved oo)
early_moved w x None asks next none = tt
early_moved w x (Some o) asks next none = λ own. absurd (both (is_query o.asks) (ap is_query (own_query w x o asks next own)) none)

early_put : (w : Actor) (x : Option Act) (v : ℕ) (oo : Option Open) → AsksAt w x oo → x ≡ Some (act.Ask request.Qr) → asks_code oo ≡ false → IsEarly w (put_out v oo)
early_put w x v None asks next none = tt
early_put w x v (Some o) asks next none = λ own. absurd (both (is_query o.asks) (ap is_query (own_query w x o asks next own)) none)

-- an Out of a query is the only entry that ends the wait
abbrev NoOut : List Entry → Deed → Type 0
NoOut past d = (v : ℕ) → d ≡ deed.Ctl (effect.Out v) → asks_code (open_of past) ≡ false

-- an entry of any actor but a begin of w's own
early_after : (m : MachineData) (past : List Entry) (w b : Actor) (d : Deed) → Allowed m past (entry b d) → AsksAt w (next_of m past w) (open_of past) → next_of m past w ≡ Some (act.Ask request.Qr) → NoOut past d
    → ((r : Request) → d ≡ deed.Begin r → IsEarly w (Some (begun b r))) → IsEarly w (open_of past) → IsEarly w (open_after b d (open_of past))
early_after m past w b (deed.Begin r) ok asks next none begins early = begins r refl
early_after m past w b (deed.Take v) ok asks next none begins early = tt
early_after m past w b (deed.Step h) ok asks next none begins early = early_host m past w (next_of m past w) h (open_of past) asks next (hold m past b (deed.Step h) ok).1.1.1.0 early
early_after m past w b (deed.Ctl effect.Calm) ok asks next none begins early = early
early_after m past w b (deed.Ctl effect.Taken) ok asks next none begins early = early_moved w (next_of m past w) (open_of past) asks next (unasked m past effect.Taken (open_of past) (hold m past b (deed.Ctl effect.Taken) ok).1.1.1.0 refl)
early_after m past w b (deed.Ctl effect.Put) ok asks next none begins early = early_moved w (next_of m past w) (open_of past) asks next (unasked m past effect.Put (open_of past) (hold m past b (deed.Ctl effect.Put) ok).1.1.1.0 refl)
early_after m past w b (deed.Ctl (effect.Out v)) ok asks next none begins early = early_put w (next_of m past w) v (open_of past) asks next (none v refl)
early_after m past w b _ ok asks next none begins early = early

-- ---- another's entry

other_before : (m : MachineData) (past : List Entry) (w b : Actor) (d : Deed) → LegalPast m past → Allowed m past (entry b d) → same_actor w b ≡ false → NoOut past d
    → IsBeforeOut w (plan_left m past w) (open_of past) → IsBeforeOut w (plan_left m past w) (open_after b d (open_of past))
other_before m past w b d legal ok apart none (inl is) = inl is
other_before m past w b d legal ok apart none (inr at) =
    inr (at.0, early_after m past w b d ok (kept m past w legal).1 (at_ask (plan_left m past w) at.0) none (λ r is own. absurd (both (same_actor w b) own apart)) at.1)

-- ---- its own entry

no_plain : (m : MachineData) (past : List Entry) (w : Actor) (d : Deed) → is_plain d ≡ true → is_next m past w d ≡ true → IsBeforeOut w (plan_left m past w) (open_of past) → ⊥
no_plain m past w d plain is (inl at) = lock_plain d plain (ap (λ x. asked_by x d) (sym (at_lock (plan_left m past w) at)) ∙ is)
no_plain m past w d plain is (inr at) = ask_plain request.Qr d plain (ap (λ x. asked_by x d) (sym (at_ask (plan_left m past w) at.0)) ∙ is)

no_end : (m : MachineData) (past : List Entry) (w : Actor) → next_of m past w ≡ None → IsBeforeOut w (plan_left m past w) (open_of past) → ⊥
no_end m past w none (inl at) = let lock = at_lock (plan_left m past w) at in let same = sym none ∙ lock in cc
no_end m past w none (inr at) = let ask = at_ask (plan_left m past w) at.0 in let same = sym none ∙ ask in cc

-- where the next act is Lock nothing of its own is open
none_own : (w : Actor) (x : Option Act) (oo : Option Open) → AsksAt w x oo → x ≡ Some act.Lock → IsEarly w oo
none_own w x None asks lock = tt
none_own w x (Some o) asks lock = λ own. absurd (lock_or_ask x o.asks lock (asks own))

-- nor is anything where there is no next act
none_left : (w : Actor) (x : Option Act) (oo : Option Open) → AsksAt w x oo → x ≡ None → IsEarly w oo
none_left w x None asks none = tt
none_left w x (Some o) asks none = λ own. absurd (let same = sym none ∙ asks own in cc)

-- a query job that starts has its Out before it
starts_before : (w : Actor) (glk : Bool) (oo : Option Open) → IsEarly w oo → IsBeforeOut w (query_plan glk) oo
starts_before w true oo early = inl refl
starts_before w false oo early = inr (inr refl, early)

take_late : (m : MachineData) (past : List Entry) (oo : Option Open) (o : Open) → oo ≡ Some o → o.asks ≡ request.Qr → o.made ≤ 1 → is_some (taking_in m past oo) ≡ true → ⊥
take_late m past oo o is asks few some = at (o.made == length (wire o.asks 0)) refl (subst (λ x. is_some (taking_in m past x) ≡ true) is some)
  where
    at : (b : Bool) → (o.made == length (wire o.asks 0)) ≡ b → is_some (if b then Some (carried o.asks (blank m past o)) else None) ≡ true → ⊥
    at true whole some = let e = eqb-true o.made (length (wire o.asks 0)) whole in let three = ap (λ r. length (wire r 0)) asks in omega arith
    at false other some = cc

abbrev RunsBefore : MachineData → List Entry → Actor → ℕ → Actor → Deed → Type 0
RunsBefore m past w j b d = (running_after d (running past w) ≡ Some j) × IsBeforeOut w (left_after m (jobs m past) d (plan_left m past w)) (open_after b d (open_of past))

own_before : (m : MachineData) (past : List Entry) (w : Actor) (d : Deed) (j : ℕ) → LegalPast m past → Allowed m past (entry w d) → Follows d (stage w past) → running past w ≡ Some j → NoOut past d → IsBeforeOut w (plan_left m past w) (open_of past) → RunsBefore m past w j w d
own_before m past w deed.Own j legal ok f runs none (inl at) =
    (runs, inr (inl (ap (plan_after 0) at), none_own w (next_of m past w) (open_of past) (kept m past w legal).1 (at_lock (plan_left m past w) at)))
own_before m past w deed.Own j legal ok f runs none (inr at) =
    absurd (lock_or_ask (next_of m past w) request.Qr ((kept m past w legal).0 (ap is_trying_at f)) (at_ask (plan_left m past w) at.0))
own_before m past w deed.Disown j legal ok f runs none before = absurd (no_plain m past w deed.Disown refl (hold m past w deed.Disown ok).1.1.1.0 before)
own_before m past w (deed.Read c v) j legal ok f runs none before = absurd (no_plain m past w (deed.Read c v) refl (hold m past w (deed.Read c v) ok).1.1.0 before)
own_before m past w (deed.Write c v) j legal ok f runs none before = absurd (no_plain m past w (deed.Write c v) refl (hold m past w (deed.Write c v) ok).1.1.0 before)
own_before m past w (deed.Push q) j legal ok f runs none before = absurd (no_plain m past w (deed.Push q) refl (hold m past w (deed.Push q) ok).1.1.0 before)
own_before m past w (deed.Raise n) j legal ok f runs none before = absurd (no_plain m past w (deed.Raise n) refl (hold m past w (deed.Raise n) ok).1.1.0 before)
own_before m past w (deed.Assert n) j legal ok f runs none before = absurd (no_plain m past w (deed.Assert n) refl (hold m past w (deed.Assert n) ok).1.1.0 before)
own_before m past w (deed.Drop n) j legal ok f runs none before = absurd (no_plain m past w (deed.Drop n) refl (hold m past w (deed.Drop n) ok).1.1.0 before)
own_before m past w (deed.Notify x v) j legal ok f runs none before = absurd (no_plain m past w (deed.Notify x v) refl (hold m past w (deed.Notify x v) ok).1.1.0 before)
own_before m past w (deed.Up n) j legal ok f runs none before = absurd (no_plain m past w (deed.Up n) refl (hold m past w (deed.Up n) ok).1.1.0 before)
own_before m past w (deed.Down n) j legal ok f runs none before = absurd (no_plain m past w (deed.Down n) refl (hold m past w (deed.Down n) ok).1.1.0 before)
own_before m past w (deed.Take v) j legal ok f runs none before =
    let h = hold m past w (deed.Take v) ok in
    let o = opener_asks w (next_of m past w) (open_of past) h.1.1.0 (kept m past w legal).1 in
    absurd (late o before)
  where
    late : (o : (o : Open) × (open_of past ≡ Some o) × (same_actor w o.by ≡ true) × (next_of m past w ≡ Some (act.Ask o.asks))) → IsBeforeOut w (plan_left m past w) (open_of past) → ⊥
    late o (inl at) = lock_or_ask (next_of m past w) o.0.asks (at_lock (plan_left m past w) at) o.3
    late o (inr at) = take_late m past (open_of past) o.0 o.1 (same_ask (next_of m past w) o.0.asks request.Qr o.3 (at_ask (plan_left m past w) at.0)) ((subst (IsEarly w) o.1 at.1) o.2) (hold m past w (deed.Take v) ok).1.1.1.0
own_before m past w (deed.Start i) j legal ok f runs none before = absurd (let free = start_free m past w i (hold m past w (deed.Start i) ok).1.1.0 in let same = sym free ∙ runs in cc)
own_before m past w (deed.Finish i) j legal ok f runs none before = absurd (no_end m past w (is_none-none (next_of m past w) (hold m past w (deed.Finish i) ok).1.1.1.0) before)
own_before m past w (deed.Begin r) j legal ok f runs none (inl at) = absurd (not_lock (next_of m past w) (at_lock (plan_left m past w) at) (hold m past w (deed.Begin r) ok).1.1.0)
  where
    not_lock : (x : Option Act) → x ≡ Some act.Lock → asked_by x (deed.Begin r) ≡ true → ⊥
    not_lock x lock is = let no_ask = ap (λ y. asked_by y (deed.Begin r)) (sym lock) ∙ is in cc
own_before m past w (deed.Begin r) j legal ok f runs none (inr at) = (runs, inr (at.0, λ own. omega arith))
own_before m past w d j legal ok f runs none (inl at) = (runs, inl at)
own_before m past w d j legal ok f runs none (inr at) = (runs, inr (at.0, early_after m past w w d ok (kept m past w legal).1 (at_ask (plan_left m past w) at.0) none (λ r is. cc) at.1))

-- ---- jobs

keep_job : (js : List Job) (o : Option Job) (j : ℕ) (x : Job) → slice_get js j ≡ Some x → slice_get (and_job js o) j ≡ Some x
keep_job js None j x at = at
keep_job js (Some y) j x at = push js j at
  where
    push : (js : List Job) (j : ℕ) → slice_get js j ≡ Some x → slice_get (js ++ y ∷ []) j ≡ Some x
    push [] j at = cc
    push (z ∷ js) zero at = at
    push (z ∷ js) (suc j) at = push js j at

last_job : (js : List Job) (y : Job) → slice_get (js ++ y ∷ []) (length js) ≡ Some y
last_job [] y = refl
last_job (x ∷ js) y = last_job js y

-- a query that waits for its start
keep_unstarted : (m : MachineData) (past : List Entry) (b : Actor) (d : Deed) (j : ℕ) → LegalPast m past → Allowed m past (entry b d) → slice_get (jobs m past) j ≡ Some job.Query → starts past ≤ j → IsAsked m (entry b d ∷ past)
keep_unstarted m past b (deed.Start i) j legal ok query waits = at (i == j) refl (start_parts m past b i (hold m past b (deed.Start i) ok).1.1.0)
  where
    early : IsEarly b (open_of past)
    early =
        let k = kept m past b legal in
        let h = hold m past b (deed.Start i) ok in
        none_left b (next_of m past b) (open_of past) k.1 (ap next_act (k.2 h.0 (start_free m past b i h.1.1.0)))

    at : (x : Bool) → (i == j) ≡ x → (i ≡ starts past) × (starts past < length (jobs m past)) → IsAsked m (entry b (deed.Start i) ∷ past)
    at true same p = (j, query, inr (b, rw (same_self b) (ap Some (eqb-true i j same)), rw (same_self b) (subst (λ p. IsBeforeOut b p (open_of past)) (sym (ap (λ k. job_plan m (slice_get (jobs m past) k)) (eqb-true i j same) ∙ ap (job_plan m) query)) (starts_before b (glk m) (open_of past) early))))
    at false apart p = (j, query, inl (let ne = eqb-false i j apart in let is = p.0 in grind (arith, ne, is, waits)))
keep_unstarted m past b d j legal ok query waits = (j, keep_job (jobs m past) (made m past (entry b d)) j job.Query query, inl waits)

-- a query that runs
keep_running : (m : MachineData) (past : List Entry) (b w : Actor) (d : Deed) (j : ℕ) → LegalPast m past → Allowed m past (entry b d) → NoOut past d → slice_get (jobs m past) j ≡ Some job.Query → running past w ≡ Some j → IsBeforeOut w (plan_left m past w) (open_of past) → IsAsked m (entry b d ∷ past)
keep_running m past b w d j legal ok none query runs before = at (same_actor w b) refl
  where
    kept_query : slice_get (jobs m (entry b d ∷ past)) j ≡ Some job.Query
    kept_query = keep_job (jobs m past) (made m past (entry b d)) j job.Query query

    mine : w ≡ b → RunsBefore m past w j b d
    mine same = subst (λ x. Allowed m past (entry x d) → RunsBefore m past w j x d) same (λ may. own_before m past w d j legal may (follows_own m past w (entry w d) refl legal may) runs none before) ok

    at : (x : Bool) → same_actor w b ≡ x → IsAsked m (entry b d ∷ past)
    at true same = let all = mine (same_actor-true w b same) in (j, kept_query, inr (w, rw same all.0, rw same all.1))
    at false apart = (j, kept_query, inr (w, rw apart runs, rw apart (other_before m past w b d legal ok apart none before)))

keep_asked : (m : MachineData) (past : List Entry) (b : Actor) (d : Deed) → LegalPast m past → Allowed m past (entry b d) → NoOut past d → IsAsked m past → IsAsked m (entry b d ∷ past)
keep_asked m past b d legal ok none (j, query, inl waits) = keep_unstarted m past b d j legal ok query waits
keep_asked m past b d legal ok none (j, query, inr r) = keep_running m past b r.0 d j legal ok none query r.1 r.2

-- ---- the status of the controller's event

-- no touch but a claim of it clears the status
set_stays : (n : Event) (x : Event) (t : Touch) → (t ≡ touch.Claim → same_event x n ≡ false) → next_status n (does t x) true ≡ true
set_stays n x touch.Claim free = ap (λ b. cond b false true) (free refl)
set_stays n x touch.Raise free = either (same_event x n)
  where
    either : (b : Bool) → cond b true true ≡ true
    either true = refl
    either false = refl
set_stays n x touch.Assert free = either (same_event x n)
  where
    either : (b : Bool) → cond b true true ≡ true
    either true = refl
    either false = refl
set_stays n x t free = either (same_event x n)
  where
    either : (b : Bool) → cond b true true ≡ true
    either true = refl
    either false = refl

set_stays_at : (n : Event) (o : Option Event) (t : Touch) → (t ≡ touch.Claim → ⊥) → next_status n (does_to t o) true ≡ true
set_stays_at n None t free = refl
set_stays_at n (Some x) t free = set_stays n x t (λ is. absurd (free is))

set_if : (b : Bool) (n : Event) (o : Option Touched) → next_status n o true ≡ true → next_status n (if b then o else None) true ≡ true
set_if true n o stays = stays
set_if false n o stays = refl

-- ... so no entry but a claim of it does
stays : (m : MachineData) (past : List Entry) (n : Event) (b : Actor) (d : Deed) → ((x : Event) → d ≡ deed.Claim x → same_event x n ≡ false) → next_status n (touch_of m (open_of past) (codes past) (jobs m past) b d) true ≡ true
stays m past n b (deed.Raise x) free = set_stays n x touch.Raise (λ is. cc)
stays m past n b (deed.Latch x) free = set_stays n x touch.Raise (λ is. cc)
stays m past n b (deed.Assert x) free = set_stays n x touch.Assert (λ is. cc)
stays m past n b (deed.Drop x) free = set_stays n x touch.Drop (λ is. cc)
stays m past n b (deed.Claim x) free = set_stays n x touch.Claim (λ is. free x refl)
stays m past n b (deed.Finish j) free = set_stays_at n (event_ended (jobs m past) j) touch.Finish (λ is. cc)
stays m past n b (deed.Up x) free = set_stays n x touch.Up (λ is. cc)
stays m past n b (deed.Down x) free = set_stays n x touch.Down (λ is. cc)
stays m past n b (deed.Leave true) free = set_if (stands_on side.Firmware b) n (does touch.Raise gbl) (set_stays n gbl touch.Raise (λ is. cc))
stays m past n b (deed.Leave false) free = refl
stays m past n b (deed.Push q) free = set_stays_at n (own_event m) touch.Raise (λ is. cc)
stays m past n b (deed.Ctl e) free = set_if (is_loud m (open_of past) (codes past) e) n (does_to touch.Raise (own_event m)) (set_stays_at n (own_event m) touch.Raise (λ is. cc))
stays m past n b _ free = refl

next_is : (m : MachineData) (past : List Entry) (n : Event) (b : Actor) (d : Deed) → IsOwn m n → status m (entry b d ∷ past) n ≡ next_status n (touch_of m (open_of past) (codes past) (jobs m past) b d) (status m past n)
next_is m past n b d own = status_next n (touched m past (entry b d)) (events.slot m past n) (ap is_level (slot_kind m past n) ∙ own.edge)

keep_status : (m : MachineData) (past : List Entry) (n : Event) (b : Actor) (d : Deed) → IsMachine m → own_event m ≡ Some n → ((x : Event) → d ≡ deed.Claim x → same_event x n ≡ false) → status m past n ≡ true → OwnHasStatus m (entry b d ∷ past)
keep_status m past n b d ok named free set =
    (n, named, next_is m past n b d (own_is m n ok named) ∙ (ap (next_status n (touch_of m (open_of past) (codes past) (jobs m past) b d)) set ∙ stays m past n b d free))

-- an entry that raises the controller's event
now_set : (m : MachineData) (past : List Entry) (b : Actor) (d : Deed) → IsMachine m → is_some (own_event m) ≡ true → touch_of m (open_of past) (codes past) (jobs m past) b d ≡ does_to touch.Raise (own_event m) → OwnHasStatus m (entry b d ∷ past)
now_set m past b d ok some raises = at (own_event m) refl some
  where
    at : (o : Option Event) → own_event m ≡ o → is_some o ≡ true → OwnHasStatus m (entry b d ∷ past)
    at None named some = cc
    at (Some n) named some =
        (n, named, next_is m past n b d (own_is m n ok named) ∙ (ap (λ t. next_status n t (status m past n)) (raises ∙ ap (does_to touch.Raise) named) ∙ ap (λ x. cond x true (status m past n)) (same_event-self n)))

-- ---- each entry

keep : (m : MachineData) → IsMachine m → (past : List Entry) (b : Actor) (d : Deed) → LegalPast m past → Allowed m past (entry b d) → codes (entry b d ∷ past) ≡ codes past → NoOut past d → ((x n : Event) → d ≡ deed.Claim x → same_event x n ≡ false) → CodesSound m past → CodesSound m (entry b d ∷ past)
keep m ok past b d legal may same none unclaimed before = λ some. elim (before (sym (ap is_empty same) ∙ some)) [
  | inl on ↦ inl (keep_status m past on.0 b d ok on.1 (λ x is. unclaimed x on.0 is) on.2)
  | inr asks ↦ inr (keep_asked m past b d legal may none asks)
]

pub few_starts : (m : MachineData) (past : List Entry) → LegalPast m past → starts past ≤ length (jobs m past)
few_starts m [] legal = omega arith
few_starts m (e ∷ past) legal = at e.actor e.deed legal.0 (few_starts m past legal.1)
  where
    more : (js : List Job) (o : Option Job) → length js ≤ length (and_job js o)
    more js None = omega arith
    more js (Some y) = push js
      where
        push : (js : List Job) → length js ≤ length (js ++ y ∷ [])
        push [] = omega arith
        push (x ∷ js) = let rest = push js in omega arith

    at : (b : Actor) (d : Deed) → Allowed m past (entry b d) → starts past ≤ length (jobs m past) → starts (entry b d ∷ past) ≤ length (jobs m (entry b d ∷ past))
    at b (deed.Start j) ok rest = let p = start_parts m past b j (hold m past b (deed.Start j) ok).1.1.0 in omega (arith, p.1)
    at b d ok rest = let grown = more (jobs m past) (made m past (entry b d)) in omega arith

push_some : (m : MachineData) → IsMachine m → (past : List Entry) (b : Actor) (q : ℕ) → LegalPast m past → Allowed m past (entry b (deed.Push q)) → is_some (own_event m) ≡ true
push_some m ok past b q legal may =
    let next = some_asked (next_of m past b) (deed.Push q) (hold m past b (deed.Push q) may).1.1.0 in
    at next.0 next.1 next.2
  where
    at : (x : Act) → next_of m past b ≡ Some x → asked x (deed.Push q) ≡ true → is_some (own_event m) ≡ true
    at (act.Push p) next is = (and_parts (is_firmware m b) (is_some (own_event m)) (next_suits m ok past b (act.Push p) legal next).1).1
    at _ next is = cc

ec_some : (m : MachineData) (past : List Entry) (b : Actor) (e : Effect) → Allowed m past (entry b (deed.Ctl e)) → is_some (own_event m) ≡ true
ec_some m past b e may = at b (hold m past b (deed.Ctl e) may).0
  where
    some : (o : Option ControllerDesc) → is_some o ≡ true → is_some (event_of_controller o) ≡ true
    some None is = cc
    some (Some d) is = refl

    at : (b : Actor) → is_ec m b ≡ true → is_some (own_event m) ≡ true
    at actor.Ec is = some m.controller is
    at _ is = cc

-- an Out of a query that leaves codes raises the event
out_raises : (m : MachineData) (past : List Entry) (b : Actor) (v : ℕ) → asks_code (open_of past) ≡ true → is_empty (drop 1 (codes past)) ≡ false → touch_of m (open_of past) (codes past) (jobs m past) b (deed.Ctl (effect.Out v)) ≡ does_to touch.Raise (own_event m)
out_raises m past b v asks some = ap (λ x. if x then does_to touch.Raise (own_event m) else None) (or_right (not (is_silent m.controller)) (asks_code (open_of past) && nat_lt 1 (length (codes past))) (ap (λ x. x && nat_lt 1 (length (codes past))) asks ∙ two (codes past) some))
  where
    two : (queue : List ℕ) → is_empty (drop 1 queue) ≡ false → nat_lt 1 (length queue) ≡ true
    two [] some = cc
    two (q ∷ []) some = cc
    two (q ∷ r ∷ queue) some = lt-ltb 1 (length (q ∷ r ∷ queue)) (omega arith)

out_codes : (m : MachineData) → IsMachine m → (past : List Entry) (b : Actor) (v : ℕ) → LegalPast m past → Allowed m past (entry b (deed.Ctl (effect.Out v))) → CodesSound m past → CodesSound m (entry b (deed.Ctl (effect.Out v)) ∷ past)
out_codes m ok past b v legal may before = at (asks_code (open_of past)) refl
  where
    same_out : (x : ℕ) → deed.Ctl (effect.Out v) ≡ deed.Ctl (effect.Out x) → asks_code (open_of past) ≡ false → asks_code (open_of past) ≡ false
    same_out x is none = none

    at : (x : Bool) → asks_code (open_of past) ≡ x → CodesSound m (entry b (deed.Ctl (effect.Out v)) ∷ past)
    at true asks = λ some. inl (now_set m past b (deed.Ctl (effect.Out v)) ok (ec_some m past b (effect.Out v) may) (out_raises m past b v asks (ap (λ x. is_empty (cond x (drop 1 (codes past)) (codes past))) (sym asks) ∙ some)))
    at false none = keep m ok past b (deed.Ctl (effect.Out v)) legal may (ap (λ x. cond x (drop 1 (codes past)) (codes past)) none) (λ x is. none) (λ x n is. cc) before

claim_codes : (m : MachineData) → IsMachine m → (past : List Entry) (b : Actor) (x : Event) → LegalPast m past → Allowed m past (entry b (deed.Claim x)) → CodesSound m past → CodesSound m (entry b (deed.Claim x) ∷ past)
claim_codes m ok past b x legal may before = λ some. elim (before some) [
  | inl on ↦ at on.0 on.1 on.2 (same_event x on.0) refl some
  | inr asks ↦ inr (keep_asked m past b (deed.Claim x) legal may (λ v is. cc) asks)
]
  where
    query_is : (n : Event) → own_event m ≡ Some n → is_empty (codes past) ≡ false → claimed_job m (codes past) n ≡ Some job.Query
    query_is n named some = rw ((own_is m n ok named).unlisted, named, same_event-self n, some) refl

    at : (n : Event) → own_event m ≡ Some n → status m past n ≡ true → (y : Bool) → same_event x n ≡ y → is_empty (codes past) ≡ false → OwnHasStatus m (entry b (deed.Claim x) ∷ past) ⊎ IsAsked m (entry b (deed.Claim x) ∷ past)
    at n named set true same some =
        let makes : claimed_job m (codes past) x ≡ Some job.Query = ap (claimed_job m (codes past)) (same_event-true x n same) ∙ query_is n named some in
        inr (length (jobs m past), ap (λ o. slice_get (and_job (jobs m past) o) (length (jobs m past))) makes ∙ last_job (jobs m past) job.Query, inl (few_starts m past legal))
    at n named set false other some = inl (keep_status m past n b (deed.Claim x) ok named (λ z is. ap (λ y. same_event y n) (claim_is x z is) ∙ other) set)
      where
        claim_is : (x z : Event) → deed.Claim x ≡ deed.Claim z → z ≡ x
        claim_is x z is = cc

step : (m : MachineData) → IsMachine m → (past : List Entry) (b : Actor) (d : Deed) → LegalPast m past → Allowed m past (entry b d) → CodesSound m past → CodesSound m (entry b d ∷ past)
step m ok past b (deed.Push q) legal may before = λ some. inl (now_set m past b (deed.Push q) ok (push_some m ok past b q legal may) refl)
step m ok past b (deed.Ctl (effect.Out v)) legal may before = out_codes m ok past b v legal may before
step m ok past b (deed.Claim x) legal may before = claim_codes m ok past b x legal may before
step m ok past b d legal may before = keep m ok past b d legal may refl (λ v is. cc) (λ x n is. cc) before

pub codes_sound : (m : MachineData) → IsMachine m → (past : List Entry) → LegalPast m past → CodesSound m past
codes_sound m ok [] legal = λ some. absurd (both false (sym some) refl)
codes_sound m ok (e ∷ past) legal = step m ok past e.actor e.deed legal.1 legal.0 (codes_sound m ok past legal.1)
