-- Query jobs are no more than two a push and one for what else sets the status of the controller's event.
use Rattle.std.proofs.Common.{ℕ, zero, suc, ◌+◌, ◌*◌, ◌≤◌, ◌≡◌, ◌==◌, inl, inr, Bool, true, false, not, ◌&&◌, List, [], ◌∷◌, ◌++◌, length, drop, slice_get, Option, Some, None, if◌then◌else◌, refl, sym, ap, ◌∙◌, subst, arith}
use Rattle.std.proofs.lemmas.Bool.{cases_Bool}
use Rattle.acpi_regs.specs.declared.actor.Actor.{Actor}
use Rattle.acpi_regs.specs.declared.actor.Side.TheVariants as side
use Rattle.acpi_regs.specs.declared.entry.Deed.{Deed}
use Rattle.acpi_regs.specs.declared.entry.Deed.TheVariants as deed
use Rattle.acpi_regs.specs.declared.entry.Effect.{Effect}
use Rattle.acpi_regs.specs.declared.entry.Effect.TheVariants as effect
use Rattle.acpi_regs.specs.declared.entry.Entry.{Entry}
use Rattle.acpi_regs.specs.declared.entry.Request.{Request}
use Rattle.acpi_regs.specs.declared.entry.Request.TheVariants as request
use Rattle.acpi_regs.specs.declared.event.Event.{Event}
use Rattle.acpi_regs.specs.Actor.{stands_on}
use Rattle.acpi_regs.specs.Event.{gbl, same_event}
use Rattle.ec_driver.specs.declared.wire.Move.TheVariants as move
use Rattle.ec_driver.specs.Wire.{wire}
use Rattle.event_chip.specs.declared.state.Slot.{Slot}
use Rattle.event_chip.specs.declared.state.Touch.{Touch}
use Rattle.event_chip.specs.declared.state.Touch.TheVariants as touch
use Rattle.event_chip.specs.Chip as chip
use Rattle.event_chip.specs.State.{is_level}
use Rattle.machine_desc.specs.Kept.{own_event}
use Rattle.machine_desc.specs.Machine.{MachineData}
use Rattle.machine_history.specs.declared.parts.Job.{Job}
use Rattle.machine_history.specs.declared.parts.Job.TheVariants as job
use Rattle.machine_history.specs.declared.parts.Touched.{Touched}
use Rattle.machine_history.specs.Events.{does, does_to, slot, slot_after, status, touch_of, touched}
use Rattle.machine_history.specs.Jobs.{claimed_job, event_ended, is_empty, jobs, made, made_by, taken_job}
use Rattle.machine_history.specs.Legal.{Allowed, LegalPast, is_ctl_move, same_effect}
use Rattle.machine_history.specs.Machine.{is_own, kind_of, lists}
use Rattle.machine_history.specs.Values.{blank, next_in}
use Rattle.machine_history.specs.Wire.{Open, asks_code, codes, codes_after, is_query, open_of}
use Rattle.machine_history.proofs.Claims.{claimable, is_push, latch_in, starts_fresh}
use Rattle.machine_history.proofs.Known.{hold, same_event-self, same_event-swap, same_event-true}
use Rattle.machine_history.proofs.Prices.{charge, lifts}
use Rattle.machine_history.proofs.Totals.{Count, bounded, one, one_small, total}
use Rattle.machine_history.proofs.Wires.{ctl_is, is_move}

-- ---- the kind of an event stays

pub kind_after : (n : Event) (o : Option Touched) (s : Slot) → (slot_after n o s).kind ≡ s.kind
kind_after n None s = refl
kind_after n (Some t) s = at (same_event t.event n)
  where
    at : (b : Bool) → (if b then chip.touched t.by s else s).kind ≡ s.kind
    at true = refl
    at false = refl

pub slot_kind : (m : MachineData) (past : List Entry) (n : Event) → (slot m past n).kind ≡ kind_of m n
slot_kind m [] n = refl
slot_kind m (e ∷ past) n = kind_after n (touched m past e) (slot m past n) ∙ slot_kind m past n

-- ---- the status of an event that is not level

abbrev pub status_by : Touch → Bool → Bool
status_by touch.Raise old = true
status_by touch.Assert old = true
status_by touch.Claim old = false
status_by _ old = old

abbrev pub next_status : Event → Option Touched → Bool → Bool
next_status n None old = old
next_status n (Some t) old = if same_event t.event n then status_by t.by old else old

pub status_touch : (t : Touch) (s : Slot) → is_level s.kind ≡ false → (chip.touched t s).state.status ≡ status_by t s.state.status
status_touch touch.Raise s edge = refl
status_touch touch.Assert s edge = refl
status_touch touch.Drop s edge = refl
status_touch touch.Claim s edge = rw edge refl
status_touch touch.Finish s edge = rw edge refl
status_touch touch.Up s edge = refl
status_touch touch.Down s edge = refl

pub status_next : (n : Event) (o : Option Touched) (s : Slot) → is_level s.kind ≡ false → (slot_after n o s).state.status ≡ next_status n o s.state.status
status_next n None s edge = refl
status_next n (Some t) s edge = at (same_event t.event n)
  where
    at : (b : Bool) → (if b then chip.touched t.by s else s).state.status ≡ (if b then status_by t.by s.state.status else s.state.status)
    at true = status_touch t.by s edge
    at false = refl

-- ---- the query jobs that may still come

abbrev pub few : Bool → List ℕ → ℕ
few s queue = one (s && not (is_empty queue)) + length queue

pub few_more : (s t : Bool) (queue : List ℕ) → few t queue ≤ 1 + few s queue
few_more s t queue = let most = one_small (t && not (is_empty queue)) in omega arith

pub length-more : (queue : List ℕ) (q : ℕ) → length (queue ++ q ∷ []) ≡ length queue + 1
length-more [] q = refl
length-more (x ∷ queue) q = let before = length-more queue q in omega arith

pub few_pushed : (s t : Bool) (queue : List ℕ) (q : ℕ) → few t (queue ++ q ∷ []) ≤ 2 + few s queue
few_pushed s t queue q = let most = one_small (t && not (is_empty (queue ++ q ∷ []))) in let long = length-more queue q in omega arith

pub few_given : (s t : Bool) (queue : List ℕ) → few t (drop 1 queue) ≤ few s queue
few_given s true [] = omega arith
few_given s false [] = omega arith
few_given s t (q ∷ queue) = let most = one_small (t && not (is_empty queue)) in omega arith

pub few_claimed : (s : Bool) (queue : List ℕ) → s ≡ true → one (not (is_empty queue)) + few false queue ≤ few s queue
few_claimed s queue is = rw is (omega arith)

pub few_quiet : (b s : Bool) (queue : List ℕ) → few (if b then s else s) queue ≤ few s queue
few_quiet true s queue = omega arith
few_quiet false s queue = omega arith

pub few_set : (b s : Bool) (queue : List ℕ) → few (if b then true else s) queue ≤ one b + few s queue
few_set true s queue = few_more s true queue
few_set false s queue = omega arith

pub finish_quiet : (n : Event) (o : Option Event) (s : Bool) (queue : List ℕ) → few (next_status n (does_to touch.Finish o) s) queue ≤ few s queue
finish_quiet n None s queue = omega arith
finish_quiet n (Some x) s queue = few_quiet (same_event x n) s queue

pub leave_quiet : (n : Event) (b s : Bool) (queue : List ℕ) → same_event gbl n ≡ false → few (next_status n (if b then does touch.Raise gbl else None) s) queue ≤ few s queue
leave_quiet n true s queue other = rw other (omega arith)
leave_quiet n false s queue other = omega arith

-- ---- a query has one move of the controller, an Out

pub is_qr_request : (r : Request) → is_query r ≡ true → r ≡ request.Qr
is_qr_request request.Qr is = refl
is_qr_request (request.Rd x) is = cc
is_qr_request (request.Wr x v) is = cc
is_qr_request request.Be is = cc
is_qr_request request.Bd is = cc

pub qr_move : (v k : ℕ) (f : Effect) → slice_get (wire request.Qr v) k ≡ Some (move.Ctl f) → (k ≡ 1) × (f ≡ effect.Out v)
qr_move v zero f at = cc
qr_move v (suc zero) f at = (refl, cc)
qr_move v (suc (suc zero)) f at = cc
qr_move v (suc (suc (suc k))) f at = cc

abbrev pub is_out : Effect → Bool
is_out (effect.Out v) = true
is_out _ = false

pub out_same : (e f : Effect) → same_effect e f ≡ true → is_out f ≡ true → is_out e ≡ true
out_same (effect.Out v) (effect.Out w) same is = refl
out_same effect.Taken (effect.Out w) same is = cc
out_same effect.Put (effect.Out w) same is = cc
out_same effect.Calm (effect.Out w) same is = cc
out_same e effect.Taken same is = cc
out_same e effect.Put same is = cc
out_same e effect.Calm same is = cc

pub query_out : (m : MachineData) (past : List Entry) (e : Effect) (oo : Option Open) → is_ctl_move e (next_in m past oo) ≡ true → asks_code oo ≡ true → is_out e ≡ true
query_out m past e None is asks = cc
query_out m past e (Some o) is asks =
    let next = ctl_is e (next_in m past (Some o)) is in
    let qr = is_qr_request o.asks asks in
    let at = subst (λ r. slice_get (wire r (blank m past o)) o.made ≡ Some (move.Ctl next.0)) qr next.1 in
    out_same e next.0 next.2 (ap is_out (qr_move (blank m past o) o.made next.0 at).1)

-- ---- one entry

-- the event is the controller's, and neither listed nor the lock's
pub record IsOwn (m : MachineData) (n : Event) : Type 0 where
  pub named : own_event m ≡ Some n
  pub unlisted : lists m n ≡ false
  pub edge : is_level (kind_of m n) ≡ false
  pub not_gbl : same_event gbl n ≡ false

abbrev pub is_query_job : Option Job → ℕ
is_query_job (Some job.Query) = 1
is_query_job _ = 0

abbrev pub queries_in : MachineData → Count
queries_in m past e = is_query_job (made m past e)

-- what allows query jobs
abbrev pub query_allows : Event → Option Open → Deed → ℕ
query_allows n o d = (charge (lifts n) d + latch_in n d) + (2 * is_push d + is_move o d)

abbrev pub query_allows_in : Event → Count
query_allows_in n past e = query_allows n (open_of past) e.deed

pub query_if : (empty : Bool) → is_query_job (if not empty then Some job.Query else None) ≡ one (not empty)
query_if true = refl
query_if false = refl

pub claim_query : (m : MachineData) (n : Event) (queue : List ℕ) → IsOwn m n → is_query_job (claimed_job m queue n) ≡ one (not (is_empty queue))
claim_query m n queue own = let is : is_own m n ≡ true = rw own.named (same_event-self n) in rw (own.unlisted, is) (query_if (is_empty queue))

pub listed_none : (b : Bool) (x : Event) → is_query_job (if b then Some (job.Event x) else None) ≡ 0
listed_none true x = refl
listed_none false x = refl

pub claim_other : (m : MachineData) (n x : Event) (queue : List ℕ) → IsOwn m n → same_event x n ≡ false → is_query_job (claimed_job m queue x) ≡ 0
claim_other m n x queue own other =
    let is : is_own m x ≡ false = rw own.named (same_event-swap n x ∙ other) in
    rw is (listed_none (lists m x) x)

pub take_query : (o : Option Open) (v : Option ℕ) → is_query_job (taken_job o v) ≡ 0
take_query o None = refl
take_query o (Some q) = at (asks_code o && not (q == 0))
  where
    at : (b : Bool) → is_query_job (if b then Some (job.Code q) else None) ≡ 0
    at true = refl
    at false = refl

pub claim_step : (m : MachineData) (past : List Entry) (n x : Event) (a : Actor) (b : Bool) → same_event x n ≡ b → IsOwn m n → Allowed m past (record { actor = a; deed = deed.Claim x })
    → is_query_job (claimed_job m (codes past) x) + few (if b then false else status m past n) (codes past) ≤ few (status m past n) (codes past)
claim_step m past n x a true same own ok =
    let is = same_event-true x n same in
    let job : is_query_job (claimed_job m (codes past) x) ≡ one (not (is_empty (codes past))) = ap (λ y. is_query_job (claimed_job m (codes past) y)) is ∙ claim_query m n (codes past) own in
    let raised : status m past n ≡ true = ap (status m past) (sym is) ∙ (claimable (slot m past x).kind (slot m past x).state (hold m past a (deed.Claim x) ok).1.1.0).0 in
    let all = few_claimed (status m past n) (codes past) raised in
    omega arith
claim_step m past n x a false other own ok = let none = claim_other m n x (codes past) own other in omega arith

pub few_move : (asks : Bool) (s t : Bool) (queue : List ℕ) → asks ≡ false → few t queue ≤ (if asks then 0 else 1) + few s queue
few_move asks s t queue is = rw is (few_more s t queue)

pub few_out : (asks : Bool) (s t : Bool) (queue : List ℕ) → few t (if asks then drop 1 queue else queue) ≤ (if asks then 0 else 1) + few s queue
few_out true s t queue = let most = few_given s t queue in omega arith
few_out false s t queue = few_more s t queue

pub unasked : (m : MachineData) (past : List Entry) (e : Effect) (oo : Option Open) → is_ctl_move e (next_in m past oo) ≡ true → is_out e ≡ false → asks_code oo ≡ false
unasked m past e oo is out = elim (cases_Bool (asks_code oo)) [ inl asks ↦ (let no_out = query_out m past e oo is asks in cc) | inr other ↦ other ]

pub few_step : (m : MachineData) (past : List Entry) (n : Event) (a : Actor) (d : Deed) → IsOwn m n → Allowed m past (record { actor = a; deed = d })
    → is_query_job (made_by m (open_of past) (codes past) d) + few (next_status n (touch_of m (open_of past) (codes past) (jobs m past) a d) (status m past n)) (codes_after (open_of past) d (codes past)) ≤ query_allows n (open_of past) d + few (status m past n) (codes past)
few_step m past n a (deed.Raise x) own ok =
    let most = few_set (same_event x n) (status m past n) (codes past) in
    let swap : one (same_event x n) ≡ one (same_event n x) = ap one (same_event-swap x n) in
    omega arith
few_step m past n a (deed.Latch x) own ok = let most = few_set (same_event x n) (status m past n) (codes past) in omega arith
few_step m past n a (deed.Assert x) own ok =
    let most = few_set (same_event x n) (status m past n) (codes past) in
    let swap : one (same_event x n) ≡ one (same_event n x) = ap one (same_event-swap x n) in
    omega arith
few_step m past n a (deed.Drop x) own ok = let most = few_quiet (same_event x n) (status m past n) (codes past) in omega arith
few_step m past n a (deed.Up x) own ok = let most = few_quiet (same_event x n) (status m past n) (codes past) in omega arith
few_step m past n a (deed.Down x) own ok = let most = few_quiet (same_event x n) (status m past n) (codes past) in omega arith
few_step m past n a (deed.Claim x) own ok = let most = claim_step m past n x a (same_event x n) refl own ok in omega arith
few_step m past n a (deed.Finish j) own ok = let most = finish_quiet n (event_ended (jobs m past) j) (status m past n) (codes past) in omega arith
few_step m past n a (deed.Leave true) own ok = let most = leave_quiet n (stands_on side.Firmware a) (status m past n) (codes past) own.not_gbl in omega arith
few_step m past n a (deed.Push q) own ok =
    let most = few_pushed (status m past n) (next_status n (does_to touch.Raise (own_event m)) (status m past n)) (codes past) q in
    omega arith
few_step m past n a (deed.Ctl effect.Calm) own ok = omega arith
few_step m past n a (deed.Ctl effect.Taken) own ok =
    let asks = unasked m past effect.Taken (open_of past) (hold m past a (deed.Ctl effect.Taken) ok).1.1.1.0 refl in
    let most = few_move (asks_code (open_of past)) (status m past n) (next_status n (touch_of m (open_of past) (codes past) (jobs m past) a (deed.Ctl effect.Taken)) (status m past n)) (codes past) asks in
    omega arith
few_step m past n a (deed.Ctl effect.Put) own ok =
    let asks = unasked m past effect.Put (open_of past) (hold m past a (deed.Ctl effect.Put) ok).1.1.1.0 refl in
    let most = few_move (asks_code (open_of past)) (status m past n) (next_status n (touch_of m (open_of past) (codes past) (jobs m past) a (deed.Ctl effect.Put)) (status m past n)) (codes past) asks in
    omega arith
few_step m past n a (deed.Ctl (effect.Out v)) own ok =
    let most = few_out (asks_code (open_of past)) (status m past n) (next_status n (touch_of m (open_of past) (codes past) (jobs m past) a (deed.Ctl (effect.Out v))) (status m past n)) (codes past) in
    omega arith
few_step m past n a (deed.Take v) own ok = let none = take_query (open_of past) v in omega arith
few_step m past n a _ own ok = omega arith

pub first_few : (m : MachineData) (n : Event) → few (status m [] n) [] ≡ 0
first_few m n = let f = starts_fresh m n in let is : status m [] n ≡ false = ap (λ (s : Rattle.event_chip.specs.declared.state.EventState.EventState). s.status) f.1 in rw is refl

pub few_queries : (m : MachineData) (n : Event) → IsOwn m n → (past : List Entry) → LegalPast m past → total (queries_in m) past + few (status m past n) (codes past) ≤ 0 + total (query_allows_in n) past
few_queries m n own past legal =
    let first = first_few m n in
    bounded m (λ p. few (status m p n) (codes p)) (queries_in m) (query_allows_in n) 0 (omega arith)
    (λ p e lp ok.
    let edge : is_level (slot m p n).kind ≡ false = ap is_level (slot_kind m p n) ∙ own.edge in
    let now = status_next n (touched m p e) (slot m p n) edge in
    let most = few_step m p n e.actor e.deed own ok in
    subst (λ s. queries_in m p e + few s (codes (e ∷ p)) ≤ query_allows_in n p e + few (status m p n) (codes p)) (sym now) most)
    past legal
