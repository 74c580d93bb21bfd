-- Where an actor stands in a legal history: what its next act is while it tries for the lock or has a transaction open, and
-- that what it makes fits that act.
use Rattle.std.proofs.Common.{ℕ, ◌+◌, ◌≡◌, ◌==◌, ◌&&◌, not, Bool, true, false, cond, List, [], ◌∷◌, length, Option, Some, None, MatchOption, is_some, is_none, refl, sym, ◌∙◌, ap, subst}
use Rattle.std.proofs.lemmas.Bool.{and_from, and_parts, eq-eqb, eqb-true}
use Rattle.acpi_regs.specs.declared.actor.Actor.{Actor}
use Rattle.acpi_regs.specs.declared.actor.Actor.TheVariants as actor
use Rattle.acpi_regs.specs.declared.actor.Side.{Side}
use Rattle.acpi_regs.specs.declared.actor.Side.TheVariants as side
use Rattle.acpi_regs.specs.declared.entry.Deed.{Deed}
use Rattle.acpi_regs.specs.declared.entry.Deed.TheVariants as deed
use Rattle.acpi_regs.specs.declared.entry.Effect.TheVariants as effect
use Rattle.acpi_regs.specs.declared.entry.Entry.{Entry}
use Rattle.acpi_regs.specs.declared.entry.Request.{Request}
use Rattle.acpi_regs.specs.declared.entry.Request.TheVariants as request
use Rattle.acpi_regs.specs.Actor.{same_actor, side_of, stands_on}
use Rattle.acpi_regs.specs.Lock.{has_owned, is_someone, owned_after, seeker, seeker_after}
use Rattle.ec_driver.specs.Wire.{carried, wire}
use Rattle.handler_script.specs.declared.act.Act.{Act}
use Rattle.handler_script.specs.declared.act.Act.TheVariants as act
use Rattle.handler_script.specs.Acts.{brings}
use Rattle.handler_script.specs.Plan.{Plan, Do, End, next_act, plan_after}
use Rattle.machine_desc.specs.Machine.{MachineData}
use Rattle.machine_core.specs.declared.course.Course.{Course}
use Rattle.machine_core.specs.declared.course.Course.TheVariants as course
use Rattle.machine_core.specs.Actors.{FitsDeed, Stands, asks_no_query, byte_of, left_by, left_in, script_at}
use Rattle.machine_core.proofs.WireRows.{AllHold, first_failing-none}
use Rattle.machine_history.specs.Jobs.{jobs, running, running_after}
use Rattle.machine_history.specs.Legal.{Allowed, LegalPast, asked, asked_by, conditions, is_opener, is_taking, is_trying, is_worker, may_make, row, same_number, same_request, seeks}
use Rattle.machine_history.specs.Scripts.{answer_of, first_plan, left_after, next_of, passes, plan_left}
use Rattle.machine_history.specs.Values.{blank, taking_in}
use Rattle.machine_history.specs.Wire.{Open, begun, is_query, moved, open_after, open_of, put_out}

abbrev pub entry : Actor → Deed → Entry
entry a d = record { actor = a; deed = d }

pub same_actor-true : (a b : Actor) → same_actor a b ≡ true → a ≡ b
same_actor-true actor.Int actor.Int same = refl
same_actor-true actor.Poll actor.Poll same = refl
same_actor-true (actor.Worker j) (actor.Worker k) same = ap actor.Worker (eqb-true j k same)
same_actor-true actor.Ec actor.Ec same = refl
same_actor-true (actor.Device j) (actor.Device k) same = ap actor.Device (eqb-true j k same)
same_actor-true (actor.Firmware j) (actor.Firmware k) same = ap actor.Firmware (eqb-true j k same)
same_actor-true _ _ same = cc

pub same_actor-refl : (a : Actor) → same_actor a a ≡ true
same_actor-refl actor.Int = refl
same_actor-refl actor.Poll = refl
same_actor-refl (actor.Worker k) = eq-eqb k k refl
same_actor-refl actor.Ec = refl
same_actor-refl (actor.Device k) = eq-eqb k k refl
same_actor-refl (actor.Firmware k) = eq-eqb k k refl

-- ---- rows

pub row_holds : (m : MachineData) (past : List Entry) (a : Actor) (d : Deed) → Allowed m past (entry a d) → AllHold (row m past a d)
row_holds m past a d allowed = (first_failing-none (conditions m past a d) allowed).1.1

pub maker : (m : MachineData) (past : List Entry) (a : Actor) (d : Deed) → Allowed m past (entry a d) → may_make m (open_of past) a d ≡ true
maker m past a d allowed = (first_failing-none (conditions m past a d) allowed).0

-- the act that is next asks for the deed
clash : (o : Option Act) (a : Act) (d : Deed) → o ≡ Some a → asked_by o d ≡ true → asked a d ≡ true
clash o a d is asks = subst (λ x. asked_by x d ≡ true) is asks

no : {X : Type 0} → false ≡ true → X
no e = absurd (let x = e in cc)

two : {X : Type 0} (o : Option Act) (x y : Act) → o ≡ Some x → o ≡ Some y → (Some x ≡ Some y → ⊥) → X
two o x y one other apart = absurd (apart (sym one ∙ other))

ended : {X : Type 0} (o : Option Act) (x : Act) → o ≡ Some x → is_none o ≡ true → X
ended o x is none = no (subst (λ y. is_none y ≡ true) is none)

seeks_lock : (o : Option Act) → asked_by o deed.Seek ≡ true → o ≡ Some act.Lock
seeks_lock None asks = cc
seeks_lock (Some act.Lock) asks = refl
seeks_lock (Some act.Unlock) asks = cc
seeks_lock (Some (act.Read c)) asks = cc
seeks_lock (Some (act.Write c v)) asks = cc
seeks_lock (Some (act.Ask r)) asks = cc
seeks_lock (Some (act.Notify d v)) asks = cc
seeks_lock (Some (act.Drop n)) asks = cc
seeks_lock (Some (act.Up n)) asks = cc
seeks_lock (Some (act.Down n)) asks = cc
seeks_lock (Some (act.Raise n)) asks = cc
seeks_lock (Some (act.Assert n)) asks = cc
seeks_lock (Some (act.Push q)) asks = cc

same_request-true : (s r : Request) → same_request s r ≡ true → s ≡ r
same_request-true (request.Rd x) (request.Rd y) same = ap request.Rd (eqb-true x y same)
same_request-true (request.Wr x v) (request.Wr y w) same =
    let parts = and_parts _ _ same in
    ap (λ z. request.Wr z v) (eqb-true x y parts.0) ∙ ap (request.Wr y) (eqb-true v w parts.1)
same_request-true request.Be request.Be same = refl
same_request-true request.Bd request.Bd same = refl
same_request-true request.Qr request.Qr same = refl
same_request-true _ _ same = cc

asks_request : (o : Option Act) (r : Request) → asked_by o (deed.Begin r) ≡ true → o ≡ Some (act.Ask r)
asks_request None r asks = cc
asks_request (Some act.Lock) r asks = cc
asks_request (Some act.Unlock) r asks = cc
asks_request (Some (act.Read c)) r asks = cc
asks_request (Some (act.Write c v)) r asks = cc
asks_request (Some (act.Ask s)) r asks = ap (λ x. Some (act.Ask x)) (same_request-true s r asks)
asks_request (Some (act.Notify d v)) r asks = cc
asks_request (Some (act.Drop n)) r asks = cc
asks_request (Some (act.Up n)) r asks = cc
asks_request (Some (act.Down n)) r asks = cc
asks_request (Some (act.Raise n)) r asks = cc
asks_request (Some (act.Assert n)) r asks = cc
asks_request (Some (act.Push q)) r asks = cc

-- ---- where an actor stands

pub record Sits (m : MachineData) (past : List Entry) (a : Actor) : Type 0 where
  pub trying : is_trying past a ≡ true → next_of m past a ≡ Some act.Lock
  pub asking : (o : Open) → open_of past ≡ Some o → same_actor a o.by ≡ true → next_of m past a ≡ Some (act.Ask o.asks)
  pub resting : is_worker m a ≡ true → running past a ≡ None → plan_left m past a ≡ End

-- ---- an entry of another actor

still_someone : (s : Side) (a by : Actor) (d : Deed) (old : Option Actor) → same_actor a by ≡ false → is_someone a (seeker_after s by d old) ≡ true → is_someone a old ≡ true
still_someone s a by deed.Seek old other is = by_side (stands_on s by) is
  where
    by_side : (b : Bool) → is_someone a (cond b (Some by) old) ≡ true → is_someone a old ≡ true
    by_side true is = no (sym other ∙ is)
    by_side false is = is
still_someone s a by (deed.Leave x) old other is = by_side (stands_on s by) is
  where
    by_side : (b : Bool) → is_someone a (cond b None old) ≡ true → is_someone a old ≡ true
    by_side true is = cc
    by_side false is = is
still_someone s a by _ old other is = is

still_seeker : (past : List Entry) (a by : Actor) (d : Deed) (s : Option Side) → same_actor a by ≡ false → seeks (entry by d ∷ past) a s ≡ true → seeks past a s ≡ true
still_seeker past a by d None other is = is
still_seeker past a by d (Some s) other is = still_someone s a by d (seeker s past) other is

opened-some : (x y : Open) → Some x ≡ Some y → x ≡ y
opened-some x y e = cc

-- a move leaves who asked, and for what
moved_from : (old : Option Open) (o : Open) → moved old ≡ Some o → (was : Open) × (old ≡ Some was) × (was.by ≡ o.by) × (was.asks ≡ o.asks)
moved_from None o is = cc
moved_from (Some was) o is =
    let e = opened-some (record was { made = was.made + 1 }) o is in
    (was, refl, ap (λ x. x.by) e, ap (λ x. x.asks) e)

put_from : (v : ℕ) (old : Option Open) (o : Open) → put_out v old ≡ Some o → (was : Open) × (old ≡ Some was) × (was.by ≡ o.by) × (was.asks ≡ o.asks)
put_from v None o is = cc
put_from v (Some was) o is =
    let e = opened-some (record was { made = was.made + 1; out = Some v }) o is in
    (was, refl, ap (λ x. x.by) e, ap (λ x. x.asks) e)

abbrev Asks : Option Act → Actor → Option Open → Type 0
Asks next a old = (o : Open) → old ≡ Some o → same_actor a o.by ≡ true → next ≡ Some (act.Ask o.asks)

after_move : (next : Option Act) (a : Actor) (old : Option Open) (o : Open) → (was : Open) × (old ≡ Some was) × (was.by ≡ o.by) × (was.asks ≡ o.asks) → Asks next a old → same_actor a o.by ≡ true → next ≡ Some (act.Ask o.asks)
after_move next a old o was asks own =
    asks was.0 was.1 (subst (λ b. same_actor a b ≡ true) (sym was.2) own) ∙ ap (λ r. Some (act.Ask r)) was.3

-- the open transaction is still the actor's where another made no begin
still_asks : (next : Option Act) (a by : Actor) (d : Deed) (old : Option Open) → same_actor a by ≡ false → Asks next a old → Asks next a (open_after by d old)
still_asks next a by (deed.Begin r) old other asks = λ o is own. no (sym other ∙ subst (λ x. same_actor a x.by ≡ true) (sym (opened-some (begun by r) o is)) own)
still_asks next a by (deed.Take v) old other asks = λ o is own. cc
still_asks next a by (deed.Step h) old other asks = λ o is own. after_move next a old o (moved_from old o is) asks own
still_asks next a by (deed.Ctl effect.Taken) old other asks = λ o is own. after_move next a old o (moved_from old o is) asks own
still_asks next a by (deed.Ctl (effect.Out v)) old other asks = λ o is own. after_move next a old o (put_from v old o is) asks own
still_asks next a by (deed.Ctl effect.Put) old other asks = λ o is own. after_move next a old o (moved_from old o is) asks own
still_asks next a by (deed.Ctl effect.Calm) old other asks = asks
still_asks next a by _ old other asks = asks

pub others : (m : MachineData) (past : List Entry) (a by : Actor) (d : Deed) → same_actor a by ≡ false → Sits m past a → Sits m (entry by d ∷ past) a
others m past a by d other sits = record {
  trying = λ is. rw other (sits.trying (let parts = and_parts _ _ (rw other at is) in and_from _ _ (still_seeker past a by d (side_of a) other parts.0) parts.1));
  asking = λ o is own. rw other (still_asks (next_of m past a) a by d (open_of past) other sits.asking o is own);
  resting = λ worker is. rw other (sits.resting worker (rw other at is));
}

-- ---- an entry of its own

-- a leave of the actor's own side takes away its seeker
side_is : (s t : Side) (a : Actor) → side_of a ≡ Some t → s ≡ t → stands_on s a ≡ true
side_is side.Os side.Os a is same = rw is refl
side_is side.Firmware side.Firmware a is same = rw is refl
side_is side.Os side.Firmware a is same = cc
side_is side.Firmware side.Os a is same = cc

gone : (past : List Entry) (a : Actor) (x : Bool) (s : Option Side) → side_of a ≡ s → seeks (entry a (deed.Leave x) ∷ past) a s ≡ true → ⊥
gone past a x None is seeking = cc
gone past a x (Some s) is seeking = no (subst (λ b. is_someone a (cond b None (seeker s past)) ≡ true) (side_is s s a is refl) seeking)

-- the next act, where the entry passes it or not
abbrev next' : MachineData → List Entry → Actor → Deed → Option Act
next' m past a d = next_act (left_after m (jobs m past) d (plan_left m past a))

abbrev Row : MachineData → List Entry → Actor → Deed → Type 0
Row m past a d = AllHold (row m past a d)

worker_rests : {X : Type 0} (m : MachineData) (past : List Entry) (a : Actor) (j : ℕ) (x : Act) → Sits m past a → Allowed m past (entry a (deed.Start j)) → next_of m past a ≡ Some x → X
worker_rests m past a j x sits allowed next =
    let free = (and_parts _ _ (and_parts _ _ (row_holds m past a (deed.Start j) allowed).0).0).0 in
    let end = sits.resting (maker m past a (deed.Start j) allowed) (is_none-none (running past a) free) in
    let none : None ≡ Some x = sym (ap next_act end) ∙ next in
    absurd (let e = none in cc)
  where
    is_none-none : {A : Type 0} (o : Option A) → is_none o ≡ true → o ≡ None
    is_none-none None e = refl
    is_none-none (Some y) e = cc

opener_asks : {X : Type 0} (past : List Entry) (a : Actor) (next : Option Act) (o : Option Open) (x : Act) → Asks next a o → is_opener a o ≡ true → next ≡ Some x → ((r : Request) → Some (act.Ask r) ≡ Some x → ⊥) → X
opener_asks past a next None x asks own is apart = no own
opener_asks past a next (Some o) x asks own is apart = absurd (apart o.asks (sym (asks o refl own) ∙ is))

-- a deed that neither seeks nor leaves
abbrev leaves_seeker : Deed → Bool
leaves_seeker deed.Seek = false
leaves_seeker (deed.Leave x) = false
leaves_seeker _ = true

kept_seeker : (past : List Entry) (a : Actor) (d : Deed) (s : Option Side) → leaves_seeker d ≡ true → seeks (entry a d ∷ past) a s ≡ true → seeks past a s ≡ true
kept_seeker past a d None keeps is = is
kept_seeker past a deed.Seek (Some s) keeps is = no keeps
kept_seeker past a (deed.Leave x) (Some s) keeps is = no keeps
kept_seeker past a _ (Some s) keeps is = is

-- it tried before the entry already
tried : (m : MachineData) (past : List Entry) (a : Actor) (d : Deed) → leaves_seeker d ≡ true → Sits m past a → seeks (entry a d ∷ past) a (side_of a) ≡ true → not (has_owned a past) ≡ true → next_of m past a ≡ Some act.Lock
tried m past a d keeps sits seeking free = sits.trying (and_from _ _ (kept_seeker past a d (side_of a) keeps seeking) free)

-- it stays at its lock act until it owns
pub own_trying : (m : MachineData) (past : List Entry) (a : Actor) (d : Deed) → Sits m past a → Allowed m past (entry a d) → seeks (entry a d ∷ past) a (side_of a) ≡ true → not (owned_after d (has_owned a past)) ≡ true → next' m past a d ≡ Some act.Lock
own_trying m past a deed.Seek sits allowed seeking free = seeks_lock (next_of m past a) (row_holds m past a deed.Seek allowed).0
own_trying m past a deed.Own sits allowed seeking free = cc
own_trying m past a (deed.Leave x) sits allowed seeking free = absurd (gone past a x (side_of a) refl seeking)
own_trying m past a deed.Busy sits allowed seeking free = tried m past a deed.Busy refl sits seeking free
own_trying m past a deed.Woken sits allowed seeking free = tried m past a deed.Woken refl sits seeking free
own_trying m past a (deed.Step h) sits allowed seeking free = tried m past a (deed.Step h) refl sits seeking free
own_trying m past a (deed.Ctl e) sits allowed seeking free = tried m past a (deed.Ctl e) refl sits seeking free
own_trying m past a (deed.Latch n) sits allowed seeking free = tried m past a (deed.Latch n) refl sits seeking free
own_trying m past a (deed.Claim n) sits allowed seeking free = tried m past a (deed.Claim n) refl sits seeking free
own_trying m past a deed.Disown sits allowed seeking free =
    no (clash (next_of m past a) act.Lock deed.Disown (tried m past a deed.Disown refl sits seeking free) (row_holds m past a deed.Disown allowed).1.0)
own_trying m past a (deed.Take v) sits allowed seeking free =
    opener_asks past a (next_of m past a) (open_of past) act.Lock sits.asking (row_holds m past a (deed.Take v) allowed).0 (tried m past a (deed.Take v) refl sits seeking free) (λ r e. cc)
own_trying m past a (deed.Start j) sits allowed seeking free = worker_rests m past a j act.Lock sits allowed (tried m past a (deed.Start j) refl sits seeking free)
own_trying m past a (deed.Finish j) sits allowed seeking free = ended (next_of m past a) act.Lock (tried m past a (deed.Finish j) refl sits seeking free) (row_holds m past a (deed.Finish j) allowed).1.0
own_trying m past a d sits allowed seeking free = no (clash (next_of m past a) act.Lock d (tried m past a d refl sits seeking free) (row_holds m past a d allowed).0)

-- it stays at its ask from its begin to its take
own_asking : (m : MachineData) (past : List Entry) (a : Actor) (d : Deed) → Sits m past a → Allowed m past (entry a d) → Asks (next' m past a d) a (open_after a d (open_of past))
own_asking m past a (deed.Begin r) sits allowed = λ o is own.
    asks_request (next_of m past a) r (row_holds m past a (deed.Begin r) allowed).0 ∙ ap (λ x. Some (act.Ask x.asks)) (opened-some (begun a r) o is)
own_asking m past a (deed.Take v) sits allowed = λ o is own. cc
own_asking m past a (deed.Step h) sits allowed = λ o is own. after_move (next_of m past a) a (open_of past) o (moved_from (open_of past) o is) sits.asking own
own_asking m past a (deed.Ctl effect.Taken) sits allowed = λ o is own. after_move (next_of m past a) a (open_of past) o (moved_from (open_of past) o is) sits.asking own
own_asking m past a (deed.Ctl (effect.Out v)) sits allowed = λ o is own. after_move (next_of m past a) a (open_of past) o (put_from v (open_of past) o is) sits.asking own
own_asking m past a (deed.Ctl effect.Put) sits allowed = λ o is own. after_move (next_of m past a) a (open_of past) o (moved_from (open_of past) o is) sits.asking own
own_asking m past a (deed.Ctl effect.Calm) sits allowed = sits.asking
own_asking m past a deed.Seek sits allowed = sits.asking
own_asking m past a deed.Busy sits allowed = sits.asking
own_asking m past a deed.Woken sits allowed = sits.asking
own_asking m past a (deed.Leave x) sits allowed = sits.asking
own_asking m past a (deed.Latch n) sits allowed = sits.asking
own_asking m past a (deed.Claim n) sits allowed = sits.asking
own_asking m past a deed.Own sits allowed = λ o is own. two (next_of m past a) act.Lock (act.Ask o.asks) (sits.trying (row_holds m past a deed.Own allowed).0) (sits.asking o is own) (λ e. cc)
own_asking m past a deed.Disown sits allowed = λ o is own. no (clash (next_of m past a) (act.Ask o.asks) deed.Disown (sits.asking o is own) (row_holds m past a deed.Disown allowed).1.0)
own_asking m past a (deed.Start j) sits allowed = λ o is own. worker_rests m past a j (act.Ask o.asks) sits allowed (sits.asking o is own)
own_asking m past a (deed.Finish j) sits allowed = λ o is own. ended (next_of m past a) (act.Ask o.asks) (sits.asking o is own) (row_holds m past a (deed.Finish j) allowed).1.0
own_asking m past a d sits allowed = λ o is own. no (clash (next_of m past a) (act.Ask o.asks) d (sits.asking o is own) (row_holds m past a d allowed).0)

after_end : (b : Bool) (v : ℕ) (p : Plan) → p ≡ End → cond b (plan_after v p) p ≡ End
after_end true v p is = ap (plan_after v) is
after_end false v p is = is

-- a worker without a job has nothing to do
own_resting : (m : MachineData) (past : List Entry) (a : Actor) (d : Deed) → Sits m past a → is_worker m a ≡ true → running_after d (running past a) ≡ None → left_after m (jobs m past) d (plan_left m past a) ≡ End
own_resting m past a (deed.Start j) sits worker is = cc
own_resting m past a (deed.Finish j) sits worker is = refl
own_resting m past a d sits worker is = after_end (passes d) (answer_of d) (plan_left m past a) (sits.resting worker is)

own : (m : MachineData) (past : List Entry) (a : Actor) (d : Deed) → Allowed m past (entry a d) → Sits m past a → Sits m (entry a d ∷ past) a
own m past a d allowed sits = record {
  trying = λ is. rw (same_actor-refl a) (let parts = and_parts _ _ (rw (same_actor-refl a) at is) in own_trying m past a d sits allowed parts.0 parts.1);
  asking = λ o is mine. rw (same_actor-refl a) (own_asking m past a d sits allowed o is mine);
  resting = λ worker is. rw (same_actor-refl a) (own_resting m past a d sits worker (rw (same_actor-refl a) at is));
}

-- ---- every entry

first_sits : (m : MachineData) (a : Actor) → Sits m [] a
first_sits m a = record {
  trying = λ is. nobody (side_of a) is;
  asking = λ o is mine. cc;
  resting = λ worker is. nothing a worker;
}
  where
    nobody : {X : Type 0} (s : Option Side) → (seeks [] a s && true) ≡ true → X
    nobody None is = no is
    nobody (Some s) is = no is

    nothing : (a : Actor) → is_worker m a ≡ true → first_plan m a ≡ End
    nothing actor.Int worker = refl
    nothing actor.Poll worker = refl
    nothing (actor.Worker k) worker = refl
    nothing actor.Ec worker = refl
    nothing (actor.Device k) worker = refl
    nothing (actor.Firmware k) worker = cc

pub sits : (m : MachineData) (past : List Entry) → LegalPast m past → (a : Actor) → Sits m past a
sits m [] legal a = first_sits m a
sits m (e ∷ past) legal a = by_actor (same_actor a e.actor) refl (sits m past legal.1 a)
  where
    by_actor : (b : Bool) → same_actor a e.actor ≡ b → Sits m past a → Sits m (e ∷ past) a
    by_actor true is at =
        let same = same_actor-true a e.actor is in
        subst (λ x. Sits m (entry x e.deed ∷ past) a) same (own m past a e.deed (subst (λ x. Allowed m past (entry x e.deed)) (sym same) legal.0) at)
    by_actor false is at = others m past a e.actor e.deed is at

-- ---- what an allowed entry passes

pub record Passing (m : MachineData) (past : List Entry) (a : Actor) (d : Deed) : Type 0 where
  pub does : Act
  pub next : next_of m past a ≡ Some does
  pub brought : asks_no_query false does ≡ true → is_some (byte_of d) ≡ brings does

asked_brings : (x : Act) (d : Deed) → asked x d ≡ true → passes d ≡ true → is_some (byte_of d) ≡ brings x
asked_brings act.Lock deed.Seek asks passing = cc
asked_brings act.Unlock deed.Disown asks passing = refl
asked_brings (act.Read c) (deed.Read d v) asks passing = refl
asked_brings (act.Write c v) (deed.Write d w) asks passing = refl
asked_brings (act.Ask r) (deed.Begin s) asks passing = cc
asked_brings (act.Notify d v) (deed.Notify e w) asks passing = refl
asked_brings (act.Drop n) (deed.Drop x) asks passing = refl
asked_brings (act.Up n) (deed.Up x) asks passing = refl
asked_brings (act.Down n) (deed.Down x) asks passing = refl
asked_brings (act.Raise n) (deed.Raise x) asks passing = refl
asked_brings (act.Assert n) (deed.Assert x) asks passing = refl
asked_brings (act.Push q) (deed.Push p) asks passing = refl
asked_brings _ _ asks passing = no asks

by_asked : (m : MachineData) (past : List Entry) (a : Actor) (d : Deed) (o : Option Act) → next_of m past a ≡ o → asked_by o d ≡ true → passes d ≡ true → Passing m past a d
by_asked m past a d None is asks passing = no asks
by_asked m past a d (Some x) is asks passing = record { does = x; next = is; brought = λ plain. asked_brings x d asks passing }

carried_brings : (r : Request) (v : Option ℕ) (b : ℕ) → same_number v (carried r b) ≡ true → not (is_query r) ≡ true → is_some v ≡ brings (act.Ask r)
carried_brings (request.Rd x) None b same plain = cc
carried_brings (request.Rd x) (Some y) b same plain = refl
carried_brings (request.Wr x y) None b same plain = refl
carried_brings (request.Wr x y) (Some z) b same plain = cc
carried_brings request.Be None b same plain = cc
carried_brings request.Be (Some y) b same plain = refl
carried_brings request.Bd None b same plain = refl
carried_brings request.Bd (Some z) b same plain = cc
carried_brings request.Qr v b same plain = cc

taken_brings : (ends : Bool) (r : Request) (v : Option ℕ) (b : ℕ) → is_taking v (cond ends (Some (carried r b)) None) ≡ true → not (is_query r) ≡ true → is_some v ≡ brings (act.Ask r)
taken_brings true r v b is plain = carried_brings r v b is plain
taken_brings false r v b is plain = no is

by_opener : (m : MachineData) (past : List Entry) (a : Actor) (v : Option ℕ) (o : Option Open) → open_of past ≡ o → Sits m past a → is_opener a o ≡ true → is_taking v (taking_in m past o) ≡ true → Passing m past a (deed.Take v)
by_opener m past a v None is at mine takes = no mine
by_opener m past a v (Some o) is at mine takes = record {
  does = act.Ask o.asks;
  next = at.asking o is mine;
  brought = λ plain. taken_brings (o.made == length (wire o.asks 0)) o.asks v (blank m past o) takes plain;
}

pub passing : (m : MachineData) (past : List Entry) (a : Actor) (d : Deed) → LegalPast m past → Allowed m past (entry a d) → passes d ≡ true → Passing m past a d
passing m past a deed.Own legal allowed passes_it = record { does = act.Lock; next = (sits m past legal a).trying (row_holds m past a deed.Own allowed).0; brought = λ plain. refl }
passing m past a deed.Disown legal allowed passes_it = by_asked m past a deed.Disown (next_of m past a) refl (row_holds m past a deed.Disown allowed).1.0 passes_it
passing m past a (deed.Take v) legal allowed passes_it =
    let holds = row_holds m past a (deed.Take v) allowed in
    by_opener m past a v (open_of past) refl (sits m past legal a) holds.0 holds.1.1.0
passing m past a (deed.Read c v) legal allowed passes_it = by_asked m past a (deed.Read c v) (next_of m past a) refl (row_holds m past a (deed.Read c v) allowed).0 passes_it
passing m past a (deed.Write c v) legal allowed passes_it = by_asked m past a (deed.Write c v) (next_of m past a) refl (row_holds m past a (deed.Write c v) allowed).0 passes_it
passing m past a (deed.Push q) legal allowed passes_it = by_asked m past a (deed.Push q) (next_of m past a) refl (row_holds m past a (deed.Push q) allowed).0 passes_it
passing m past a (deed.Raise n) legal allowed passes_it = by_asked m past a (deed.Raise n) (next_of m past a) refl (row_holds m past a (deed.Raise n) allowed).0 passes_it
passing m past a (deed.Assert n) legal allowed passes_it = by_asked m past a (deed.Assert n) (next_of m past a) refl (row_holds m past a (deed.Assert n) allowed).0 passes_it
passing m past a (deed.Drop n) legal allowed passes_it = by_asked m past a (deed.Drop n) (next_of m past a) refl (row_holds m past a (deed.Drop n) allowed).0 passes_it
passing m past a (deed.Notify x v) legal allowed passes_it = by_asked m past a (deed.Notify x v) (next_of m past a) refl (row_holds m past a (deed.Notify x v) allowed).0 passes_it
passing m past a (deed.Up n) legal allowed passes_it = by_asked m past a (deed.Up n) (next_of m past a) refl (row_holds m past a (deed.Up n) allowed).0 passes_it
passing m past a (deed.Down n) legal allowed passes_it = by_asked m past a (deed.Down n) (next_of m past a) refl (row_holds m past a (deed.Down n) allowed).0 passes_it
passing m past a _ legal allowed passes_it = no passes_it

-- an entry fits what its actor has next on its course
pub fits_deed : (m : MachineData) (past : List Entry) (a : Actor) (d : Deed) (c : Course) → LegalPast m past → Allowed m past (entry a d) → left_by m c ≡ plan_left m past a → Stands m c → FitsDeed m c d
fits_deed m past a d course.Ended legal allowed left stands = λ p. tt
fits_deed m past a d (course.Query s) legal allowed left stands = λ p. tt
fits_deed m past a d (course.Script at c) legal allowed left stands = λ p.
    let made = passing m past a d legal allowed p in
    in_script (left_in m (script_at m at) c) made.does (ap next_act left ∙ made.next) stands.1 made.brought
  where
    needless : (y : Act) (needs : Bool) → asks_no_query needs y ≡ true → asks_no_query false y ≡ true
    needless (act.Ask r) needs free = free
    needless act.Lock needs free = refl
    needless _ needs free = refl

    plain : (y x : Act) (needs : Bool) → y ≡ x → asks_no_query needs y ≡ true → asks_no_query false x ≡ true
    plain y x needs same free = subst (λ z. asks_no_query false z ≡ true) same (needless y needs free)

    in_script : (p : Plan) (x : Act) → next_act p ≡ Some x → Rattle.handler_script.specs.Each.Each asks_no_query p → (asks_no_query false x ≡ true → is_some (byte_of d) ≡ brings x) → MatchOption (next_act p) ⊥ (λ y. is_some (byte_of d) ≡ brings y)
    in_script End x is each brought = cc
    in_script (Do needs y next) x is each brought =
        let same : y ≡ x = cc in
        subst (λ z. is_some (byte_of d) ≡ brings z) (sym same) (brought (plain y x needs same each.0))
