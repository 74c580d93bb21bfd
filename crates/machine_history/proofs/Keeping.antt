-- What is kept of an actor that runs scripts: while it tries for the lock its next act is Lock, while its begin is open it is
-- that request, and a worker without a job has nothing to do.
use Rattle.std.proofs.Common.{ℕ, ◌≡◌, ◌==◌, Bool, true, false, ◌&&◌, nat_lt, List, [], ◌∷◌, length, Option, Some, None, is_none, refl, sym, ap, ◌∙◌, subst}
use Rattle.std.proofs.lemmas.Bool.{and_parts}
use Rattle.acpi_regs.specs.declared.actor.Actor.{Actor}
use Rattle.acpi_regs.specs.declared.actor.Actor.TheVariants as actor
use Rattle.acpi_regs.specs.declared.entry.Deed.{Deed}
use Rattle.acpi_regs.specs.declared.entry.Deed.TheVariants as deed
use Rattle.acpi_regs.specs.declared.entry.Effect.TheVariants as effect
use Rattle.acpi_regs.specs.declared.entry.Entry.{Entry}
use Rattle.acpi_regs.specs.declared.entry.Request.{Request}
use Rattle.acpi_regs.specs.Actor.{same_actor}
use Rattle.handler_script.specs.declared.act.Act.{Act}
use Rattle.handler_script.specs.declared.act.Act.TheVariants as act
use Rattle.handler_script.specs.Plan.{Plan, End, next_act, plan_after}
use Rattle.machine_desc.specs.Machine.{MachineData}
use Rattle.machine_history.specs.Jobs.{jobs, running, running_after, starts}
use Rattle.machine_history.specs.Legal.{Allowed, LegalPast, asked, asked_by, is_opener, is_worker, may_start}
use Rattle.machine_history.specs.Scripts.{first_plan, left_after, next_of, plan_left}
use Rattle.machine_history.specs.Wire.{Open, moved, open_after, open_of, put_out}
use Rattle.machine_history.proofs.Known.{hold, is_none-none, same_actor-true, same_request-true, same_self}
use Rattle.machine_history.proofs.Stages.{Follows, Stage, follows_own, is_trying_at, stage, stage_after}

-- ---- what a deed asks for

-- deeds that pass an act of their own at once
abbrev pub is_plain : Deed → Bool
is_plain deed.Disown = true
is_plain (deed.Read c v) = true
is_plain (deed.Write c v) = true
is_plain (deed.Push q) = true
is_plain (deed.Raise n) = true
is_plain (deed.Assert n) = true
is_plain (deed.Drop n) = true
is_plain (deed.Notify d v) = true
is_plain (deed.Up n) = true
is_plain (deed.Down n) = true
is_plain _ = false

pub next_lock : (x : Option Act) → asked_by x deed.Seek ≡ true → x ≡ Some act.Lock
next_lock (Some act.Lock) is = refl
next_lock _ is = cc

pub next_ask : (x : Option Act) (r : Request) → asked_by x (deed.Begin r) ≡ true → x ≡ Some (act.Ask r)
next_ask (Some (act.Ask s)) r is = ap (λ y. Some (act.Ask y)) (same_request-true s r is)
next_ask _ r is = cc

pub some_asked : (x : Option Act) (d : Deed) → asked_by x d ≡ true → (y : Act) × (x ≡ Some y) × (asked y d ≡ true)
some_asked None d is = cc
some_asked (Some y) d is = (y, refl, is)

pub lock_plain : (d : Deed) → is_plain d ≡ true → asked act.Lock d ≡ true → ⊥
lock_plain deed.Seek plain is = cc
lock_plain _ plain is = cc

pub ask_plain : (r : Request) (d : Deed) → is_plain d ≡ true → asked (act.Ask r) d ≡ true → ⊥
ask_plain r (deed.Begin s) plain is = cc
ask_plain r _ plain is = cc

-- ---- what is kept

-- where the open begin is this actor's, its request is the next act
abbrev pub AsksAt : Actor → Option Act → Option Open → Type 0
AsksAt a x None = Unit {0}
AsksAt a x (Some o) = same_actor a o.by ≡ true → x ≡ Some (act.Ask o.asks)

abbrev pub KeptAt : Actor → Bool → Stage → Plan → Option Open → Option ℕ → Type 0
KeptAt a w st p oo r = (is_trying_at st ≡ true → next_act p ≡ Some act.Lock) × AsksAt a (next_act p) oo × (w ≡ true → r ≡ None → p ≡ End)

abbrev pub Kept : MachineData → List Entry → Actor → Type 0
Kept m past a = KeptAt a (is_worker m a) (stage a past) (plan_left m past a) (open_of past) (running past a)

-- where the next act is no request, nothing is asked
pub unasking : (a : Actor) (x : Option Act) (oo : Option Open) (y : Option Act) → AsksAt a x oo → ((r : Request) → x ≡ Some (act.Ask r) → ⊥) → AsksAt a y oo
unasking a x None y asks none = tt
unasking a x (Some o) y asks none = λ same. absurd (none o.asks (asks same))

pub asks_moved : (a : Actor) (x : Option Act) (oo : Option Open) → AsksAt a x oo → AsksAt a x (moved oo)
asks_moved a x None asks = tt
asks_moved a x (Some o) asks = asks

pub asks_put : (a : Actor) (x : Option Act) (v : ℕ) (oo : Option Open) → AsksAt a x oo → AsksAt a x (put_out v oo)
asks_put a x v None asks = tt
asks_put a x v (Some o) asks = asks

-- an act of its own is passed that is neither Lock nor a request
pub passed_plain : (a : Actor) (w : Bool) (st : Stage) (p q : Plan) (oo : Option Open) (r : Option ℕ) (x : Act) → next_act p ≡ Some x → (x ≡ act.Lock → ⊥) → ((s : Request) → x ≡ act.Ask s → ⊥) → KeptAt a w st p oo r → KeptAt a w st q oo r
passed_plain a w st p q oo r x next no_lock no_ask kept = (
  λ trying. absurd (no_lock (same x act.Lock (sym next ∙ kept.0 trying))),
  unasking a (next_act p) oo (next_act q) kept.1 (λ s is. no_ask s (same x (act.Ask s) (sym next ∙ is))),
  λ works free. absurd (none x (sym next ∙ ap next_act (kept.2 works free))),
)
  where
    same : (y z : Act) → Some y ≡ Some z → y ≡ z
    same y z is = cc

    none : (y : Act) → Some y ≡ next_act End → ⊥
    none y is = cc

pub plain_kept : (a : Actor) (w : Bool) (st : Stage) (p q : Plan) (oo : Option Open) (r : Option ℕ) (d : Deed) → is_plain d ≡ true → asked_by (next_act p) d ≡ true → KeptAt a w st p oo r → KeptAt a w st q oo r
plain_kept a w st p q oo r d plain is kept =
    let next = some_asked (next_act p) d is in
    passed_plain a w st p q oo r next.0 next.1 (λ lock. lock_plain d plain (ap (λ y. asked y d) (sym lock) ∙ next.2)) (λ s ask. ask_plain s d plain (ap (λ y. asked y d) (sym ask) ∙ next.2)) kept

pub opener_asks : (a : Actor) (x : Option Act) (oo : Option Open) → is_opener a oo ≡ true → AsksAt a x oo → (o : Open) × (oo ≡ Some o) × (same_actor a o.by ≡ true) × (x ≡ Some (act.Ask o.asks))
opener_asks a x None is asks = cc
opener_asks a x (Some o) is asks = (o, refl, is, asks is)

abbrev pub start_parts : MachineData → List Entry → Actor → ℕ → Type 0
start_parts m past a j = (running past a ≡ None) × (j ≡ starts past)

pub start_free : (m : MachineData) (past : List Entry) (a : Actor) (j : ℕ) → may_start m past a j ≡ true → running past a ≡ None
start_free m past a j may =
    let p = and_parts (is_none (running past a) && (j == starts past)) (nat_lt (starts past) (length (jobs m past))) may in
    let q = and_parts (is_none (running past a)) (j == starts past) p.0 in
    is_none-none (running past a) q.0

-- nothing is tried or asked where nothing is next
pub idle_trying : (st : Stage) (p : Plan) → next_act p ≡ None → (is_trying_at st ≡ true → next_act p ≡ Some act.Lock) → is_trying_at st ≡ true → ⊥
idle_trying st p none kept trying = let lock = kept trying in cc

pub idle_asking : (a : Actor) (x : Option Act) (oo : Option Open) (y : Option Act) → x ≡ None → AsksAt a x oo → AsksAt a y oo
idle_asking a x oo y none asks = unasking a x oo y asks (λ r is. cc)

pub own_kept : (m : MachineData) (past : List Entry) (a : Actor) (d : Deed) → Allowed m past (record { actor = a; deed = d }) → Follows d (stage a past) → Kept m past a
    → KeptAt a (is_worker m a) (stage_after d (stage a past)) (left_after m (jobs m past) d (plan_left m past a)) (open_after a d (open_of past)) (running_after d (running past a))
own_kept m past a deed.Seek ok f kept = let h = hold m past a deed.Seek ok in (λ trying. next_lock (next_of m past a) h.1.1.0, kept.1, kept.2)
own_kept m past a deed.Busy ok f kept = (λ trying. kept.0 (ap is_trying_at f), kept.1, kept.2)
own_kept m past a deed.Woken ok f kept = (λ trying. kept.0 (ap is_trying_at f), kept.1, kept.2)
own_kept m past a deed.Own ok f kept =
    let lock = kept.0 (ap is_trying_at f) in
    let after = passed_owned (plan_left m past a) (open_of past) (running past a) lock kept in
    (λ trying. cc, after.0, after.1)
  where
    passed_owned : (p : Plan) (oo : Option Open) (r : Option ℕ) → next_act p ≡ Some act.Lock → KeptAt a (is_worker m a) (stage a past) p oo r → AsksAt a (next_act (plan_after 0 p)) oo × (is_worker m a ≡ true → r ≡ None → plan_after 0 p ≡ End)
    passed_owned p oo r lock kept = (
      unasking a (next_act p) oo (next_act (plan_after 0 p)) kept.1 (λ s is. (let both = sym lock ∙ is in cc)),
      λ works free. (let none = ap next_act (kept.2 works free) in cc),
    )
own_kept m past a deed.Disown ok f kept =
    let h = hold m past a deed.Disown ok in
    let all = plain_kept a (is_worker m a) (stage a past) (plan_left m past a) (plan_after 0 (plan_left m past a)) (open_of past) (running past a) deed.Disown refl h.1.1.1.0 kept in
    (λ trying. cc, all.1, all.2)
own_kept m past a (deed.Leave s) ok f kept = (λ trying. cc, kept.1, kept.2)
own_kept m past a (deed.Begin r) ok f kept = let h = hold m past a (deed.Begin r) ok in (kept.0, λ same. next_ask (next_of m past a) r h.1.1.0, kept.2)
own_kept m past a (deed.Step g) ok f kept = (kept.0, asks_moved a (next_of m past a) (open_of past) kept.1, kept.2)
own_kept m past a (deed.Ctl effect.Calm) ok f kept = kept
own_kept m past a (deed.Ctl effect.Taken) ok f kept = (kept.0, asks_moved a (next_of m past a) (open_of past) kept.1, kept.2)
own_kept m past a (deed.Ctl effect.Put) ok f kept = (kept.0, asks_moved a (next_of m past a) (open_of past) kept.1, kept.2)
own_kept m past a (deed.Ctl (effect.Out v)) ok f kept = (kept.0, asks_put a (next_of m past a) v (open_of past) kept.1, kept.2)
own_kept m past a (deed.Take v) ok f kept =
    let h = hold m past a (deed.Take v) ok in
    let o = opener_asks a (next_of m past a) (open_of past) h.1.1.0 kept.1 in
    (λ trying. (let lock = kept.0 trying in let ask = o.3 in cc), tt, λ works free. (let none = ap next_act (kept.2 works free) in let ask = o.3 in cc))
own_kept m past a (deed.Start j) ok f kept =
    let h = hold m past a (deed.Start j) ok in
    let none = ap next_act (kept.2 h.0 (start_free m past a j h.1.1.0)) in
    (λ trying. absurd (idle_trying (stage a past) (plan_left m past a) none kept.0 trying), idle_asking a (next_of m past a) (open_of past) _ none kept.1, λ works free. cc)
own_kept m past a (deed.Finish j) ok f kept =
    let h = hold m past a (deed.Finish j) ok in
    let none = is_none-none (next_of m past a) h.1.1.1.0 in
    (λ trying. absurd (idle_trying (stage a past) (plan_left m past a) none kept.0 trying), idle_asking a (next_of m past a) (open_of past) None none kept.1, λ works free. refl)
own_kept m past a (deed.Latch n) ok f kept = kept
own_kept m past a (deed.Claim n) ok f kept = kept
own_kept m past a (deed.Read c v) ok f kept = plain_kept a (is_worker m a) (stage a past) (plan_left m past a) _ (open_of past) (running past a) (deed.Read c v) refl (hold m past a (deed.Read c v) ok).1.1.0 kept
own_kept m past a (deed.Write c v) ok f kept = plain_kept a (is_worker m a) (stage a past) (plan_left m past a) _ (open_of past) (running past a) (deed.Write c v) refl (hold m past a (deed.Write c v) ok).1.1.0 kept
own_kept m past a (deed.Push q) ok f kept = plain_kept a (is_worker m a) (stage a past) (plan_left m past a) _ (open_of past) (running past a) (deed.Push q) refl (hold m past a (deed.Push q) ok).1.1.0 kept
own_kept m past a (deed.Raise n) ok f kept = plain_kept a (is_worker m a) (stage a past) (plan_left m past a) _ (open_of past) (running past a) (deed.Raise n) refl (hold m past a (deed.Raise n) ok).1.1.0 kept
own_kept m past a (deed.Assert n) ok f kept = plain_kept a (is_worker m a) (stage a past) (plan_left m past a) _ (open_of past) (running past a) (deed.Assert n) refl (hold m past a (deed.Assert n) ok).1.1.0 kept
own_kept m past a (deed.Drop n) ok f kept = plain_kept a (is_worker m a) (stage a past) (plan_left m past a) _ (open_of past) (running past a) (deed.Drop n) refl (hold m past a (deed.Drop n) ok).1.1.0 kept
own_kept m past a (deed.Notify x v) ok f kept = plain_kept a (is_worker m a) (stage a past) (plan_left m past a) _ (open_of past) (running past a) (deed.Notify x v) refl (hold m past a (deed.Notify x v) ok).1.1.0 kept
own_kept m past a (deed.Up n) ok f kept = plain_kept a (is_worker m a) (stage a past) (plan_left m past a) _ (open_of past) (running past a) (deed.Up n) refl (hold m past a (deed.Up n) ok).1.1.0 kept
own_kept m past a (deed.Down n) ok f kept = plain_kept a (is_worker m a) (stage a past) (plan_left m past a) _ (open_of past) (running past a) (deed.Down n) refl (hold m past a (deed.Down n) ok).1.1.0 kept

-- another's entry
pub other_asks : (past : List Entry) (a b : Actor) (x : Option Act) (d : Deed) → same_actor a b ≡ false → AsksAt a x (open_of past) → AsksAt a x (open_after b d (open_of past))
other_asks past a b x (deed.Begin r) other asks = λ same. cc
other_asks past a b x (deed.Take v) other asks = tt
other_asks past a b x (deed.Step g) other asks = asks_moved a x (open_of past) asks
other_asks past a b x (deed.Ctl effect.Calm) other asks = asks
other_asks past a b x (deed.Ctl effect.Taken) other asks = asks_moved a x (open_of past) asks
other_asks past a b x (deed.Ctl effect.Put) other asks = asks_moved a x (open_of past) asks
other_asks past a b x (deed.Ctl (effect.Out v)) other asks = asks_put a x v (open_of past) asks
other_asks past a b x _ other asks = asks

pub first_end : (m : MachineData) (a : Actor) → is_worker m a ≡ true → first_plan m a ≡ End
first_end m (actor.Worker k) works = refl
first_end m actor.Int works = refl
first_end m actor.Poll works = refl
first_end m actor.Ec works = refl
first_end m (actor.Device k) works = refl
first_end m (actor.Firmware k) works = cc

pub kept : (m : MachineData) (past : List Entry) (a : Actor) → LegalPast m past → Kept m past a
kept m [] a legal = (λ trying. cc, tt, λ works free. first_end m a works)
kept m (e ∷ past) a legal = at (same_actor a e.actor) refl (kept m past a legal.1)
  where
    mine : (b : Actor) (d : Deed) → a ≡ b → Allowed m past (record { actor = b; deed = d }) → Follows d (stage a past) → Kept m past a → Kept m (record { actor = b; deed = d } ∷ past) a
    mine b d same ok f before = subst (λ x. Allowed m past (record { actor = x; deed = d }) → Kept m (record { actor = x; deed = d } ∷ past) a) same (λ allowed. rw (same_self a) (own_kept m past a d allowed f before)) ok

    beside : (d : Deed) (b : Actor) → same_actor a b ≡ false → Kept m past a → Kept m (record { actor = b; deed = d } ∷ past) a
    beside d b other before = rw other (before.0, other_asks past a b (next_of m past a) d other before.1, before.2)

    at : (x : Bool) → same_actor a e.actor ≡ x → Kept m past a → Kept m (e ∷ past) a
    at true same before = let is = same_actor-true a e.actor same in mine e.actor e.deed is legal.0 (follows_own m past a e is legal.1 legal.0) before
    at false other before = beside e.deed e.actor other before
