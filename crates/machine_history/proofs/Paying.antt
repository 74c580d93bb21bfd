-- What an actor's entries are charged for is no more than the prices of its script and of the jobs that it started.
use Rattle.std.proofs.Common.{ℕ, ◌+◌, ◌≤◌, ◌≡◌, Bool, true, false, List, [], ◌∷◌, slice_get, Option, Some, None, is_none, refl, sym, ap, ◌∙◌, subst, arith}
use Rattle.acpi_regs.specs.declared.actor.Actor.{Actor}
use Rattle.acpi_regs.specs.declared.entry.Deed.{Deed}
use Rattle.acpi_regs.specs.declared.entry.Deed.TheVariants as deed
use Rattle.acpi_regs.specs.declared.entry.Effect.TheVariants as effect
use Rattle.acpi_regs.specs.declared.entry.Entry.{Entry}
use Rattle.acpi_regs.specs.declared.entry.Request.{Request}
use Rattle.acpi_regs.specs.Actor.{same_actor}
use Rattle.handler_script.specs.declared.act.Act.{Act}
use Rattle.handler_script.specs.declared.act.Act.TheVariants as act
use Rattle.handler_script.specs.Costs.{Costs}
use Rattle.handler_script.specs.Plan.{Plan, Do, End, next_act, plan_after}
use Rattle.machine_desc.specs.Machine.{MachineData}
use Rattle.machine_history.specs.declared.parts.Job.{Job}
use Rattle.machine_history.specs.Jobs.{jobs}
use Rattle.machine_history.specs.Legal.{Allowed, LegalPast, asked, asked_by, is_opener}
use Rattle.machine_history.specs.Scripts.{first_plan, job_plan, left_after, next_of, plan_left}
use Rattle.machine_history.specs.Wire.{Open, begun, moved, open_after, open_of, put_out}
use Rattle.machine_history.proofs.Keeping.{AsksAt, Kept, is_plain, kept, opener_asks, some_asked}
use Rattle.machine_history.proofs.Known.{hold, same_actor-true, same_cell-true, same_event-true, same_self}
use Rattle.machine_history.proofs.Prices.{charge, charged}
use Rattle.machine_history.proofs.Stages.{Follows, Stage, follows_own, is_trying_at, stage, stage_after}
use Rattle.machine_history.proofs.Totals.{Count, own, total, when}
use Rattle.std.proofs.lemmas.Bool.{and_parts, eqb-true}

-- an act that is next is paid for
pub next_cost : (f : Act → ℕ) (p : Plan) (k byte : ℕ) (x : Act) → next_act p ≡ Some x → Costs f p k → (j : ℕ) × (f x + j ≤ k) × Costs f (plan_after byte p) j
next_cost f End k byte x next costs = cc
next_cost f (Do needs a more) k byte x next costs =
    let same : a ≡ x = cc in
    (costs.0, subst (λ y. f y + costs.0 ≤ k) same costs.1, costs.2 byte)

-- the act that a deed passes is the one that it is charged for
pub plain_act : (f : Act → ℕ) (x : Act) (d : Deed) → is_plain d ≡ true → asked x d ≡ true → f x ≡ charge f d
plain_act f act.Unlock deed.Disown plain is = refl
plain_act f (act.Read c) (deed.Read e v) plain is = ap (λ y. f (act.Read y)) (same_cell-true c e is)
plain_act f (act.Write c v) (deed.Write e w) plain is = let p = and_parts _ _ is in ap (λ y. f (act.Write y v)) (same_cell-true c e p.0) ∙ ap (λ y. f (act.Write e y)) (eqb-true v w p.1)
plain_act f (act.Push q) (deed.Push k) plain is = ap (λ y. f (act.Push y)) (eqb-true q k is)
plain_act f (act.Raise n) (deed.Raise x) plain is = ap (λ y. f (act.Raise y)) (same_event-true n x is)
plain_act f (act.Assert n) (deed.Assert x) plain is = ap (λ y. f (act.Assert y)) (same_event-true n x is)
plain_act f (act.Drop n) (deed.Drop x) plain is = ap (λ y. f (act.Drop y)) (same_event-true n x is)
plain_act f (act.Up n) (deed.Up x) plain is = ap (λ y. f (act.Up y)) (same_event-true n x is)
plain_act f (act.Down n) (deed.Down x) plain is = ap (λ y. f (act.Down y)) (same_event-true n x is)
plain_act f (act.Notify d v) (deed.Notify e w) plain is = let p = and_parts _ _ is in ap (λ y. f (act.Notify y v)) (eqb-true d e p.0) ∙ ap (λ y. f (act.Notify e y)) (eqb-true v w p.1)
plain_act f act.Lock deed.Seek plain is = cc
plain_act f (act.Ask r) (deed.Begin s) plain is = cc
plain_act f x _ plain is = cc

-- ---- what is paid

abbrev pub asked_price : (Act → ℕ) → Actor → Option Open → ℕ
asked_price f a None = 0
asked_price f a (Some o) = when (same_actor a o.by) (f (act.Ask o.asks))

-- what was charged and what is left is at most what was allowed and what is in flight
abbrev pub PaysAt : (Act → ℕ) → Actor → Stage → Plan → Option Open → ℕ → ℕ → Type 0
PaysAt f a st p oo t n = (k : ℕ) × Costs f p k × (t + k ≤ n + (when (is_trying_at st) (f act.Lock) + asked_price f a oo))

-- the prices of whole plans: of each job, and of what an actor has before it at the start
abbrev pub JobsCost : (Act → ℕ) → MachineData → (Option Job → ℕ) → Type 0
JobsCost f m w = (j : Option Job) → Costs f (job_plan m j) (w j)

abbrev pub FirstsCost : (Act → ℕ) → MachineData → (Actor → ℕ) → Type 0
FirstsCost f m v = (a : Actor) → Costs f (first_plan m a) (v a)

-- what the jobs that were started are worth
abbrev pub start_worth : (Option Job → ℕ) → List Job → Deed → ℕ
start_worth w made (deed.Start j) = w (slice_get made j)
start_worth w made _ = 0

abbrev pub started : (Option Job → ℕ) → MachineData → Count
started w m past e = start_worth w (jobs m past) e.deed

pub asked_moved : (f : Act → ℕ) (a : Actor) (oo : Option Open) → asked_price f a (moved oo) ≡ asked_price f a oo
asked_moved f a None = refl
asked_moved f a (Some o) = refl

pub asked_put : (f : Act → ℕ) (a : Actor) (v : ℕ) (oo : Option Open) → asked_price f a (put_out v oo) ≡ asked_price f a oo
asked_put f a v None = refl
asked_put f a v (Some o) = refl

pub asked_none : (f : Act → ℕ) (a : Actor) (oo : Option Open) → is_none oo ≡ true → asked_price f a oo ≡ 0
asked_none f a None none = refl
asked_none f a (Some o) none = cc

pub asked_own : (f : Act → ℕ) (a : Actor) (r : Request) → asked_price f a (Some (begun a r)) ≡ f (act.Ask r)
asked_own f a r = rw (same_self a) refl

pub asked_open : (f : Act → ℕ) (a : Actor) (oo : Option Open) (o : Open) → oo ≡ Some o → same_actor a o.by ≡ true → asked_price f a oo ≡ f (act.Ask o.asks)
asked_open f a oo o is same = ap (asked_price f a) is ∙ ap (λ b. when b (f (act.Ask o.asks))) same

-- what another asks is not asked by this one
pub asked_other : (f : Act → ℕ) (a b : Actor) (oo : Option Open) → same_actor a b ≡ false → is_opener b oo ≡ true → asked_price f a oo ≡ 0
asked_other f a b None other is = refl
asked_other f a b (Some o) other is = let by = same_actor-true b o.by is in let no : same_actor a o.by ≡ false = ap (same_actor a) (sym by) ∙ other in rw no refl

pub trying_price : (f : Act → ℕ) (st : Stage) (b : Bool) → is_trying_at st ≡ b → when (is_trying_at st) (f act.Lock) ≡ when b (f act.Lock)
trying_price f st b is = ap (λ x. when x (f act.Lock)) is

abbrev pub Paid : (Option Job → ℕ) → (Act → ℕ) → MachineData → List Entry → Actor → Deed → ℕ → ℕ → Type 0
Paid w f m past a d t n = PaysAt f a (stage_after d (stage a past)) (left_after m (jobs m past) d (plan_left m past a)) (open_after a d (open_of past)) (charge f d + t) (start_worth w (jobs m past) d + n)

pub own_plain : (f : Act → ℕ) (m : MachineData) (past : List Entry) (a : Actor) (d : Deed) (byte t n : ℕ) → is_plain d ≡ true → asked_by (next_of m past a) d ≡ true
    → PaysAt f a (stage a past) (plan_left m past a) (open_of past) t n → PaysAt f a (stage a past) (plan_after byte (plan_left m past a)) (open_of past) (charge f d + t) (0 + n)
own_plain f m past a d byte t n plain is pays =
    let next = some_asked (next_of m past a) d is in
    let price = plain_act f next.0 d plain next.2 in
    let paid = next_cost f (plan_left m past a) pays.0 byte next.0 next.1 pays.1 in
    let within : t + pays.0 ≤ n + (when (is_trying_at (stage a past)) (f act.Lock) + asked_price f a (open_of past)) = pays.2 in
    let first : f next.0 + paid.0 ≤ pays.0 = paid.1 in
    (paid.0, paid.2, omega arith)

pub own_pays : (w : Option Job → ℕ) (f : Act → ℕ) (m : MachineData) (past : List Entry) (a : Actor) (d : Deed) (t n : ℕ) → JobsCost f m w → Allowed m past (record { actor = a; deed = d }) → Follows d (stage a past) → Kept m past a
    → PaysAt f a (stage a past) (plan_left m past a) (open_of past) t n → Paid w f m past a d t n
own_pays w f m past a deed.Seek t n costs ok at k pays =
    let still = trying_price f (stage a past) false (ap is_trying_at at) in
    (pays.0, pays.1, (let within = pays.2 in omega arith))
own_pays w f m past a deed.Busy t n costs ok at k pays =
    let still = trying_price f (stage a past) true (ap is_trying_at at) in
    (pays.0, pays.1, (let within = pays.2 in omega arith))
own_pays w f m past a deed.Woken t n costs ok at k pays =
    let still = trying_price f (stage a past) true (ap is_trying_at at) in
    (pays.0, pays.1, (let within = pays.2 in omega arith))
own_pays w f m past a deed.Own t n costs ok at k pays =
    let still = trying_price f (stage a past) true (ap is_trying_at at) in
    let paid = next_cost f (plan_left m past a) pays.0 0 act.Lock (k.0 (ap is_trying_at at)) pays.1 in
    (paid.0, paid.2, (let first = paid.1 in let within = pays.2 in omega arith))
own_pays w f m past a deed.Disown t n costs ok at k pays =
    let still = trying_price f (stage a past) false (ap is_trying_at at) in
    let paid = own_plain f m past a deed.Disown 0 t n refl (hold m past a deed.Disown ok).1.1.1.0 pays in
    (paid.0, paid.1, (let within = paid.2 in omega arith))
own_pays w f m past a (deed.Leave s) t n costs ok at k pays =
    let still = trying_price f (stage a past) false (ap is_trying_at at) in
    (pays.0, pays.1, (let within = pays.2 in omega arith))
own_pays w f m past a (deed.Begin r) t n costs ok at k pays =
    let none = asked_none f a (open_of past) (hold m past a (deed.Begin r) ok).1.1.1.0 in
    let asks = asked_own f a r in
    (pays.0, pays.1, (let within = pays.2 in omega arith))
own_pays w f m past a (deed.Step g) t n costs ok at k pays = let same = asked_moved f a (open_of past) in (pays.0, pays.1, (let within = pays.2 in omega arith))
own_pays w f m past a (deed.Ctl effect.Calm) t n costs ok at k pays = (pays.0, pays.1, (let within = pays.2 in omega arith))
own_pays w f m past a (deed.Ctl effect.Taken) t n costs ok at k pays = let same = asked_moved f a (open_of past) in (pays.0, pays.1, (let within = pays.2 in omega arith))
own_pays w f m past a (deed.Ctl effect.Put) t n costs ok at k pays = let same = asked_moved f a (open_of past) in (pays.0, pays.1, (let within = pays.2 in omega arith))
own_pays w f m past a (deed.Ctl (effect.Out v)) t n costs ok at k pays = let same = asked_put f a v (open_of past) in (pays.0, pays.1, (let within = pays.2 in omega arith))
own_pays w f m past a (deed.Take v) t n costs ok at k pays =
    let o = opener_asks a (next_of m past a) (open_of past) (hold m past a (deed.Take v) ok).1.1.0 k.1 in
    let asks = asked_open f a (open_of past) o.0 o.1 o.2 in
    let paid = next_cost f (plan_left m past a) pays.0 _ (act.Ask o.0.asks) o.3 pays.1 in
    (paid.0, paid.2, (let first = paid.1 in let within = pays.2 in omega arith))
own_pays w f m past a (deed.Start j) t n costs ok at k pays =
    (w (slice_get (jobs m past) j), costs (slice_get (jobs m past) j), (let within = pays.2 in omega arith))
own_pays w f m past a (deed.Finish j) t n costs ok at k pays = (0, tt, (let within = pays.2 in omega arith))
own_pays w f m past a (deed.Latch x) t n costs ok at k pays = (pays.0, pays.1, (let within = pays.2 in omega arith))
own_pays w f m past a (deed.Claim x) t n costs ok at k pays = (pays.0, pays.1, (let within = pays.2 in omega arith))
own_pays w f m past a (deed.Read c v) t n costs ok at k pays = own_plain f m past a (deed.Read c v) v t n refl (hold m past a (deed.Read c v) ok).1.1.0 pays
own_pays w f m past a (deed.Write c v) t n costs ok at k pays = own_plain f m past a (deed.Write c v) 0 t n refl (hold m past a (deed.Write c v) ok).1.1.0 pays
own_pays w f m past a (deed.Push q) t n costs ok at k pays = own_plain f m past a (deed.Push q) 0 t n refl (hold m past a (deed.Push q) ok).1.1.0 pays
own_pays w f m past a (deed.Raise x) t n costs ok at k pays = own_plain f m past a (deed.Raise x) 0 t n refl (hold m past a (deed.Raise x) ok).1.1.0 pays
own_pays w f m past a (deed.Assert x) t n costs ok at k pays = own_plain f m past a (deed.Assert x) 0 t n refl (hold m past a (deed.Assert x) ok).1.1.0 pays
own_pays w f m past a (deed.Drop x) t n costs ok at k pays = own_plain f m past a (deed.Drop x) 0 t n refl (hold m past a (deed.Drop x) ok).1.1.0 pays
own_pays w f m past a (deed.Notify x v) t n costs ok at k pays = own_plain f m past a (deed.Notify x v) 0 t n refl (hold m past a (deed.Notify x v) ok).1.1.0 pays
own_pays w f m past a (deed.Up x) t n costs ok at k pays = own_plain f m past a (deed.Up x) 0 t n refl (hold m past a (deed.Up x) ok).1.1.0 pays
own_pays w f m past a (deed.Down x) t n costs ok at k pays = own_plain f m past a (deed.Down x) 0 t n refl (hold m past a (deed.Down x) ok).1.1.0 pays

-- another's entry leaves what this one asks
pub other_asked : (f : Act → ℕ) (m : MachineData) (past : List Entry) (a b : Actor) (d : Deed) → Allowed m past (record { actor = b; deed = d }) → same_actor a b ≡ false → asked_price f a (open_of past) ≤ asked_price f a (open_after b d (open_of past))
other_asked f m past a b (deed.Begin r) ok other = let none = asked_none f a (open_of past) (hold m past b (deed.Begin r) ok).1.1.1.0 in omega arith
other_asked f m past a b (deed.Take v) ok other = let none = asked_other f a b (open_of past) other (hold m past b (deed.Take v) ok).1.1.0 in omega arith
other_asked f m past a b (deed.Step g) ok other = let same = asked_moved f a (open_of past) in omega arith
other_asked f m past a b (deed.Ctl effect.Calm) ok other = omega arith
other_asked f m past a b (deed.Ctl effect.Taken) ok other = let same = asked_moved f a (open_of past) in omega arith
other_asked f m past a b (deed.Ctl effect.Put) ok other = let same = asked_moved f a (open_of past) in omega arith
other_asked f m past a b (deed.Ctl (effect.Out v)) ok other = let same = asked_put f a v (open_of past) in omega arith
other_asked f m past a b _ ok other = omega arith

abbrev pub Pays : (Option Job → ℕ) → (Actor → ℕ) → (Act → ℕ) → MachineData → List Entry → Actor → Type 0
Pays w v f m past a = PaysAt f a (stage a past) (plan_left m past a) (open_of past) (total (own a (charged f)) past) (v a + total (own a (started w m)) past)

-- the numbers may be written otherwise
pub recounted : (f : Act → ℕ) (a : Actor) (st : Stage) (p : Plan) (oo : Option Open) (t t' n n' : ℕ) → t' ≡ t → n' ≡ n → PaysAt f a st p oo t n → PaysAt f a st p oo t' n'
recounted f a st p oo t t' n n' ts ns pays = (pays.0, pays.1, (let within = pays.2 in omega arith))

pub pays : (w : Option Job → ℕ) (v : Actor → ℕ) (f : Act → ℕ) (m : MachineData) (a : Actor) → JobsCost f m w → FirstsCost f m v → (past : List Entry) → LegalPast m past → Pays w v f m past a
pays w v f m a costs firsts [] legal = (v a, firsts a, omega arith)
pays w v f m a costs firsts (e ∷ past) legal = at (same_actor a e.actor) refl (pays w v f m a costs firsts past legal.1)
  where
    mine : (b : Actor) (d : Deed) → a ≡ b → Allowed m past (record { actor = b; deed = d }) → Follows d (stage a past) → Pays w v f m past a → Pays w v f m (record { actor = b; deed = d } ∷ past) a
    mine b d same ok at before = subst (λ x. Allowed m past (record { actor = x; deed = d }) → Pays w v f m (record { actor = x; deed = d } ∷ past) a) same
        (λ allowed. rw (same_self a) (recounted f a _ _ _ (charge f d + total (own a (charged f)) past) _ (start_worth w (jobs m past) d + (v a + total (own a (started w m)) past)) _ refl (omega arith)
        (own_pays w f m past a d (total (own a (charged f)) past) (v a + total (own a (started w m)) past) costs allowed at (kept m past a legal.1) before)))
        ok

    beside : (d : Deed) (b : Actor) → same_actor a b ≡ false → Allowed m past (record { actor = b; deed = d }) → Pays w v f m past a → Pays w v f m (record { actor = b; deed = d } ∷ past) a
    beside d b other ok before = rw other (before.0, before.1, (let within = before.2 in let asks = other_asked f m past a b d ok other in omega arith))

    at : (x : Bool) → same_actor a e.actor ≡ x → Pays w v f m past a → Pays w v f m (e ∷ past) a
    at true same before = let is = same_actor-true a e.actor same in mine e.actor e.deed is legal.0 (follows_own m past a e is legal.1 legal.0) before
    at false other before = beside e.deed e.actor other legal.0 before

-- ---- at the end nothing is owed: what is in flight is still in the plan

pub owed_trying : (f : Act → ℕ) (x : Act) (b : Bool) (oo : Option Open) (a : Actor) → (b ≡ true → Some x ≡ Some act.Lock) → AsksAt a (Some x) oo → when b (f act.Lock) + asked_price f a oo ≤ f x
owed_trying f x true None a trying asks = let same : act.Lock ≡ x = (let both = trying refl in cc) in let price = ap f same in omega arith
owed_trying f x false None a trying asks = omega arith
owed_trying f x b (Some o) a trying asks = at (same_actor a o.by) refl b trying
  where
    at : (s : Bool) → same_actor a o.by ≡ s → (b : Bool) → (b ≡ true → Some x ≡ Some act.Lock) → when b (f act.Lock) + when s (f (act.Ask o.asks)) ≤ f x
    at true same true trying = let lock = trying refl in let ask = asks same in absurd (lock_ask o.asks (sym ask ∙ lock)) where
      lock_ask : (r : Request) → Some (act.Ask r) ≡ Some act.Lock → ⊥
      lock_ask r is = cc
    at true same false trying = let is : act.Ask o.asks ≡ x = (let ask = asks same in cc) in let price = ap f is in omega arith
    at false other true trying = let same : act.Lock ≡ x = (let both = trying refl in cc) in let price = ap f same in omega arith
    at false other false trying = omega arith

pub owed_none : (f : Act → ℕ) (b : Bool) (oo : Option Open) (a : Actor) → (b ≡ true → None ≡ Some act.Lock) → AsksAt a None oo → when b (f act.Lock) + asked_price f a oo ≡ 0
owed_none f true oo a trying asks = let both = trying refl in cc
owed_none f false None a trying asks = refl
owed_none f false (Some o) a trying asks = at (same_actor a o.by) refl
  where
    at : (s : Bool) → same_actor a o.by ≡ s → 0 + when s (f (act.Ask o.asks)) ≡ 0
    at true same = let both = asks same in cc
    at false other = refl

pub owed : (f : Act → ℕ) (a : Actor) (st : Stage) (p : Plan) (oo : Option Open) (k : ℕ) → (is_trying_at st ≡ true → next_act p ≡ Some act.Lock) → AsksAt a (next_act p) oo → Costs f p k → when (is_trying_at st) (f act.Lock) + asked_price f a oo ≤ k
owed f a st End oo k trying asks costs = let none = owed_none f (is_trying_at st) oo a trying asks in omega arith
owed f a st (Do needs x next) oo k trying asks costs = let most = owed_trying f x (is_trying_at st) oo a trying asks in let first = costs.1 in omega arith

-- what is charged is no more than the prices of the plans
pub few_paid : (w : Option Job → ℕ) (v : Actor → ℕ) (f : Act → ℕ) (m : MachineData) (a : Actor) → JobsCost f m w → FirstsCost f m v → (past : List Entry) → LegalPast m past → total (own a (charged f)) past ≤ v a + total (own a (started w m)) past
few_paid w v f m a costs firsts past legal =
    let p = pays w v f m a costs firsts past legal in
    let k = kept m past a legal in
    let all = owed f a (stage a past) (plan_left m past a) (open_of past) p.0 k.0 k.1 p.1 in
    let within = p.2 in
    omega arith
