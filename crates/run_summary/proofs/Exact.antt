-- What the entries of an actor are charged for, exactly: where every plan has one price, whatever its acts are answered.
use Rattle.std.proofs.Common.{ℕ, ◌+◌, ◌≡◌, Bool, true, false, List, [], ◌∷◌, slice_get, unwrap_or, Option, Some, None, refl, ap, subst, arith}
use Rattle.acpi_regs.specs.declared.actor.Actor.{Actor}
use Rattle.acpi_regs.specs.declared.entry.Deed.{Deed}
use Rattle.acpi_regs.specs.declared.entry.Deed.TheVariants as deed
use Rattle.acpi_regs.specs.declared.entry.Entry.{Entry}
use Rattle.acpi_regs.specs.declared.entry.Request.{Request}
use Rattle.acpi_regs.specs.Actor.{same_actor}
use Rattle.handler_script.specs.declared.act.Act.{Act}
use Rattle.handler_script.specs.declared.act.Act.TheVariants as act
use Rattle.handler_script.specs.Plan.{Plan, Do, End, next_act, plan_after}
use Rattle.machine_desc.specs.Machine.{MachineData}
use Rattle.machine_history.specs.declared.parts.Job.{Job}
use Rattle.machine_history.specs.Jobs.{jobs}
use Rattle.machine_history.specs.Legal.{Allowed, LegalPast, asked_by, is_worker}
use Rattle.machine_history.specs.Scripts.{first_plan, job_plan, left_after, next_of, plan_left}
use Rattle.machine_history.specs.Wire.{open_of}
use Rattle.machine_history.proofs.Keeping.{Kept, is_plain, kept, opener_asks, some_asked, start_free}
use Rattle.machine_history.proofs.Known.{hold, is_none-none, same_actor-true, same_self}
use Rattle.machine_history.proofs.Paying.{plain_act, start_worth, started}
use Rattle.machine_history.proofs.Prices.{charge, charged}
use Rattle.machine_history.proofs.Stages.{Follows, follows_own, is_trying_at, stage}
use Rattle.machine_history.proofs.Totals.{own, total}

-- ---- plans

-- whatever its acts are answered, a plan costs n
abbrev pub Counts : (Act → ℕ) → Plan → ℕ → Type 0
Counts price End n = n ≡ 0
Counts price (Do needs a next) n = (rest : ℕ) × (n ≡ price a + rest) × ((byte : ℕ) → Counts price (next byte) rest)

-- A Lock and a request cost nothing: each of them is charged for at one entry and passed at a later one.
pub record IsPrompt (price : Act → ℕ) : Type 0 where
  pub lock : price act.Lock ≡ 0
  pub asks : (r : Request) → price (act.Ask r) ≡ 0

pub next_count : (f : Act → ℕ) (p : Plan) (k byte : ℕ) (x : Act) → next_act p ≡ Some x → Counts f p k → (j : ℕ) × (k ≡ f x + j) × Counts f (plan_after byte p) j
next_count f End k byte x next counts = cc
next_count f (Do needs a more) k byte x next counts =
    let same : a ≡ x = cc in
    (counts.0, subst (λ y. k ≡ f y + counts.0) same counts.1, counts.2 byte)

pub ended : (f : Act → ℕ) (p : Plan) (k : ℕ) → p ≡ End → Counts f p k → k ≡ 0
ended f p k is counts = subst (λ x. Counts f x k) is counts

pub is_end : (p : Plan) → next_act p ≡ None → p ≡ End
is_end End none = refl
is_end (Do needs a next) none = cc

-- ---- one actor

-- what was charged and what is left is what was allowed
abbrev pub CountsAt : (Act → ℕ) → Plan → ℕ → ℕ → Type 0
CountsAt f p t n = (k : ℕ) × Counts f p k × (t + k ≡ n)

-- the prices of whole plans: of each job that this actor may start, and of what it has before it at the start
abbrev pub JobsCount : (Act → ℕ) → MachineData → Actor → (Option Job → ℕ) → Type 0
JobsCount f m a w = is_worker m a ≡ true → (j : Option Job) → Counts f (job_plan m j) (w j)

abbrev pub Counted : (Option Job → ℕ) → (Act → ℕ) → MachineData → List Entry → Actor → Deed → ℕ → ℕ → Type 0
Counted w f m past a d t n = CountsAt f (left_after m (jobs m past) d (plan_left m past a)) (charge f d + t) (start_worth w (jobs m past) d + n)

pub own_plain : (f : Act → ℕ) (m : MachineData) (past : List Entry) (a : Actor) (d : Deed) (byte t n : ℕ) → is_plain d ≡ true → asked_by (next_of m past a) d ≡ true
    → CountsAt f (plan_left m past a) t n → CountsAt f (plan_after byte (plan_left m past a)) (charge f d + t) (0 + n)
own_plain f m past a d byte t n plain is counts =
    let next = some_asked (next_of m past a) d is in
    let price = plain_act f next.0 d plain next.2 in
    let paid = next_count f (plan_left m past a) counts.0 byte next.0 next.1 counts.1 in
    let all : t + counts.0 ≡ n = counts.2 in
    let first : counts.0 ≡ f next.0 + paid.0 = paid.1 in
    (paid.0, paid.2, omega arith)

pub own_counts : (w : Option Job → ℕ) (f : Act → ℕ) (m : MachineData) (past : List Entry) (a : Actor) (d : Deed) (t n : ℕ) → IsPrompt f → JobsCount f m a w → Allowed m past (record { actor = a; deed = d }) → Follows d (stage a past) → Kept m past a
    → CountsAt f (plan_left m past a) t n → Counted w f m past a d t n
own_counts w f m past a deed.Seek t n prompt costs ok at k counts =
    let free = prompt.lock in
    (counts.0, counts.1, (let all = counts.2 in omega arith))
own_counts w f m past a deed.Own t n prompt costs ok at k counts =
    let free = prompt.lock in
    let paid = next_count f (plan_left m past a) counts.0 0 act.Lock (k.0 (ap is_trying_at at)) counts.1 in
    (paid.0, paid.2, (let first = paid.1 in let all = counts.2 in omega arith))
own_counts w f m past a deed.Disown t n prompt costs ok at k counts = own_plain f m past a deed.Disown 0 t n refl (hold m past a deed.Disown ok).1.1.1.0 counts
own_counts w f m past a (deed.Begin r) t n prompt costs ok at k counts =
    let free = prompt.asks r in
    (counts.0, counts.1, (let all = counts.2 in omega arith))
own_counts w f m past a (deed.Take v) t n prompt costs ok at k counts =
    let o = opener_asks a (next_of m past a) (open_of past) (hold m past a (deed.Take v) ok).1.1.0 k.1 in
    let free = prompt.asks o.0.asks in
    let paid = next_count f (plan_left m past a) counts.0 (unwrap_or v 0) (act.Ask o.0.asks) o.3 counts.1 in
    (paid.0, paid.2, (let first = paid.1 in let all = counts.2 in omega arith))
own_counts w f m past a (deed.Start j) t n prompt costs ok at k counts =
    let h = hold m past a (deed.Start j) ok in
    let none = ended f (plan_left m past a) counts.0 (k.2 h.0 (start_free m past a j h.1.1.0)) counts.1 in
    (w (slice_get (jobs m past) j), costs h.0 (slice_get (jobs m past) j), (let all = counts.2 in omega arith))
own_counts w f m past a (deed.Finish j) t n prompt costs ok at k counts =
    let none = ended f (plan_left m past a) counts.0 (is_end (plan_left m past a) (is_none-none (next_of m past a) (hold m past a (deed.Finish j) ok).1.1.1.0)) counts.1 in
    (0, refl, (let all = counts.2 in omega arith))
own_counts w f m past a (deed.Read c v) t n prompt costs ok at k counts = own_plain f m past a (deed.Read c v) v t n refl (hold m past a (deed.Read c v) ok).1.1.0 counts
own_counts w f m past a (deed.Write c v) t n prompt costs ok at k counts = own_plain f m past a (deed.Write c v) 0 t n refl (hold m past a (deed.Write c v) ok).1.1.0 counts
own_counts w f m past a (deed.Push q) t n prompt costs ok at k counts = own_plain f m past a (deed.Push q) 0 t n refl (hold m past a (deed.Push q) ok).1.1.0 counts
own_counts w f m past a (deed.Raise x) t n prompt costs ok at k counts = own_plain f m past a (deed.Raise x) 0 t n refl (hold m past a (deed.Raise x) ok).1.1.0 counts
own_counts w f m past a (deed.Assert x) t n prompt costs ok at k counts = own_plain f m past a (deed.Assert x) 0 t n refl (hold m past a (deed.Assert x) ok).1.1.0 counts
own_counts w f m past a (deed.Drop x) t n prompt costs ok at k counts = own_plain f m past a (deed.Drop x) 0 t n refl (hold m past a (deed.Drop x) ok).1.1.0 counts
own_counts w f m past a (deed.Notify x v) t n prompt costs ok at k counts = own_plain f m past a (deed.Notify x v) 0 t n refl (hold m past a (deed.Notify x v) ok).1.1.0 counts
own_counts w f m past a (deed.Up x) t n prompt costs ok at k counts = own_plain f m past a (deed.Up x) 0 t n refl (hold m past a (deed.Up x) ok).1.1.0 counts
own_counts w f m past a (deed.Down x) t n prompt costs ok at k counts = own_plain f m past a (deed.Down x) 0 t n refl (hold m past a (deed.Down x) ok).1.1.0 counts
own_counts w f m past a _ t n prompt costs ok at k counts = (counts.0, counts.1, (let all = counts.2 in omega arith))

abbrev pub CountsOf : (Option Job → ℕ) → ℕ → (Act → ℕ) → MachineData → List Entry → Actor → Type 0
CountsOf w v f m past a = CountsAt f (plan_left m past a) (total (own a (charged f)) past) (v + total (own a (started w m)) past)

pub recounted : (f : Act → ℕ) (p : Plan) (t t' n n' : ℕ) → t' ≡ t → n' ≡ n → CountsAt f p t n → CountsAt f p t' n'
recounted f p t t' n n' ts ns counts = (counts.0, counts.1, (let all = counts.2 in omega arith))

-- what an actor's entries were charged for and what it has left is the price of what it had before it and of the jobs that it started
pub counts_of : (w : Option Job → ℕ) (v : ℕ) (f : Act → ℕ) (m : MachineData) (a : Actor) → IsPrompt f → JobsCount f m a w → Counts f (first_plan m a) v → (past : List Entry) → LegalPast m past → CountsOf w v f m past a
counts_of w v f m a prompt costs first [] legal = (v, first, omega arith)
counts_of w v f m a prompt costs first (e ∷ past) legal = at (same_actor a e.actor) refl (counts_of w v f m a prompt costs first past legal.1)
  where
    mine : (b : Actor) (d : Deed) → a ≡ b → Allowed m past (record { actor = b; deed = d }) → Follows d (stage a past) → CountsOf w v f m past a → CountsOf w v f m (record { actor = b; deed = d } ∷ past) a
    mine b d same ok follows before = subst (λ x. Allowed m past (record { actor = x; deed = d }) → CountsOf w v f m (record { actor = x; deed = d } ∷ past) a) same
        (λ allowed. rw (same_self a) (recounted f (left_after m (jobs m past) d (plan_left m past a))
        (charge f d + total (own a (charged f)) past) _ (start_worth w (jobs m past) d + (v + total (own a (started w m)) past)) _ refl (omega arith)
        (own_counts w f m past a d (total (own a (charged f)) past) (v + total (own a (started w m)) past) prompt costs allowed follows (kept m past a legal.1) before))) ok

    beside : (d : Deed) (b : Actor) → same_actor a b ≡ false → CountsOf w v f m past a → CountsOf w v f m (record { actor = b; deed = d } ∷ past) a
    beside d b other before = rw other (recounted f (plan_left m past a) (total (own a (charged f)) past) _ (v + total (own a (started w m)) past) _ (omega arith) (omega arith) before)

    at : (x : Bool) → same_actor a e.actor ≡ x → CountsOf w v f m past a → CountsOf w v f m (e ∷ past) a
    at true same before = let is = same_actor-true a e.actor same in mine e.actor e.deed is legal.0 (follows_own m past a e is legal.1 legal.0) before
    at false other before = beside e.deed e.actor other before

-- where nothing is left, what was charged is the price
pub counted_all : (w : Option Job → ℕ) (v : ℕ) (f : Act → ℕ) (m : MachineData) (a : Actor) → IsPrompt f → JobsCount f m a w → Counts f (first_plan m a) v → (past : List Entry) → LegalPast m past → plan_left m past a ≡ End
    → total (own a (charged f)) past ≡ v + total (own a (started w m)) past
counted_all w v f m a prompt costs first past legal end =
    let counts = counts_of w v f m a prompt costs first past legal in
    let none = ended f (plan_left m past a) counts.0 end counts.1 in
    let all = counts.2 in
    omega arith
