-- What has been added to a cell, and what is still to be added, is what the scripts add in all.
use Rattle.std.proofs.Common.{ℕ, ◌+◌, ◌-◌, ◌%◌, ◌<◌, ◌≡◌, ◌⊎◌, inl, inr, ◌&&◌, Bool, true, false, List, [], ◌∷◌, Option, Some, None, slice_get, unwrap_or, if◌then◌else◌, refl, sym, ap, ◌∙◌, subst, arith}
use Rattle.std.proofs.lemmas.Bool.{eqb-true}
use Rattle.acpi_regs.specs.declared.actor.Actor.{Actor}
use Rattle.acpi_regs.specs.declared.entry.Cell.{Cell}
use Rattle.acpi_regs.specs.declared.entry.Deed.{Deed}
use Rattle.acpi_regs.specs.declared.entry.Deed.TheVariants as deed
use Rattle.acpi_regs.specs.declared.entry.Effect.{Effect}
use Rattle.acpi_regs.specs.declared.entry.Effect.TheVariants as effect
use Rattle.acpi_regs.specs.declared.entry.Entry.{Entry}
use Rattle.acpi_regs.specs.declared.entry.Request.{Request}
use Rattle.acpi_regs.specs.declared.entry.Request.TheVariants as request
use Rattle.acpi_regs.specs.Actor.{same_actor}
use Rattle.acpi_regs.specs.Lock.{owner}
use Rattle.handler_script.specs.declared.act.Act.{Act}
use Rattle.handler_script.specs.declared.act.Act.TheVariants as act
use Rattle.handler_script.specs.Plan.{Plan, Do, End, next_act, plan_after}
use Rattle.machine_desc.specs.Kept.{IsMachine}
use Rattle.machine_desc.specs.Machine.{MachineData}
use Rattle.machine_history.specs.declared.parts.Access.{Access}
use Rattle.machine_history.specs.declared.parts.Job.{Job}
use Rattle.machine_history.specs.Cells.{first_byte}
use Rattle.machine_history.specs.Jobs.{jobs}
use Rattle.machine_history.specs.Legal.{Allowed, LegalPast, asked, asked_by}
use Rattle.machine_history.specs.Machine.{space}
use Rattle.machine_history.specs.Last.{write_to}
use Rattle.machine_history.specs.Scripts.{first_plan, job_plan, left_after, next_of, plan_left}
use Rattle.machine_history.specs.Values.{access_of, ctl_access, open_access, same_cell, value, value_after}
use Rattle.machine_history.specs.Wire.{Open, open_of}
use Rattle.machine_history.proofs.Keeping.{Kept, kept, opener_asks, some_asked, start_free}
use Rattle.machine_history.proofs.Known.{hold, is_none-none, same_actor-true, same_cell-true, same_self, some-injective}
use Rattle.machine_history.specs.Exclusion.{needs_lock}
use Rattle.machine_history.proofs.Owning.{next_read, next_write, owned_where_needed}
use Rattle.machine_history.proofs.Paying.{start_worth, started}
use Rattle.machine_history.proofs.Stages.{Follows, follows_own, is_trying_at, stage}
use Rattle.machine_history.proofs.Totals.{Count, own, total}
use Rattle.core_laws.proofs.AddPlans.{Adds, is_quiet}

-- ---- what an entry adds

-- a write of u over an old byte adds their difference, modulo 256
abbrev pub amount_of : ℕ → Option ℕ → ℕ
amount_of old None = 0
amount_of old (Some u) = (u + (256 - old)) % 256

abbrev pub amount : MachineData → Cell → Count
amount m c past e = amount_of (value m past c) (write_to c (access_of m past e))

pub value_step : (c : Cell) (x : Option Access) (old : ℕ) → value_after c x old ≡ unwrap_or (write_to c x) old
value_step c None old = refl
value_step c (Some a) old = at (a.writes && same_cell a.cell c)
  where
    at : (b : Bool) → (if b then a.byte else old) ≡ unwrap_or (if b then Some a.byte else None) old
    at true = refl
    at false = refl

-- the cell lies apart from the controller's space
abbrev pub Apart : MachineData → Cell → Type 0
Apart m c = (x : ℕ) → same_cell (space m x) c ≡ false

pub ctl_apart : (m : MachineData) (c : Cell) (a : Actor) (r : Request) (e : Effect) → Apart m c → write_to c (ctl_access m a r e) ≡ None
ctl_apart m c a (request.Wr x w) effect.Put apart = rw (apart x) refl
ctl_apart m c a (request.Wr x w) _ apart = refl
ctl_apart m c a (request.Rd x) (effect.Out v) apart = refl
ctl_apart m c a (request.Rd x) _ apart = refl
ctl_apart m c a request.Be e apart = refl
ctl_apart m c a request.Bd e apart = refl
ctl_apart m c a request.Qr e apart = refl

pub open_apart : (m : MachineData) (c : Cell) (oo : Option Open) (e : Effect) → Apart m c → write_to c (open_access m oo e) ≡ None
open_apart m c None e apart = refl
open_apart m c (Some o) e apart = ctl_apart m c o.by o.asks e apart

-- ---- what a plan adds, act by act

-- the byte that is about to be written is the cell's and what is added; and this is how much
abbrev pub InHand : ℕ → Option ℕ → ℕ → Type 0
InHand v None hand = hand ≡ 0
InHand v (Some w) hand = w ≡ (v + hand) % 256

pub some_needs : (c : Cell) (w n : ℕ) (p : Plan) → Adds c (Some w) n p → needs_lock p ≡ true
some_needs c w n End adds = absurd adds
some_needs c w n (Do needs (act.Write d u) next) adds = adds.0
some_needs c w n (Do needs _ next) adds = absurd adds

-- a quiet act is passed with nothing in hand, and nothing is added
pub quiet_passed : (c : Cell) (mode : Option ℕ) (n byte : ℕ) (p : Plan) (x : Act) → next_act p ≡ Some x → is_quiet x ≡ true → Adds c mode n p → (mode ≡ None) × Adds c None n (plan_after byte p)
quiet_passed c mode n byte End x next quiet adds = cc
quiet_passed c None n byte (Do needs a more) x next quiet adds = (refl, at a adds (ap is_quiet (some-injective a x next) ∙ quiet))
  where
    at : (a : Act) → Adds c None n (Do needs a more) → is_quiet a ≡ true → Adds c None n (more byte)
    at (act.Read d) adds quiet = cc
    at (act.Write d u) adds quiet = cc
    at _ adds quiet = adds byte
quiet_passed c (Some w) n byte (Do needs a more) x next quiet adds = at a adds (ap is_quiet (some-injective a x next) ∙ quiet)
  where
    at : (a : Act) → Adds c (Some w) n (Do needs a more) → is_quiet a ≡ true → (Some w ≡ None) × Adds c None n (more byte)
    at (act.Write d u) adds quiet = cc
    at _ adds quiet = absurd adds

-- what is left, in hand and to come, before and after an act: the cell's byte is v before it
abbrev pub Left : Cell → ℕ → ℕ → Plan → Type 0
Left c v n p = (mode : Option ℕ) × (hand : ℕ) × (rest : ℕ) × Adds c mode rest p × InHand v mode hand × (n ≡ hand + rest)

pub quiet_left : (c : Cell) (v n byte : ℕ) (p : Plan) (x : Act) → next_act p ≡ Some x → is_quiet x ≡ true → Left c v n p → Left c v n (plan_after byte p)
quiet_left c v n byte p x next quiet (mode, hand, rest, adds, at, is) =
    let passed = quiet_passed c mode rest byte p x next quiet adds in
    (None, hand, rest, passed.1, subst (λ o. InHand v o hand) passed.0 at, is)

-- a read of the cell takes into hand what is added; one of another cell leaves all
pub read_left : (c : Cell) (v n : ℕ) (p : Plan) (d : Cell) → v < 256 → next_act p ≡ Some (act.Read d) → (b : ℕ) → (same_cell d c ≡ true → b ≡ v) → Left c v n p → Left c v n (plan_after b p)
read_left c v n End d small next b is left = cc
read_left c v n (Do needs a more) d small next b is (Some w, hand, rest, adds, at, sum) = absurd (subst (λ x. Adds c (Some w) rest (Do needs x more)) (some-injective a (act.Read d) next) adds)
read_left c v n (Do needs a more) d small next b is (None, hand, rest, adds, at, sum) = by_cell (same_cell d c) refl
  where
    reads : Adds c None rest (Do needs (act.Read d) more)
    reads = subst (λ x. Adds c None rest (Do needs x more)) (some-injective a (act.Read d) next) adds

    by_cell : (t : Bool) → same_cell d c ≡ t → Left c v n (more b)
    by_cell false other = (None, hand, rest, reads.0 other b, at, sum)
    by_cell true same =
        let after = reads.1 same in
        let x = after.1 in
        let byte : b ≡ v = is same in
        let split : rest ≡ x + after.2 = after.3 in
        let none : hand ≡ 0 = at in
        (Some ((b + x) % 256), x, after.2, after.4 b (subst (λ k. k < 256) (sym byte) small), ap (λ k. (k + x) % 256) byte, sum ∙ omega arith)

-- a write of the cell writes what was read and what was in hand; a write of another leaves all
abbrev pub Wrote : Cell → Cell → ℕ → ℕ → ℕ → Plan → Type 0
Wrote c d v n u p = (same_cell d c ≡ false → Left c v n (plan_after 0 p)) × (same_cell d c ≡ true → (needs_lock p ≡ true) × (hand : ℕ) × (rest : ℕ) × (u ≡ (v + hand) % 256) × (n ≡ hand + rest) × Left c u rest (plan_after 0 p))

pub write_left : (c : Cell) (v n : ℕ) (p : Plan) (d : Cell) (u : ℕ) → next_act p ≡ Some (act.Write d u) → Left c v n p → Wrote c d v n u p
write_left c v n End d u next left = cc
write_left c v n (Do needs a more) d u next (None, hand, rest, adds, at, sum) =
    let writes : Adds c None rest (Do needs (act.Write d u) more) = subst (λ x. Adds c None rest (Do needs x more)) (some-injective a (act.Write d u) next) adds in
    (λ other. (None, hand, rest, writes.1 0, at, sum), λ same. never (same_cell d c) writes.0 same)
  where
    never : {X : Type 0} (b : Bool) → b ≡ false → b ≡ true → X
    never b isnt is = cc
write_left c v n (Do needs a more) d u next (Some w, hand, rest, adds, at, sum) =
    let writes : Adds c (Some w) rest (Do needs (act.Write d u) more) = subst (λ x. Adds c (Some w) rest (Do needs x more)) (some-injective a (act.Write d u) next) adds in
    (λ other. never (same_cell d c) other writes.1, λ same. (writes.0, hand, rest, writes.2 ∙ at, sum, (None, 0, rest, writes.3 0, refl, omega arith)))
  where
    never : {X : Type 0} (b : Bool) → b ≡ false → b ≡ true → X
    never b isnt is = cc

-- nothing is left at the end
pub end_left : (c : Cell) (v n : ℕ) → Left c v n End → n ≡ 0
end_left c v n (None, hand, rest, adds, at, sum) = let none : rest ≡ 0 = adds in let empty : hand ≡ 0 = at in sum ∙ omega arith
end_left c v n (Some w, hand, rest, adds, at, sum) = absurd adds

pub none_end : (p : Plan) → next_act p ≡ None → p ≡ End
none_end End none = refl
none_end (Do needs a more) none = cc

-- where nothing is in hand the cell may have any byte
pub unlocked_left : (c : Cell) (v v' n : ℕ) (p : Plan) → (needs_lock p ≡ true → ⊥) → Left c v n p → Left c v' n p
unlocked_left c v v' n p free (None, hand, rest, adds, at, sum) = (None, hand, rest, adds, at, sum)
unlocked_left c v v' n p free (Some w, hand, rest, adds, at, sum) = absurd (free (some_needs c w rest p adds))

-- ---- the account of an actor

-- what each actor has before it at the start adds so much, and what each job has to do
pub record Sums (m : MachineData) (c : Cell) (v : Actor → ℕ) (w : Option Job → ℕ) : Type 0 where
  pub apart : Apart m c
  pub byte : first_byte m c < 256
  pub firsts : (a : Actor) → Adds c None (v a) (first_plan m a)
  pub jobs : (j : Option Job) → Adds c None (w j) (job_plan m j)

-- what it has added, and what is left, is what it was given, modulo 256
abbrev pub Account : MachineData → Cell → (Actor → ℕ) → (Option Job → ℕ) → List Entry → Actor → Type 0
Account m c v w past a = (n : ℕ) × Left c (value m past c) n (plan_left m past a) × ((total (own a (amount m c)) past + n) % 256 ≡ (v a + total (own a (started w m)) past) % 256)

abbrev pub entry : Actor → Deed → Entry
entry a d = record { actor = a; deed = d }

abbrev pub Next : MachineData → Cell → (Option Job → ℕ) → List Entry → Actor → Deed → ℕ → ℕ → Type 0
Next m c w past a d t s = (n : ℕ) × Left c (value m (entry a d ∷ past) c) n (left_after m (jobs m past) d (plan_left m past a)) × (((amount m c past (entry a d) + t) + n) % 256 ≡ (start_worth w (jobs m past) d + s) % 256)

abbrev pub is_access : Deed → Bool
is_access (deed.Read d v) = true
is_access (deed.Write d v) = true
is_access _ = false

pub quiet_asked : (x : Act) (d : Deed) → is_access d ≡ false → asked x d ≡ true → is_quiet x ≡ true
quiet_asked (act.Read y) (deed.Read e v) other is = cc
quiet_asked (act.Read y) _ other is = cc
quiet_asked (act.Write y u) (deed.Write e v) other is = cc
quiet_asked (act.Write y u) _ other is = cc
quiet_asked _ d other is = refl

module _ (m : MachineData) (c : Cell) (v : Actor → ℕ) (w : Option Job → ℕ) (sums : Sums m c v w) (past : List Entry) (legal : LegalPast m past) (small : value m past c < 256) where
  -- the cell after an entry that does not write it
  kept_value : (e : Entry) → write_to c (access_of m past e) ≡ None → value m (e ∷ past) c ≡ value m past c
  kept_value e none = value_step c (access_of m past e) (value m past c) ∙ ap (λ o. unwrap_or o (value m past c)) none

  -- its own act that is neither a read nor a write
  plain : (a : Actor) (d : Deed) (n t s : ℕ) → is_access d ≡ false → asked_by (next_of m past a) d ≡ true → Left c (value m past c) n (plan_left m past a) → Left c (value m past c) n (plan_after 0 (plan_left m past a))
  plain a d n t s other is left =
      let next = some_asked (next_of m past a) d is in
      quiet_left c (value m past c) n 0 (plan_left m past a) next.0 next.1 (quiet_asked next.0 d other next.2) left

  own_next : (a : Actor) (d : Deed) (n t s : ℕ) → Allowed m past (entry a d) → Follows d (stage a past) → Kept m past a → Left c (value m past c) n (plan_left m past a) → (t + n) % 256 ≡ s % 256 → Next m c w past a d t s
  own_next a deed.Seek n t s ok f k left sum = (n, left, omega arith)
  own_next a deed.Busy n t s ok f k left sum = (n, left, omega arith)
  own_next a deed.Woken n t s ok f k left sum = (n, left, omega arith)
  own_next a (deed.Leave b) n t s ok f k left sum = (n, left, omega arith)
  own_next a (deed.Begin r) n t s ok f k left sum = (n, left, omega arith)
  own_next a (deed.Step h) n t s ok f k left sum = (n, left, omega arith)
  own_next a (deed.Latch x) n t s ok f k left sum = (n, left, omega arith)
  own_next a (deed.Claim x) n t s ok f k left sum = (n, left, omega arith)
  own_next a (deed.Ctl e) n t s ok f k left sum =
      let none = open_apart m c (open_of past) e sums.apart in
      let nothing : amount m c past (entry a (deed.Ctl e)) ≡ 0 = ap (amount_of (value m past c)) none in
      (n, subst (λ x. Left c x n (plan_left m past a)) (sym (kept_value (entry a (deed.Ctl e)) none)) left, omega arith)
  own_next a deed.Own n t s ok f k left sum = (n, quiet_left c (value m past c) n 0 (plan_left m past a) act.Lock (k.0 (ap is_trying_at f)) refl left, omega arith)
  own_next a deed.Disown n t s ok f k left sum = (n, plain a deed.Disown n t s refl (hold m past a deed.Disown ok).1.1.1.0 left, omega arith)
  own_next a (deed.Take b) n t s ok f k left sum =
      let o = opener_asks a (next_of m past a) (open_of past) (hold m past a (deed.Take b) ok).1.1.0 k.1 in
      (n, quiet_left c (value m past c) n (unwrap_or b 0) (plan_left m past a) (act.Ask o.0.asks) o.3 refl left, omega arith)
  own_next a (deed.Start j) n t s ok f k left sum =
      let h = hold m past a (deed.Start j) ok in
      let over = k.2 h.0 (start_free m past a j h.1.1.0) in
      let none = end_left c (value m past c) n (subst (Left c (value m past c) n) over left) in
      (w (slice_get (jobs m past) j), (None, 0, w (slice_get (jobs m past) j), sums.jobs (slice_get (jobs m past) j), refl, omega arith), omega arith)
  own_next a (deed.Finish j) n t s ok f k left sum =
      let over = none_end (plan_left m past a) (is_none-none (next_of m past a) (hold m past a (deed.Finish j) ok).1.1.1.0) in
      let none = end_left c (value m past c) n (subst (Left c (value m past c) n) over left) in
      (0, (None, 0, 0, refl, refl, refl), omega arith)
  own_next a (deed.Read d b) n t s ok f k left sum =
      let h = hold m past a (deed.Read d b) ok in
      (n, read_left c (value m past c) n (plan_left m past a) d small (next_read (next_of m past a) d b h.1.1.0) b (λ same. eqb-true b (value m past d) h.1.1.1.0 ∙ ap (value m past) (same_cell-true d c same)) left, omega arith)
  own_next a (deed.Write d u) n t s ok f k left sum = by_cell (same_cell d c) refl (write_left c (value m past c) n (plan_left m past a) d u (next_write (next_of m past a) d u (hold m past a (deed.Write d u) ok).1.1.0) left)
    where
      by_cell : (b : Bool) → same_cell d c ≡ b → Wrote c d (value m past c) n u (plan_left m past a) → Next m c w past a (deed.Write d u) t s
      by_cell false other wrote = rw other (n, wrote.0 other, omega arith)
      by_cell true same wrote =
          let its = wrote.1 same in
          let sum_is : u ≡ (value m past c + its.1) % 256 = its.3 in
          let split : n ≡ its.1 + its.2 = its.4 in
          rw same (its.2, its.5, omega arith)
  own_next a (deed.Push q) n t s ok f k left sum = (n, plain a (deed.Push q) n t s refl (hold m past a (deed.Push q) ok).1.1.0 left, omega arith)
  own_next a (deed.Raise x) n t s ok f k left sum = (n, plain a (deed.Raise x) n t s refl (hold m past a (deed.Raise x) ok).1.1.0 left, omega arith)
  own_next a (deed.Assert x) n t s ok f k left sum = (n, plain a (deed.Assert x) n t s refl (hold m past a (deed.Assert x) ok).1.1.0 left, omega arith)
  own_next a (deed.Drop x) n t s ok f k left sum = (n, plain a (deed.Drop x) n t s refl (hold m past a (deed.Drop x) ok).1.1.0 left, omega arith)
  own_next a (deed.Notify x b) n t s ok f k left sum = (n, plain a (deed.Notify x b) n t s refl (hold m past a (deed.Notify x b) ok).1.1.0 left, omega arith)
  own_next a (deed.Up x) n t s ok f k left sum = (n, plain a (deed.Up x) n t s refl (hold m past a (deed.Up x) ok).1.1.0 left, omega arith)
  own_next a (deed.Down x) n t s ok f k left sum = (n, plain a (deed.Down x) n t s refl (hold m past a (deed.Down x) ok).1.1.0 left, omega arith)

  -- who writes the cell owns the lock, and writes a byte
  written : (b : Actor) (d : Deed) → IsMachine m → Allowed m past (entry b d) → Account m c v w past b
      → (write_to c (access_of m past (entry b d)) ≡ None) ⊎ ((u : ℕ) × (write_to c (access_of m past (entry b d)) ≡ Some u) × (u < 256) × (owner past ≡ Some b))
  written b (deed.Read d x) is ok account = inl refl
  written b (deed.Ctl e) is ok account = inl (open_apart m c (open_of past) e sums.apart)
  written b (deed.Write d u) is ok account = by_cell (same_cell d c) refl (write_left c (value m past c) account.0 (plan_left m past b) d u (next_write (next_of m past b) d u (hold m past b (deed.Write d u) ok).1.1.0) account.1)
    where
      by_cell : (t : Bool) → same_cell d c ≡ t → Wrote c d (value m past c) account.0 u (plan_left m past b)
          → (write_to c (access_of m past (entry b (deed.Write d u))) ≡ None) ⊎ ((x : ℕ) × (write_to c (access_of m past (entry b (deed.Write d u))) ≡ Some x) × (x < 256) × (owner past ≡ Some b))
      by_cell false other wrote = inl (rw other refl)
      by_cell true same wrote =
          let its = wrote.1 same in
          let sum_is : u ≡ (value m past c + its.1) % 256 = its.3 in
          inr (u, rw same refl, omega arith, owned_where_needed m is past b legal its.0)
  written b _ is ok account = inl refl

  -- another's entry leaves what an actor has left
  beside_left : (a b : Actor) (d : Deed) (n : ℕ) → IsMachine m → same_actor a b ≡ false → Allowed m past (entry b d) → Account m c v w past b → Left c (value m past c) n (plan_left m past a) → Left c (value m (entry b d ∷ past) c) n (plan_left m past a)
  beside_left a b d n is other ok account left = elim (written b d is ok account) [
    | inl none ↦ subst (λ x. Left c x n (plan_left m past a)) (sym (kept_value (entry b d) none)) left
    | inr some ↦ unlocked_left c (value m past c) (value m (entry b d ∷ past) c) n (plan_left m past a)
        (λ needs. apart (some-injective a b (sym (owned_where_needed m is past a legal needs) ∙ some.3))) left
  ]
    where
      apart : a ≡ b → ⊥
      apart same = never (same_actor a b) other (subst (λ x. same_actor a x ≡ true) same (same_self a))
        where
          never : (t : Bool) → t ≡ false → t ≡ true → ⊥
          never t isnt is = cc

  -- the byte of the cell is its first and all that was added
  value_next : (b : Actor) (d : Deed) (first : ℕ) → IsMachine m → Allowed m past (entry b d) → Account m c v w past b → value m past c ≡ (first + total (amount m c) past) % 256
      → value m (entry b d ∷ past) c ≡ (first + (amount m c past (entry b d) + total (amount m c) past)) % 256
  value_next b d first is ok account before = elim (written b d is ok account) [
    | inl none ↦
        let same = kept_value (entry b d) none in
        let nothing : amount m c past (entry b d) ≡ 0 = ap (amount_of (value m past c)) none in
        same ∙ (before ∙ omega arith)
    | inr some ↦
        let u = some.0 in
        let new : value m (entry b d ∷ past) c ≡ u = value_step c (access_of m past (entry b d)) (value m past c) ∙ ap (λ o. unwrap_or o (value m past c)) some.1 in
        let adds : amount m c past (entry b d) ≡ (u + (256 - value m past c)) % 256 = ap (amount_of (value m past c)) some.1 in
        let fits : u < 256 = some.2 in
        new ∙ omega arith
  ]

-- ---- every history

abbrev pub Accounts : MachineData → Cell → (Actor → ℕ) → (Option Job → ℕ) → List Entry → Type 0
Accounts m c v w past = (value m past c ≡ (first_byte m c + total (amount m c) past) % 256) × ((a : Actor) → Account m c v w past a)

pub accounts_next : (m : MachineData) (c : Cell) (v : Actor → ℕ) (w : Option Job → ℕ) → IsMachine m → Sums m c v w → (e : Entry) (past : List Entry) → Allowed m past e → LegalPast m past → Accounts m c v w past → Accounts m c v w (e ∷ past)
accounts_next m c v w is sums e past ok legal before = (
  value_next m c v w sums past legal small e.actor e.deed (first_byte m c) is ok (before.1 e.actor) before.0,
  λ a. at a (same_actor a e.actor) refl,
)
  where
    small : value m past c < 256
    small = let byte = before.0 in omega arith

    mine : (a b : Actor) (d : Deed) → a ≡ b → Allowed m past (entry b d) → Follows d (stage a past) → Account m c v w past a → Account m c v w (entry b d ∷ past) a
    mine a b d same allowed at account = subst (λ x. Allowed m past (entry x d) → Account m c v w (entry x d ∷ past) a) same
        (λ allowed. (let next = own_next m c v w sums past legal small a d account.0 (total (own a (amount m c)) past) (v a + total (own a (started w m)) past) allowed at (kept m past a legal) account.1 account.2 in
        let sum : ((amount m c past (entry a d) + total (own a (amount m c)) past) + next.0) % 256 ≡ (start_worth w (jobs m past) d + (v a + total (own a (started w m)) past)) % 256 = next.2 in
        rw (same_self a) (next.0, next.1, sum ∙ omega arith)))
        allowed

    beside : (a b : Actor) (d : Deed) → same_actor a b ≡ false → Allowed m past (entry b d) → Account m c v w past b → Account m c v w past a → Account m c v w (entry b d ∷ past) a
    beside a b d other allowed writer account =
        let left = beside_left m c v w sums past legal small a b d account.0 is other allowed writer account.1 in
        let sum : (total (own a (amount m c)) past + account.0) % 256 ≡ (v a + total (own a (started w m)) past) % 256 = account.2 in
        rw other (account.0, left, omega arith)

    at : (a : Actor) (x : Bool) → same_actor a e.actor ≡ x → Account m c v w (e ∷ past) a
    at a true same = let is_own = same_actor-true a e.actor same in mine a e.actor e.deed is_own ok (follows_own m past a e is_own legal ok) (before.1 a)
    at a false other = beside a e.actor e.deed other ok (before.1 e.actor) (before.1 a)

pub accounts : (m : MachineData) (c : Cell) (v : Actor → ℕ) (w : Option Job → ℕ) → IsMachine m → Sums m c v w → (past : List Entry) → LegalPast m past → Accounts m c v w past
accounts m c v w is sums [] legal = (let small = sums.byte in omega arith, λ a. (v a, (None, 0, v a, sums.firsts a, refl, omega arith), omega arith))
accounts m c v w is sums (e ∷ past) legal = accounts_next m c v w is sums e past legal.0 legal.1 (accounts m c v w is sums past legal.1)
