-- Runs of query codes are no more than their pushes.
use Rattle.std.proofs.Common.{ℕ, zero, suc, ◌+◌, ◌≤◌, ◌≡◌, ◌==◌, ◌⊎◌, inl, inr, Bool, true, false, not, ◌&&◌, List, [], ◌∷◌, length, drop, slice_get, unwrap_or, Option, Some, None, is_some, if◌then◌else◌, refl, sym, ap, ◌∙◌, subst, arith}
use Rattle.std.proofs.lemmas.Bool.{eqb-true}
use Rattle.acpi_regs.specs.declared.actor.Actor.{Actor}
use Rattle.acpi_regs.specs.declared.entry.Deed.{Deed}
use Rattle.acpi_regs.specs.declared.entry.Deed.TheVariants as deed
use Rattle.acpi_regs.specs.declared.entry.Effect.TheVariants as effect
use Rattle.acpi_regs.specs.declared.entry.Entry.{Entry}
use Rattle.acpi_regs.specs.declared.entry.HostMove.{HostMove}
use Rattle.acpi_regs.specs.declared.entry.Request.{Request}
use Rattle.acpi_regs.specs.declared.entry.Request.TheVariants as request
use Rattle.acpi_regs.specs.declared.event.Event.{Event}
use Rattle.ec_chip.specs.Parts.{first_code}
use Rattle.ec_driver.specs.declared.wire.Move.TheVariants as move
use Rattle.ec_driver.specs.Wire.{carried, wire}
use Rattle.machine_desc.specs.Machine.{MachineData}
use Rattle.machine_history.specs.declared.parts.Job.{Job}
use Rattle.machine_history.specs.declared.parts.Job.TheVariants as job
use Rattle.machine_history.specs.Jobs.{claimed_job, is_empty, made, made_by, taken_job}
use Rattle.machine_history.specs.Legal.{Allowed, LegalPast, is_ctl_move, is_host_move, is_taking, same_effect, same_number}
use Rattle.machine_history.specs.Machine.{is_own, lists}
use Rattle.machine_history.specs.Values.{answer, blank, next_in, taking_in}
use Rattle.machine_history.specs.Wire.{Open, asks_code, begun, codes, codes_after, is_query, moved, open_after, open_of, put_out}
use Rattle.machine_history.proofs.Known.{hold}
use Rattle.machine_history.proofs.Prices.{charge, charged, pushes_price}
use Rattle.machine_history.proofs.Queries.{is_qr_request, qr_move, unasked}
use Rattle.machine_history.proofs.Totals.{Count, bounded, sum_of, sum_of-push, total}
use Rattle.machine_history.proofs.Wires.{ctl_is, host_is}

-- ---- a query whose Out is made has its code

abbrev pub FilledAt : Open → Type 0
FilledAt o = is_query o.asks ≡ true → 2 ≤ o.made → is_some o.out ≡ true

abbrev pub Filled : Option Open → Type 0
Filled None = Unit {0}
Filled (Some o) = FilledAt o

pub host_place : (v k : ℕ) (g : HostMove) → slice_get (wire request.Qr v) k ≡ Some (move.Host g) → (k ≡ 0) ⊎ (2 ≤ k)
host_place v zero g at = inl refl
host_place v (suc zero) g at = cc
host_place v (suc (suc k)) g at = inr (omega arith)

pub filled_step : (m : MachineData) (past : List Entry) (h : HostMove) (oo : Option Open) → is_host_move h (next_in m past oo) ≡ true → Filled oo → Filled (moved oo)
filled_step m past h None is before = tt
filled_step m past h (Some o) is before = λ asks far.
    let next = host_is h (next_in m past (Some o)) is in
    let at = subst (λ r. slice_get (wire r (blank m past o)) o.made ≡ Some (move.Host next.0)) (is_qr_request o.asks asks) next.1 in
    elim (host_place (blank m past o) o.made next.0 at) [
      | inl start ↦ absurd (omega (arith, start))
      | inr behind ↦ before asks behind
    ]

pub filled_other : (oo : Option Open) → asks_code oo ≡ false → Filled (moved oo)
filled_other None other = tt
filled_other (Some o) other = λ asks far. cc

pub filled_put : (v : ℕ) (oo : Option Open) → Filled (put_out v oo)
filled_put v None = tt
filled_put v (Some o) = λ asks far. refl

pub filled_deed : (m : MachineData) (past : List Entry) (a : Actor) (d : Deed) → Allowed m past (record { actor = a; deed = d }) → Filled (open_of past) → Filled (open_after a d (open_of past))
filled_deed m past a (deed.Begin r) ok before = λ asks far. absurd (omega (arith, far))
filled_deed m past a (deed.Step h) ok before = filled_step m past h (open_of past) (hold m past a (deed.Step h) ok).1.1.1.0 before
filled_deed m past a (deed.Ctl effect.Calm) ok before = before
filled_deed m past a (deed.Ctl effect.Taken) ok before = filled_other (open_of past) (unasked m past effect.Taken (open_of past) (hold m past a (deed.Ctl effect.Taken) ok).1.1.1.0 refl)
filled_deed m past a (deed.Ctl effect.Put) ok before = filled_other (open_of past) (unasked m past effect.Put (open_of past) (hold m past a (deed.Ctl effect.Put) ok).1.1.1.0 refl)
filled_deed m past a (deed.Ctl (effect.Out v)) ok before = filled_put v (open_of past)
filled_deed m past a (deed.Take v) ok before = tt
filled_deed m past a _ ok before = before

pub filled : (m : MachineData) (past : List Entry) → LegalPast m past → Filled (open_of past)
filled m [] legal = tt
filled m (e ∷ past) legal = filled_deed m past e.actor e.deed legal.0 (filled m past legal.1)

-- ---- the worth of codes

-- the worth of the code that was put out and not yet taken
abbrev pub out_worth : (ℕ → ℕ) → Option ℕ → ℕ
out_worth g None = 0
out_worth g (Some q) = if q == 0 then 0 else g q

abbrev pub waiting : (ℕ → ℕ) → Option Open → ℕ
waiting g None = 0
waiting g (Some o) = if is_query o.asks then out_worth g o.out else 0

abbrev pub code_price : (ℕ → ℕ) → Option Job → ℕ
code_price g (Some (job.Code q)) = g q
code_price g _ = 0

abbrev pub code_jobs_in : (ℕ → ℕ) → MachineData → Count
code_jobs_in g m past e = code_price g (made m past e)

pub waiting_moved : (g : ℕ → ℕ) (oo : Option Open) → waiting g (moved oo) ≡ waiting g oo
waiting_moved g None = refl
waiting_moved g (Some o) = refl

pub waiting_begun : (g : ℕ → ℕ) (a : Actor) (r : Request) → waiting g (Some (begun a r)) ≡ 0
waiting_begun g a (request.Rd x) = refl
waiting_begun g a (request.Wr x v) = refl
waiting_begun g a request.Be = refl
waiting_begun g a request.Bd = refl
waiting_begun g a request.Qr = refl

-- the byte that a query puts out
pub out_is : (m : MachineData) (past : List Entry) (v : ℕ) (o : Open) → o.asks ≡ request.Qr → is_ctl_move (effect.Out v) (next_in m past (Some o)) ≡ true → v ≡ unwrap_or o.out (first_code (codes past))
out_is m past v o qr is =
    let next = ctl_is (effect.Out v) (next_in m past (Some o)) is in
    let at = subst (λ r. slice_get (wire r (blank m past o)) o.made ≡ Some (move.Ctl next.0)) qr next.1 in
    let f = (qr_move (blank m past o) o.made next.0 at).1 in
    let same : same_effect (effect.Out v) (effect.Out (blank m past o)) ≡ true = ap (same_effect (effect.Out v)) (sym f) ∙ next.2 in
    eqb-true v (blank m past o) same ∙ ap (λ r. unwrap_or o.out (answer m past r)) qr

pub worth_small : (b : Bool) (k : ℕ) → (if b then 0 else k) ≤ k
worth_small true k = omega arith
worth_small false k = omega arith

pub out_given : (g : ℕ → ℕ) (out : Option ℕ) (queue : List ℕ) → out_worth g (Some (unwrap_or out (first_code queue))) + sum_of g (drop 1 queue) ≤ out_worth g out + sum_of g queue
out_given g None [] = omega arith
out_given g None (q ∷ queue) = let small = worth_small (q == 0) (g q) in omega arith
out_given g (Some q) [] = omega arith
out_given g (Some q) (x ∷ queue) = omega arith

pub out_codes : (g : ℕ → ℕ) (m : MachineData) (past : List Entry) (v : ℕ) (oo : Option Open) → is_ctl_move (effect.Out v) (next_in m past oo) ≡ true
    → waiting g (put_out v oo) + sum_of g (if asks_code oo then drop 1 (codes past) else codes past) ≤ waiting g oo + sum_of g (codes past)
out_codes g m past v None is = cc
out_codes g m past v (Some o) is = at (is_query o.asks) refl
  where
    at : (b : Bool) → is_query o.asks ≡ b → (if b then out_worth g (Some v) else 0) + sum_of g (if b then drop 1 (codes past) else codes past) ≤ (if b then out_worth g o.out else 0) + sum_of g (codes past)
    at true asks = rw (out_is m past v o (is_qr_request o.asks asks) is) (out_given g o.out (codes past))
    at false other = omega arith

-- a take of a query makes the run of the code that waits
pub same_number-true : (v w : ℕ) → same_number (Some v) (Some w) ≡ true → v ≡ w
same_number-true v w same = eqb-true v w same

pub run_worth : (g : ℕ → ℕ) (v : ℕ) → code_price g (if true && not (v == 0) then Some (job.Code v) else None) ≤ out_worth g (Some v)
run_worth g v = at (v == 0)
  where
    at : (b : Bool) → code_price g (if true && not b then Some (job.Code v) else None) ≤ (if b then 0 else g v)
    at true = omega arith
    at false = omega arith

pub not_taking : (g : ℕ → ℕ) (v : Option ℕ) (asks : Bool) → asks ≡ false → (o : Option Open) → asks_code o ≡ asks → code_price g (taken_job o v) ≡ 0
not_taking g None asks is o same = refl
not_taking g (Some v) asks is o same = rw (same ∙ is) refl

abbrev pub taking_of : Open → ℕ → Option (Option ℕ)
taking_of o b = if o.made == 3 then Some (carried request.Qr b) else None

pub take_all : (b : Bool) (w : Option ℕ) (v : Option ℕ) → is_some (if b then Some w else None) ≡ true → is_taking v (if b then Some w else None) ≡ true → (b ≡ true) × (same_number v w ≡ true)
take_all true w v some is = (refl, is)
take_all false w v some is = cc

pub take_given : (g : ℕ → ℕ) (v : Option ℕ) (out : Option ℕ) (first : ℕ) → is_some out ≡ true → same_number v (Some (unwrap_or out first)) ≡ true → (asks : Bool) → (oo : Option Open) → asks_code oo ≡ true → code_price g (taken_job oo v) ≤ out_worth g out
take_given g v None first some same asks oo is = cc
take_given g None (Some w) first some same asks oo is = cc
take_given g (Some v) (Some w) first some same asks oo is = rw (is, same_number-true v w same) (run_worth g w)

pub take_codes : (g : ℕ → ℕ) (m : MachineData) (past : List Entry) (v : Option ℕ) (oo : Option Open) → Filled oo → is_some (taking_in m past oo) ≡ true → is_taking v (taking_in m past oo) ≡ true → code_price g (taken_job oo v) ≤ waiting g oo
take_codes g m past v None full some is = cc
take_codes g m past v (Some o) full some is = at (is_query o.asks) refl
  where
    at : (b : Bool) → is_query o.asks ≡ b → code_price g (taken_job (Some o) v) ≤ (if b then out_worth g o.out else 0)
    at true asks =
        let qr = is_qr_request o.asks asks in
        let some' = subst (λ r. is_some (if o.made == length (wire r 0) then Some (carried r (blank m past o)) else None) ≡ true) qr some in
        let is' = subst (λ r. is_taking v (if o.made == length (wire r 0) then Some (carried r (blank m past o)) else None) ≡ true) qr is in
        let all = take_all (o.made == 3) (Some (blank m past o)) v some' is' in
        let made : o.made ≡ 3 = eqb-true o.made 3 all.0 in
        take_given g v o.out (answer m past o.asks) (full asks (omega arith)) all.1 true (Some o) asks
    at false other = let none = not_taking g v false refl (Some o) other in omega arith

pub claim_code : (g : ℕ → ℕ) (m : MachineData) (queue : List ℕ) (n : Event) → code_price g (claimed_job m queue n) ≡ 0
claim_code g m queue n = at (lists m n) (is_own m n && not (is_empty queue))
  where
    at : (b c : Bool) → code_price g (if b then Some (job.Event n) else if c then Some job.Query else None) ≡ 0
    at true c = refl
    at false true = refl
    at false false = refl

pub codes_step : (g : ℕ → ℕ) (m : MachineData) (past : List Entry) (a : Actor) (d : Deed) → Filled (open_of past) → Allowed m past (record { actor = a; deed = d })
    → code_price g (made_by m (open_of past) (codes past) d) + (waiting g (open_after a d (open_of past)) + sum_of g (codes_after (open_of past) d (codes past))) ≤ charge (pushes_price g) d + (waiting g (open_of past) + sum_of g (codes past))
codes_step g m past a (deed.Begin r) full ok = let none = waiting_begun g a r in omega arith
codes_step g m past a (deed.Step h) full ok = let same = waiting_moved g (open_of past) in omega arith
codes_step g m past a (deed.Ctl effect.Calm) full ok = omega arith
codes_step g m past a (deed.Ctl effect.Taken) full ok = let same = waiting_moved g (open_of past) in omega arith
codes_step g m past a (deed.Ctl effect.Put) full ok = let same = waiting_moved g (open_of past) in omega arith
codes_step g m past a (deed.Ctl (effect.Out v)) full ok = let most = out_codes g m past v (open_of past) (hold m past a (deed.Ctl (effect.Out v)) ok).1.1.1.0 in omega arith
codes_step g m past a (deed.Take v) full ok =
    let h = hold m past a (deed.Take v) ok in
    let most = take_codes g m past v (open_of past) full h.1.1.1.0 h.1.1.1.1.0 in
    omega arith
codes_step g m past a (deed.Claim n) full ok = let none = claim_code g m (codes past) n in omega arith
codes_step g m past a (deed.Push q) full ok = let more = sum_of-push g (codes past) q in omega arith
codes_step g m past a _ full ok = omega arith

pub few_codes : (g : ℕ → ℕ) (m : MachineData) (past : List Entry) → LegalPast m past → total (code_jobs_in g m) past + (waiting g (open_of past) + sum_of g (codes past)) ≤ 0 + total (charged (pushes_price g)) past
few_codes g m past legal =
    bounded m (λ p. waiting g (open_of p) + sum_of g (codes p)) (code_jobs_in g m) (charged (pushes_price g)) 0 (omega arith)
    (λ p e lp ok. codes_step g m p e.actor e.deed (filled m p lp) ok)
    past legal
