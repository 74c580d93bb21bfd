-- Each claim consumes an entry that set the status of its event since the claim before it.
use Rattle.std.proofs.Common.{ℕ, zero, suc, ◌<◌, ◌≡◌, ◌⊎◌, inl, inr, Bool, true, false, List, [], ◌∷◌, ◌++◌, length, reverse, take, Option, Some, None, slice_get, unwrap_or, refl, sym, ap, ◌∙◌, subst, arith}
use Rattle.std.proofs.lemmas.List.{length_push, length-take-le, reverse-reverse, take-take}
use Rattle.std.proofs.lemmas.Option.{slice_get_within}
use Rattle.acpi_regs.specs.declared.actor.Actor.{Actor}
use Rattle.acpi_regs.specs.declared.entry.Deed.{Deed}
use Rattle.acpi_regs.specs.declared.entry.Deed.TheVariants as deed
use Rattle.acpi_regs.specs.declared.entry.Entry.{Entry}
use Rattle.acpi_regs.specs.declared.event.Event.{Event}
use Rattle.acpi_regs.specs.History.{past_of}
use Rattle.event_chip.specs.declared.state.EventState.{EventState}
use Rattle.event_chip.specs.declared.state.Touch.{Touch}
use Rattle.event_chip.specs.declared.state.Touch.TheVariants as touch
use Rattle.event_chip.specs.State.{is_level, is_listed}
use Rattle.machine_desc.specs.Machine.{MachineData}
use Rattle.machine_history.specs.Events.{held, line, pending, slot, status, touched}
use Rattle.machine_history.specs.Last.{SetsAt, done_to, held_by, status_by, status_set}
use Rattle.machine_history.specs.Legal.{Allowed, Legal}
use Rattle.machine_history.specs.Machine.{kind_of}
use Rattle.machine_history.specs.Sentences.{ClaimsConsume, LatchesFromPulses}
use Rattle.machine_history.proofs.Claims.{claimable, few_latches, latches-total, level_listed, starts_fresh}
use Rattle.machine_history.proofs.Known.{hold, same_event-self}
use Rattle.history_laws.proofs.LastEntries.{at_push, at_seam, held_step, status_step}
use Rattle.machine_history.proofs.Places.{legal-each, reverse-cons, slice_get-push}

-- an entry set the status, and behind it stands no claim
abbrev pub SetSince : MachineData → Event → List Entry → Type 0
SetSince m n history = (j : ℕ) × (j < length history) × SetsAt (status_set m n) history j true × ((k : ℕ) (e : Entry) → j < k → slice_get history k ≡ Some e → e.deed ≡ deed.Claim n → ⊥)

-- what an entry leaves of the status, of a level event the held one
abbrev pub Ready : Bool → Bool → Bool → Type 0
Ready level s h = (s ≡ true) × (level ≡ true → h ≡ false)

-- the entry sets the status, or is no claim and leaves an event ready that was so
abbrev pub Turns : Bool → Bool → Option Touch → Bool → Bool → Type 0
Turns level on t s h = (status_by level on t ≡ Some true) ⊎ ((t ≡ Some touch.Claim → ⊥) × Ready level s h)

pub some_claim : (t : Touch) → (t ≡ touch.Claim → ⊥) → Some t ≡ Some touch.Claim → ⊥
some_claim touch.Claim other is = other refl
some_claim touch.Raise other is = cc
some_claim touch.Assert other is = cc
some_claim touch.Drop other is = cc
some_claim touch.Finish other is = cc
some_claim touch.Up other is = cc
some_claim touch.Down other is = cc

pub turns : (level listed on : Bool) (t : Option Touch) (s h : Bool) → (level ≡ true → listed ≡ true) → Ready level (unwrap_or (status_by level on t) s) (unwrap_or (held_by listed t) h) → Turns level on t s h
turns level listed on None s h known ready = inr (λ is. cc, ready)
turns level listed on (Some touch.Raise) s h known ready = inl refl
turns level listed on (Some touch.Assert) s h known ready = inl refl
turns level listed on (Some touch.Drop) s h known ready = inr (some_claim touch.Drop (λ is. cc), ready)
turns level listed on (Some touch.Up) s h known ready = inr (some_claim touch.Up (λ is. cc), ready)
turns level listed on (Some touch.Down) s h known ready = inr (some_claim touch.Down (λ is. cc), ready)
turns true listed on (Some touch.Claim) s h known ready = absurd (both (known refl) (ready.1 refl))
  where
    both : listed ≡ true → listed ≡ false → ⊥
    both is isnt = cc
turns false listed on (Some touch.Claim) s h known ready = absurd (none ready.0)
  where
    none : false ≡ true → ⊥
    none is = cc
turns true listed on (Some touch.Finish) s h known ready = inl (ap Some ready.0)
turns false listed on (Some touch.Finish) s h known ready = inr (some_claim touch.Finish (λ is. cc), (ready.0, λ level. cc))

-- a claim of the event is one
pub claims : (m : MachineData) (past : List Entry) (n : Event) (e : Entry) → e.deed ≡ deed.Claim n → done_to n (touched m past e) ≡ Some touch.Claim
claims m past n e is = subst (λ d. done_to n (touched m past (record { actor = e.actor; deed = d })) ≡ Some touch.Claim) (sym is) (rw (same_event-self n) refl)

pub grown : (m : MachineData) (n : Event) (past : List Entry) (e : Entry) → (done_to n (touched m past e) ≡ Some touch.Claim → ⊥) → SetSince m n (reverse past) → SetSince m n (reverse past ++ e ∷ [])
grown m n past e other before = (
  before.0,
  (let less = before.1 in let long = length_push (reverse past) e in omega arith),
  at_push (status_set m n) past e before.0 true before.2,
  λ k x behind at is.
      elim (slice_get-push (reverse past) e k x at) [
        | inl left ↦ before.3 k x behind left.1 is
        | inr last ↦ other (claims m past n e (ap (λ (y : Entry). y.deed) last.1 ∙ is))
      ],
)

pub here : (m : MachineData) (n : Event) (past : List Entry) (e : Entry) → status_set m n past e ≡ Some true → SetSince m n (reverse past ++ e ∷ [])
here m n past e sets = (
  length (reverse past),
  (let long = length_push (reverse past) e in omega arith),
  at_seam (status_set m n) past e true sets,
  λ k x behind at is.
      elim (slice_get-push (reverse past) e k x at) [
        | inl left ↦ (let less : k < length (reverse past) = left.0 in omega arith)
        | inr last ↦ (let same : k ≡ length (reverse past) = last.0 in omega arith)
      ],
)

pub set_since : (m : MachineData) (n : Event) (past : List Entry) → Ready (is_level (kind_of m n)) (status m past n) (held m past n) → SetSince m n (reverse past)
set_since m n [] ready = absurd (none ready.0)
  where
    none : status m [] n ≡ true → ⊥
    none is = (let first : status m [] n ≡ false = ap (λ (s : EventState). s.status) (starts_fresh m n).1 in cc)
set_since m n (e ∷ past) ready =
    subst (SetSince m n) (sym (reverse-cons e past))
    (elim (turns (is_level (kind_of m n)) (is_listed (kind_of m n)) (line m past n) (done_to n (touched m past e)) (status m past n) (held m past n) (level_listed (kind_of m n))
    (sym (status_step m n past e) ∙ ready.0, λ level. sym (held_step m n past e) ∙ ready.1 level)) [
      | inl sets ↦ here m n past e sets
      | inr other ↦ grown m n past e other.0 (set_since m n past other.1)
    ])

-- ---- by places

-- what stands in the front of a history stands in it
pub front_get : {X : Type 0} (xs : List X) (i j : ℕ) (x : X) → slice_get (take i xs) j ≡ Some x → slice_get xs j ≡ Some x
front_get xs zero j x at = absurd (none at)
  where
    none : None ≡ Some x → ⊥
    none is = cc
front_get [] (suc i) j x at = absurd (none at)
  where
    none : None ≡ Some x → ⊥
    none is = cc
front_get (y ∷ xs) (suc i) zero x at = at
front_get (y ∷ xs) (suc i) (suc j) x at = front_get xs i j x at

pub back_get : {X : Type 0} (xs : List X) (i j : ℕ) (x : X) → j < i → slice_get xs j ≡ Some x → slice_get (take i xs) j ≡ Some x
back_get xs zero j x below at = absurd (omega arith)
back_get [] (suc i) j x below at = at
back_get (y ∷ xs) (suc i) zero x below at = at
back_get (y ∷ xs) (suc i) (suc j) x below at = back_get xs i j x (omega arith) at

pub front_sets : (m : MachineData) (n : Event) (history : List Entry) (i j : ℕ) → j < i → SetsAt (status_set m n) (take i history) j true → SetsAt (status_set m n) history j true
front_sets m n history i j below at =
    (at.0, front_get history i j at.0 at.1, ap (λ h. status_set m n (reverse h) at.0) (sym (take-take j i history (omega arith))) ∙ at.2)

pub claim_ready : (m : MachineData) (past : List Entry) (n : Event) → pending m past n ≡ true → Ready (is_level (kind_of m n)) (status m past n) (held m past n)
claim_ready m past n is = let c = claimable (slot m past n).kind (slot m past n).state is in (c.0, λ level. c.1)

pub claims_consume : (m : MachineData) (history : List Entry) → Legal m history → ClaimsConsume m history
claims_consume m history legal i e n at is =
    let may = pending_at e.actor e.deed is (legal-each m history legal i e at) in
    let within : i < length history = slice_get_within history i e at in
    let since = subst (SetSince m n) (reverse-reverse (take i history)) (set_since m n (past_of history i) (claim_ready m (past_of history i) n may)) in
    let less : since.0 < i = (let below = since.1 in let long = length-take-le i history (omega arith) in omega arith) in
    (may, (since.0, less, front_sets m n history i since.0 less since.2, λ k x behind before at_k claim. since.3 k x behind (back_get history i k x before at_k) claim))
  where
    pending_at : (a : Actor) (d : Deed) → d ≡ deed.Claim n → Allowed m (past_of history i) (record { actor = a; deed = d }) → pending m (past_of history i) n ≡ true
    pending_at a d is ok = (hold m (past_of history i) a (deed.Claim n) (subst (λ x. Allowed m (past_of history i) (record { actor = a; deed = x })) is ok)).1.1.0

-- ---- latches

pub latches_from_pulses : (m : MachineData) (history : List Entry) → Legal m history → LatchesFromPulses m history
latches_from_pulses m history legal n = let few = few_latches m n (reverse history) legal in let same = latches-total n (reverse history) in omega arith
