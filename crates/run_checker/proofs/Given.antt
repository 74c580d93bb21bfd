-- Reasons, from what was found.
use Rattle.std.proofs.Common.{ℕ, zero, suc, ◌+◌, ◌<◌, ◌≤◌, ◌≡◌, ◌==◌, ◌⊎◌, inl, inr, ◌↔◌, ◌||◌, not, nat_eq, nat_lt, Bool, true, false, All, IsTrue, List, [], ◌∷◌, length, get_or, take, Option, Some, None, is_some, slice_get, if◌then◌else◌, refl, sym, ap, ◌∙◌, subst, arith}
use Rattle.std.proofs.lemmas.Bool.{lt-ltb, ltb-false, ltb-true, ne_eqb, or_cases}
use Rattle.std.specs.Bool.{MatchBool}
use Rattle.acpi_regs.specs.declared.actor.Actor.{Actor}
use Rattle.acpi_regs.specs.declared.actor.Actor.TheVariants as actor
use Rattle.acpi_regs.specs.declared.actor.Side.{Side}
use Rattle.acpi_regs.specs.declared.actor.Side.TheVariants as side
use Rattle.acpi_regs.specs.declared.entry.Entry.{Entry}
use Rattle.acpi_regs.specs.declared.event.Event.{Event}
use Rattle.acpi_regs.specs.Event.{same_event}
use Rattle.lock_table.specs.declared.words.Bits.{Bits}
use Rattle.lock_table.specs.Bits.{IsEvent, is_set}
use Rattle.machine_desc.specs.Actors.{actors_of}
use Rattle.machine_desc.specs.Machine.{MachineData}
use Rattle.machine_history.specs.Events.{latches}
use Rattle.machine_history.specs.Machine.{times}
use Rattle.machine_history.proofs.Known.{same_event-self, same_event-true}
use Rattle.run_checker.specs.declared.ends.Ends.{Ends}
use Rattle.run_checker.specs.declared.ends.Signals.{Signals}
use Rattle.run_checker.specs.Ends.{AllListsSet, AllSet, AreEnds, AreLatched, HasOwn, Misses, SomeMisses}
use Rattle.run_checker.specs.Reasons.{Code, CtlMove, Has, HasReason, HostMove, Job, Pending, Pulse, Reason, Run, Script, Seeks, Signal, answerable}

-- ---- query codes

pub code_waits : (waiting : ℕ) (queued : List ℕ) → waiting ≡ length queued → IsTrue (not (nat_eq waiting 0)) ↔ (queued ≡ [] → ⊥)
code_waits waiting queued is = subst (λ n. IsTrue (not (nat_eq n 0)) ↔ (queued ≡ [] → ⊥)) (sym is) (by_list queued)
  where
    by_list : (q : List ℕ) → IsTrue (not (nat_eq (length q) 0)) ↔ (q ≡ [] → ⊥)
    by_list [] = (λ h. cc, λ h. absurd (h refl))
    by_list (x ∷ q) = (λ h none. (let e = none in cc), λ h. ap not (ne_eqb (length (x ∷ q)) 0 (λ e. omega (arith, e))))

-- ---- pulses

-- an event that is pulsed stands in the list
pulsed_at : (n : Event) (pulses : List Event) → 0 < times n pulses → (j : ℕ) × (j < length pulses) × ((d : Event) → get_or pulses j d ≡ n)
pulsed_at n [] some = absurd (omega (arith, some))
pulsed_at n (x ∷ pulses) some = at (same_event x n) refl (λ more. pulsed_at n pulses more)
  where
    at : (b : Bool) → same_event x n ≡ b → (0 < times n pulses → (j : ℕ) × (j < length pulses) × ((d : Event) → get_or pulses j d ≡ n)) → (j : ℕ) × (j < length (x ∷ pulses)) × ((d : Event) → get_or (x ∷ pulses) j d ≡ n)
    at true same rest = (0, omega arith, λ d. same_event-true x n same)
    at false other rest =
        let fewer : times n (x ∷ pulses) ≡ times n pulses = rw other (let e : 0 + times n pulses ≡ times n pulses = omega arith in e) in
        let r = rest (omega (arith, fewer, some)) in
        (suc r.0, omega (arith, r.1), r.2)

-- and one that stands in it is pulsed
pub at_pulsed : (pulses : List Event) (j : ℕ) (n : Event) → j < length pulses → n ≡ get_or pulses j n → 0 < times n pulses
at_pulsed [] j n less is = absurd (omega (arith, less))
at_pulsed (x ∷ pulses) zero n less is =
    let same : same_event x n ≡ true = ap (λ y. same_event y n) (sym is) ∙ same_event-self n in
    let one : ℕ = 1 in
    let here : (if same_event x n then one else 0) ≡ one = ap (λ b. if b then one else 0) same in
    omega (arith, here)
at_pulsed (x ∷ pulses) (suc j) n less is = let more = at_pulsed pulses j n (omega (arith, less)) is in omega (arith, more)

place_of : {A : Type 0} (xs : List A) (k : ℕ) (x : A) → slice_get xs k ≡ Some x → (k < length xs) × ((d : A) → get_or xs k d ≡ x)
place_of [] k x is = cc
place_of (y ∷ xs) zero x is = (omega arith, λ d. (let e : y ≡ x = cc in e))
place_of (y ∷ xs) (suc k) x is = let r = place_of xs k x is in (omega (arith, r.0), r.1)

zero_not : (k : ℕ) → k ≡ 0 → nat_lt 0 k ≡ true → ⊥
zero_not k none some = let e : nat_lt 0 0 ≡ true = ap (nat_lt 0) (sym none) ∙ some in cc

pub pulse_left : (m : MachineData) (past : List Entry) (bits : Bits) (b : Bool) → AreLatched past bits → MatchBool b (SomeMisses bits m.devices) (AllListsSet bits m.devices) → IsTrue b ↔ Has m past actor.Int Pulse
pulse_left m past bits true latched some = (λ h. (some.0, some.1, some.3.0, some.2, some.3.2, none), λ h. refl)
  where
    none : latches past some.3.0 ≡ 0
    none = let e = ltb-false 0 (latches past some.3.0) (sym (latched some.3.0 some.3.1) ∙ some.3.3) in omega (arith, e)
pulse_left m past bits false latched all = (λ h. cc, λ has. absurd (no has))
  where
    no : Has m past actor.Int Pulse → ⊥
    no has =
        let list = place_of m.devices has.0 has.1 has.3 in
        let pulse = pulsed_at has.2 has.1 has.4 in
        let set = all has.0 has.1 list.0 in
        let here = subst (λ l. AllSet bits l) (list.1 has.1) set pulse.0 has.2 pulse.1 in
        let its = subst (λ n. IsEvent n × (is_set bits n ≡ true)) (pulse.2 has.2) here in
        zero_not (latches past has.2) has.5 (sym (latched has.2 its.0) ∙ its.1)

-- ---- all reasons of an actor

own_reason : (m : MachineData) (past : List Entry) (a : Actor) → HasOwn m past a → HasReason m past a
own_reason m past actor.Int (inl own) = (Pending, own)
own_reason m past actor.Int (inr (inl own)) = (Code, own)
own_reason m past actor.Int (inr (inr own)) = (Pulse, own)
own_reason m past actor.Poll own = (HostMove, own)
own_reason m past (actor.Worker zero) (inl own) = (Job, own)
own_reason m past (actor.Worker zero) (inr own) = (Run, own)
own_reason m past (actor.Worker (suc k)) own = (Run, own)
own_reason m past actor.Ec own = (CtlMove, own)
own_reason m past (actor.Device k) own = absurd own
own_reason m past (actor.Firmware k) (inl own) = (Script, own)
own_reason m past (actor.Firmware k) (inr own) = (Seeks, own)

reason_own : (m : MachineData) (past : List Entry) (a : Actor) (r : Reason) → Has m past a r → HasOwn m past a ⊎ Has m past a Signal
reason_own m past a Signal has = inr has
reason_own m past actor.Int Pending has = inl (inl has)
reason_own m past actor.Int Code has = inl (inr (inl has))
reason_own m past actor.Int Pulse has = inl (inr (inr has))
reason_own m past actor.Poll HostMove has = inl has
reason_own m past (actor.Worker zero) Job has = inl (inl has)
reason_own m past (actor.Worker zero) Run has = inl (inr has)
reason_own m past (actor.Worker (suc k)) Run has = inl has
reason_own m past actor.Ec CtlMove has = inl has
reason_own m past (actor.Firmware k) Script has = inl (inl has)
reason_own m past (actor.Firmware k) Seeks has = inl (inr has)
reason_own m past _ _ has = absurd has

pub any_reason : (m : MachineData) (past : List Entry) (a : Actor) (ends : Ends) (own answers both : Bool) → AreEnds m past ends → (IsTrue own ↔ HasOwn m past a) → (IsTrue answers ↔ ((ends.os ≡ Some a) ⊎ (ends.firmware ≡ Some a))) → both ≡ (own || answers) → IsTrue both ↔ HasReason m past a
any_reason m past a ends own answers both are its signal is = (forth, back)
  where
    answered : (ends.os ≡ Some a) ⊎ (ends.firmware ≡ Some a) → HasReason m past a
    answered (inl os) = (Signal, (side.Os, sym are.os_is ∙ os))
    answered (inr firmware) = (Signal, (side.Firmware, sym are.firmware_is ∙ firmware))

    either : (own ≡ true) ⊎ (answers ≡ true) → HasReason m past a
    either (inl own_true) = own_reason m past a (its.0 own_true)
    either (inr answers_true) = answered (signal.0 answers_true)

    forth : IsTrue both → HasReason m past a
    forth h = either (or_cases own answers (sym is ∙ h))

    signalled : (s : Side) → answerable s past ≡ Some a → (ends.os ≡ Some a) ⊎ (ends.firmware ≡ Some a)
    signalled side.Os has = inl (are.os_is ∙ has)
    signalled side.Firmware has = inr (are.firmware_is ∙ has)

    or_right : (x : Bool) → (x || true) ≡ true
    or_right true = refl
    or_right false = refl

    from : HasOwn m past a ⊎ Has m past a Signal → IsTrue both
    from (inl has) = is ∙ ap (λ b. b || answers) (its.1 has)
    from (inr has) = is ∙ (ap (λ b. own || b) (signal.1 (signalled has.0 has.1)) ∙ or_right own)

    back : HasReason m past a → IsTrue both
    back has = from (reason_own m past a has.0 has.1)

-- ---- actors in their order

pub none_more : (P : Actor → Type 0) (actors : List Actor) (k : ℕ) (a : Actor) → slice_get actors k ≡ Some a → (P a → ⊥) → ((j : ℕ) (b : Actor) → j < k → slice_get actors j ≡ Some b → P b → ⊥) → (j : ℕ) (b : Actor) → j < k + 1 → slice_get actors j ≡ Some b → P b → ⊥
none_more P actors k a here none before j b less is has = at (nat_lt j k) refl
  where
    at : (x : Bool) → nat_lt j k ≡ x → ⊥
    at true below = before j b (ltb-true j k below) is has
    at false above =
        let e : j ≡ k = omega (arith, ltb-false j k above, less) in
        let both : Some b ≡ Some a = sym is ∙ (ap (slice_get actors) e ∙ here) in
        let same : b ≡ a = cc in
        none (subst P same has)

-- ---- signals

abbrev pub answering : Signals → Signals → Option Actor
answering one other = if nat_lt other.busies one.leaves then one.first else None

pub answer : (one one2 other other2 : Signals) → one ≡ one2 → other ≡ other2 → answering one other ≡ answering one2 other2
answer one one2 other other2 same same2 = ap (λ x. answering x other) same ∙ ap (λ x. answering one2 x) same2

pub none_left : (P : Actor → Type 0) (actors : List Actor) (n : ℕ) → length actors ≤ n → ((j : ℕ) (b : Actor) → j < n → slice_get actors j ≡ Some b → P b → ⊥) → (j : ℕ) (b : Actor) → slice_get actors j ≡ Some b → P b → ⊥
none_left P actors n all none j b is = let within = (place_of actors j b is).0 in none j b (omega (arith, within, all)) is
