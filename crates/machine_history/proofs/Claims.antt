-- The claims of an event are no more than what sets its status, an assert counted seventeen times.
use Rattle.std.proofs.Common.{ℕ, ◌+◌, ◌-◌, ◌*◌, ◌<◌, ◌≤◌, ◌≡◌, Bool, true, false, not, ◌&&◌, ◌||◌, min, nat_le, List, [], ◌∷◌, Option, Some, None, if◌then◌else◌, refl, sym, ap, ◌∙◌, subst, arith}
use Rattle.std.proofs.lemmas.Bool.{and_parts, leb-false, ltb-true, not-true}
use Rattle.acpi_regs.specs.declared.actor.Actor.{Actor}
use Rattle.acpi_regs.specs.declared.actor.Side.{Side}
use Rattle.acpi_regs.specs.declared.actor.Side.TheVariants as side
use Rattle.acpi_regs.specs.declared.entry.Deed.{Deed}
use Rattle.acpi_regs.specs.declared.entry.Deed.TheVariants as deed
use Rattle.acpi_regs.specs.declared.entry.Effect.TheVariants as effect
use Rattle.acpi_regs.specs.declared.entry.Entry.{Entry}
use Rattle.acpi_regs.specs.declared.event.Event.{Event}
use Rattle.acpi_regs.specs.declared.event.Listed.{Listed}
use Rattle.acpi_regs.specs.Actor.{stands_on}
use Rattle.acpi_regs.specs.Event.{gbl, is_gbl, same_event}
use Rattle.event_chip.specs.declared.state.EventKind.{EventKind}
use Rattle.event_chip.specs.declared.state.EventKind.TheVariants as kind
use Rattle.event_chip.specs.declared.state.EventState.{EventState}
use Rattle.event_chip.specs.declared.state.Slot.{Slot}
use Rattle.event_chip.specs.declared.state.Touch.{Touch}
use Rattle.event_chip.specs.declared.state.Touch.TheVariants as touch
use Rattle.event_chip.specs.Chip.{always, is_controllers, listing, no_slot, slot_or}
use Rattle.event_chip.specs.Chip as chip
use Rattle.event_chip.specs.State.{fresh, is_enabled, is_level, is_listed, is_parked, is_pending}
use Rattle.machine_desc.specs.Kept.{listed_in, own_event}
use Rattle.machine_desc.specs.Machine.{MachineData}
use Rattle.machine_history.specs.declared.parts.Job.{Job}
use Rattle.machine_history.specs.declared.parts.Touched.{Touched}
use Rattle.machine_history.specs.Events.{does, does_to, is_loud, latches, pending, slot, slot_after, touch_of, touched}
use Rattle.machine_history.specs.Jobs.{event_ended, jobs}
use Rattle.machine_history.specs.Legal.{Allowed, LegalPast}
use Rattle.machine_history.specs.Machine.{first_slot_of, is_own, names, pulses_of}
use Rattle.machine_history.specs.Wire.{Open, asks_code, codes, open_of}
use Rattle.machine_history.proofs.Known.{hold, same_event-swap, same_event-true}
use Rattle.machine_history.proofs.Prices.{charge, lifts}
use Rattle.machine_history.proofs.Totals.{Count, bounded, by_deed, one, one_small, total, total-le, when}
use Rattle.machine_history.proofs.Wires.{is_move, is_query_move}

-- ---- the claims that may still come of an event with nothing raised anew

abbrev pub potential : (level status line held : Bool) → ℕ → ℕ
potential false s l h k = one s
potential true s true h k = 17 - (k + one h)
potential true s false h k = one (s && not h)

pub raised : (v s l h : Bool) (k : ℕ) → potential v true l h k ≤ 1 + potential v s l h k
raised false s l h k = omega arith
raised true s true h k = omega arith
raised true s false h k = let few = one_small (not h) in omega arith

pub asserted : (v s l h : Bool) (k : ℕ) → potential v true true h 0 ≤ 17 + potential v s l h k
asserted false s l h k = omega arith
asserted true s l h k = omega arith

pub dropped : (v s l h : Bool) (k : ℕ) → (v ≡ true → k + one h ≤ 16) → potential v s false h 0 ≤ potential v s l h k
dropped false s l h k low = omega arith
dropped true s true h k low = let few = one_small (s && not h) in let less : k + one h ≤ 16 = low refl in omega arith
dropped true s false h k low = omega arith

pub claimed : (v s l h listed : Bool) (k : ℕ) → s ≡ true → h ≡ false → (v ≡ true → k < 16) → (v ≡ true → listed ≡ true) → 1 + potential v (v && s) l listed k ≤ potential v s l h k
claimed false s l h listed k is_s is_h less known = rw is_s (omega arith)
claimed true s true h listed k is_s is_h less known = rw (is_h, known refl) (let below : k < 16 = less refl in omega arith)
claimed true s false h listed k is_s is_h less known = rw (is_s, is_h, known refl) (omega arith)

pub finished : (v s l h : Bool) (k : ℕ) → (v ≡ true → k + one h ≤ 16) → potential v (if v then l else s) l false (if l then min 16 (k + 1) else 0) ≤ potential v s l h k
finished false s l h k low = omega arith
finished true s true h k low = let few = one_small h in let less : k + one h ≤ 16 = low refl in omega arith
finished true s false h k low = omega arith

-- ---- a touch

abbrev pub pot : Slot → ℕ
pot s = potential (is_level s.kind) s.state.status s.state.line s.state.held s.state.storm

-- a level event that is held is not parked
abbrev pub Low : Slot → Type 0
Low s = is_level s.kind ≡ true → s.state.storm + one s.state.held ≤ 16

-- what sets the status of an event, and what takes it
abbrev pub grants_by : Touch → ℕ
grants_by touch.Raise = 1
grants_by touch.Assert = 17
grants_by _ = 0

abbrev pub takes_by : Touch → ℕ
takes_by touch.Claim = 1
takes_by _ = 0

-- what a claim finds
pub claimable : (k : EventKind) (s : EventState) → is_pending k s ≡ true → (s.status ≡ true) × (s.held ≡ false) × (is_parked k s ≡ false)
claimable k s h =
    let p = and_parts s.status (is_enabled k s) h in
    let q = and_parts _ (not (is_parked k s)) p.1 in
    let r = and_parts _ (not s.held) q.0 in
    (p.0, not-true s.held r.1, not-true (is_parked k s) q.1)

pub below : (v : Bool) (k : ℕ) → (v && nat_le 16 k) ≡ false → v ≡ true → k < 16
below true k h is = leb-false 16 k h
below false k h is = cc

pub level_listed : (k : EventKind) → is_level k ≡ true → is_listed k ≡ true
level_listed kind.Level is = refl
level_listed kind.Unknown is = cc
level_listed kind.Edge is = cc
level_listed kind.Always is = cc

pub low_finish : (l : Bool) (k : ℕ) → (if l then min 16 (k + 1) else 0) + 0 ≤ 16
low_finish true k = omega arith
low_finish false k = omega arith

pub on_touch : (t : Touch) (s : Slot) → Low s → (t ≡ touch.Claim → is_pending s.kind s.state ≡ true) → Low (chip.touched t s) × (takes_by t + pot (chip.touched t s) ≤ grants_by t + pot s)
on_touch touch.Raise s low may = (low, (let most = raised (is_level s.kind) s.state.status s.state.line s.state.held s.state.storm in omega arith))
on_touch touch.Assert s low may = (λ level. (let few = one_small s.state.held in omega arith), (let most = asserted (is_level s.kind) s.state.status s.state.line s.state.held s.state.storm in omega arith))
on_touch touch.Drop s low may = (λ level. (let few = one_small s.state.held in omega arith), (let most = dropped (is_level s.kind) s.state.status s.state.line s.state.held s.state.storm low in omega arith))
on_touch touch.Claim s low may =
    let c = claimable s.kind s.state (may refl) in
    let room = below (is_level s.kind) s.state.storm c.2 in
    (λ level. (let less : s.state.storm < 16 = room level in let few = one_small (is_listed s.kind) in omega arith), (let most = claimed (is_level s.kind) s.state.status s.state.line s.state.held (is_listed s.kind) s.state.storm c.0 c.1 room (level_listed s.kind) in omega arith))
on_touch touch.Finish s low may = (λ level. low_finish s.state.line s.state.storm, (let most = finished (is_level s.kind) s.state.status s.state.line s.state.held s.state.storm low in omega arith))
on_touch touch.Up s low may = (low, omega arith)
on_touch touch.Down s low may = (low, omega arith)

-- ---- what may touch

abbrev pub MayTouch : MachineData → List Entry → Option Touched → Type 0
MayTouch m past None = Unit {0}
MayTouch m past (Some t) = t.by ≡ touch.Claim → pending m past t.event ≡ true

pub may_raise : (m : MachineData) (past : List Entry) (o : Option Event) → MayTouch m past (does_to touch.Raise o)
may_raise m past None = tt
may_raise m past (Some n) = λ is. cc

pub may_finish : (m : MachineData) (past : List Entry) (o : Option Event) → MayTouch m past (does_to touch.Finish o)
may_finish m past None = tt
may_finish m past (Some n) = λ is. cc

pub may_if : (m : MachineData) (past : List Entry) (b : Bool) (o : Option Touched) → MayTouch m past o → MayTouch m past (if b then o else None)
may_if m past true o may = may
may_if m past false o may = tt

pub may_touch : (m : MachineData) (past : List Entry) (a : Actor) (d : Deed) → Allowed m past (record { actor = a; deed = d }) → MayTouch m past (touch_of m (open_of past) (codes past) (jobs m past) a d)
may_touch m past a (deed.Raise n) ok = λ is. cc
may_touch m past a (deed.Latch n) ok = λ is. cc
may_touch m past a (deed.Assert n) ok = λ is. cc
may_touch m past a (deed.Drop n) ok = λ is. cc
may_touch m past a (deed.Claim n) ok = λ is. (hold m past a (deed.Claim n) ok).1.1.0
may_touch m past a (deed.Finish j) ok = may_finish m past (event_ended (jobs m past) j)
may_touch m past a (deed.Up n) ok = λ is. cc
may_touch m past a (deed.Down n) ok = λ is. cc
may_touch m past a (deed.Leave true) ok = may_if m past (stands_on side.Firmware a) (does touch.Raise gbl) (λ is. cc)
may_touch m past a (deed.Push q) ok = may_raise m past (own_event m)
may_touch m past a (deed.Ctl e) ok = may_if m past (is_loud m (open_of past) (codes past) e) (does_to touch.Raise (own_event m)) (may_raise m past (own_event m))
may_touch m past a _ ok = tt

-- ---- over a history

abbrev pub on_event : (Touch → ℕ) → Event → Option Touched → ℕ
on_event f n None = 0
on_event f n (Some t) = if same_event t.event n then f t.by else 0

abbrev pub grants : MachineData → Event → Count
grants m n past e = on_event grants_by n (touched m past e)

abbrev pub takes : MachineData → Event → Count
takes m n past e = on_event takes_by n (touched m past e)

abbrev pub Step : Event → Option Touched → Slot → Type 0
Step n o s = Low (slot_after n o s) × (on_event takes_by n o + pot (slot_after n o s) ≤ on_event grants_by n o + pot s)

pub slot_step : (m : MachineData) (past : List Entry) (n : Event) (o : Option Touched) → MayTouch m past o → Low (slot m past n) → Step n o (slot m past n)
slot_step m past n None may low = (low, omega arith)
slot_step m past n (Some t) may low = at (same_event t.event n) refl
  where
    at : (x : Bool) → same_event t.event n ≡ x → Step n (Some t) (slot m past n)
    at true same = rw same (on_touch t.by (slot m past n) low (λ is. subst (λ k. pending m past k ≡ true) (same_event-true t.event n same) (may is)))
    at false other = rw other (low, omega arith)

pub first_fresh : (b : Bool) (l : Option Listed) → (count : ℕ) × ((if b then always else slot_or l no_slot).state ≡ fresh count)
first_fresh true l = (0, refl)
first_fresh false None = (0, refl)
first_fresh false (Some l) = (l.refs, refl)

pub starts_fresh : (m : MachineData) (n : Event) → (count : ℕ) × ((first_slot_of m n).state ≡ fresh count)
starts_fresh m n = first_fresh (is_gbl n || is_controllers (own_event m) n) (listing (listed_in m) n)

pub first_pot : (v : Bool) → potential v false false false 0 ≡ 0
first_pot true = refl
first_pot false = refl

pub starts_idle : (s : Slot) (count : ℕ) → s.state ≡ fresh count → (pot s ≡ 0) × Low s
starts_idle s count is =
    (ap (λ (x : EventState). potential (is_level s.kind) x.status x.line x.held x.storm) is ∙ first_pot (is_level s.kind), λ level. subst (λ (x : EventState). x.storm + one x.held ≤ 16) (sym is) (omega arith))

pub low : (m : MachineData) (n : Event) (past : List Entry) → LegalPast m past → Low (slot m past n)
low m n [] legal = let f = starts_fresh m n in (starts_idle (first_slot_of m n) f.0 f.1).1
low m n (e ∷ past) legal = (slot_step m past n (touched m past e) (may_touch m past e.actor e.deed legal.0) (low m n past legal.1)).0

pub few_claims : (m : MachineData) (n : Event) (past : List Entry) → LegalPast m past → total (takes m n) past ≤ total (grants m n) past
few_claims m n past legal =
    let first : pot (first_slot_of m n) ≡ 0 = (let f = starts_fresh m n in (starts_idle (first_slot_of m n) f.0 f.1).0) in
    let all = bounded m (λ p. pot (slot m p n)) (takes m n) (grants m n) 0 (omega arith)
    (λ p e lp ok. (slot_step m p n (touched m p e) (may_touch m p e.actor e.deed ok) (low m n p lp)).1)
    past legal in
    omega arith

-- ---- what sets the status

abbrev pub latch_in : Event → Deed → ℕ
latch_in n (deed.Latch x) = one (same_event x n)
latch_in n _ = 0

abbrev pub is_push : Deed → ℕ
is_push (deed.Push q) = 1
is_push _ = 0

abbrev pub is_signal : Deed → ℕ
is_signal (deed.Leave true) = 1
is_signal _ = 0

-- a signal of a side
abbrev pub signal_of : Side → Actor → Deed → ℕ
signal_of s a d = if stands_on s a then is_signal d else 0

-- what sets the status of the controller's event by itself
abbrev pub ctl_sets : Option Open → Deed → ℕ
ctl_sets o d = is_push d + (is_move o d + is_query_move o d)

-- all that may set the status of an event
abbrev pub sets : MachineData → Event → Option Open → Actor → Deed → ℕ
sets m n o a d = (charge (lifts n) d + latch_in n d) + ((if is_own m n then ctl_sets o d else 0) + (if is_gbl n then signal_of side.Firmware a d else 0))

abbrev pub sets_in : MachineData → Event → Count
sets_in m n past e = sets m n (open_of past) e.actor e.deed

pub by_controller : (n : Event) (o : Option Event) → on_event grants_by n (does_to touch.Raise o) ≡ one (names o n)
by_controller n None = refl
by_controller n (Some x) = refl

pub named : (b : Bool) (k : ℕ) → 1 ≤ k → one b ≤ (if b then k else 0)
named true k h = h
named false k h = omega arith

pub loud_move : (n : Event) (o : Option Event) (loud : Bool) (k : ℕ) → (loud ≡ true → 1 ≤ k) → on_event grants_by n (if loud then does_to touch.Raise o else None) ≤ (if names o n then k else 0)
loud_move n o true k h = rw (by_controller n o) (named (names o n) k (h refl))
loud_move n o false k h = omega arith

pub quiet : (b : Bool) → when b 0 ≡ 0
quiet true = refl
quiet false = refl

pub finish_grants : (n : Event) (o : Option Event) → on_event grants_by n (does_to touch.Finish o) ≡ 0
finish_grants n None = refl
finish_grants n (Some x) = quiet (same_event x n)

pub a_move : (b : Bool) → 1 ≤ (if b then 0 else 1) + (if b then 1 else 0)
a_move true = omega arith
a_move false = omega arith

pub signalled : (stands is : Bool) → (if stands then (if is then 1 else 0) else 0) ≤ (if is then (if stands then 1 else 0) else 0)
signalled true true = omega arith
signalled true false = omega arith
signalled false is = omega arith

pub leave_grants : (n : Event) (stands : Bool) → on_event grants_by n (if stands then does touch.Raise gbl else None) ≡ when stands (when (same_event gbl n) 1)
leave_grants n true = refl
leave_grants n false = refl

pub seventeen : (b : Bool) → when b 17 ≡ 17 * one b
seventeen true = refl
seventeen false = refl

pub few_grants : (m : MachineData) (o : Option Open) (queue : List ℕ) (made : List Job) (a : Actor) (n : Event) (d : Deed) → on_event grants_by n (touch_of m o queue made a d) ≤ sets m n o a d
few_grants m o queue made a n (deed.Raise x) = let swap : one (same_event x n) ≡ one (same_event n x) = ap one (same_event-swap x n) in omega arith
few_grants m o queue made a n (deed.Latch x) = omega arith
few_grants m o queue made a n (deed.Assert x) = let swap : one (same_event x n) ≡ one (same_event n x) = ap one (same_event-swap x n) in let all = seventeen (same_event x n) in omega arith
few_grants m o queue made a n (deed.Drop x) = let none = quiet (same_event x n) in omega arith
few_grants m o queue made a n (deed.Claim x) = let none = quiet (same_event x n) in omega arith
few_grants m o queue made a n (deed.Up x) = let none = quiet (same_event x n) in omega arith
few_grants m o queue made a n (deed.Down x) = let none = quiet (same_event x n) in omega arith
few_grants m o queue made a n (deed.Finish j) = let none = finish_grants n (event_ended made j) in omega arith
few_grants m o queue made a n (deed.Leave true) =
    let touches = leave_grants n (stands_on side.Firmware a) in
    let turned = signalled (stands_on side.Firmware a) (same_event gbl n) in
    let swap : when (same_event gbl n) (signal_of side.Firmware a (deed.Leave true)) ≡ when (is_gbl n) (signal_of side.Firmware a (deed.Leave true)) = ap (λ b. when b (signal_of side.Firmware a (deed.Leave true))) (same_event-swap gbl n) in
    omega arith
few_grants m o queue made a n (deed.Push q) = let by = by_controller n (own_event m) in let most = named (is_own m n) (ctl_sets o (deed.Push q)) (omega arith) in omega arith
few_grants m o queue made a n (deed.Ctl effect.Calm) = omega arith
few_grants m o queue made a n (deed.Ctl effect.Taken) =
    let most = loud_move n (own_event m) (is_loud m o queue effect.Taken) (ctl_sets o (deed.Ctl effect.Taken)) (λ loud. (let move = a_move (asks_code o) in omega arith)) in
    omega arith
few_grants m o queue made a n (deed.Ctl effect.Put) =
    let most = loud_move n (own_event m) (is_loud m o queue effect.Put) (ctl_sets o (deed.Ctl effect.Put)) (λ loud. (let move = a_move (asks_code o) in omega arith)) in
    omega arith
few_grants m o queue made a n (deed.Ctl (effect.Out v)) =
    let most = loud_move n (own_event m) (is_loud m o queue (effect.Out v)) (ctl_sets o (deed.Ctl (effect.Out v))) (λ loud. (let move = a_move (asks_code o) in omega arith)) in
    omega arith
few_grants m o queue made a n _ = omega arith

pub claims_within : (m : MachineData) (n : Event) (past : List Entry) → LegalPast m past → total (takes m n) past ≤ total (sets_in m n) past
claims_within m n past legal =
    let claims = few_claims m n past legal in
    let within = total-le m (grants m n) (sets_in m n) (λ p e lp ok. few_grants m (open_of p) (codes p) (jobs m p) e.actor n e.deed) past legal in
    omega arith

-- ---- latches

pub latches-total : (n : Event) (past : List Entry) → latches past n ≡ total (by_deed (latch_in n)) past
latches-total n [] = refl
latches-total n (e ∷ past) = more e.deed (latches-total n past)
  where
    more_if : (b : Bool) (t k : ℕ) → t ≡ k → (if b then (t + 1) else t) ≡ one b + k
    more_if true t k same = omega arith
    more_if false t k same = omega arith

    more : (d : Deed) → latches past n ≡ total (by_deed (latch_in n)) past → latches (record { actor = e.actor; deed = d } ∷ past) n ≡ latch_in n d + total (by_deed (latch_in n)) past
    more (deed.Latch x) before = more_if (same_event x n) _ _ before
    more _ before = omega arith

pub few_latches : (m : MachineData) (n : Event) (past : List Entry) → LegalPast m past → total (by_deed (latch_in n)) past ≤ pulses_of m n
few_latches m n [] legal = omega arith
few_latches m n (e ∷ past) legal = more e.deed legal.0 (few_latches m n past legal.1)
  where
    at : (x : Event) (b : Bool) → same_event x n ≡ b → Allowed m past (record { actor = e.actor; deed = deed.Latch x }) → total (by_deed (latch_in n)) past ≤ pulses_of m n → one b + total (by_deed (latch_in n)) past ≤ pulses_of m n
    at x true same ok before =
        let less = subst (λ k. latches past k < pulses_of m k) (same_event-true x n same) (ltb-true _ _ (hold m past e.actor (deed.Latch x) ok).1.1.0) in
        let is = latches-total n past in
        omega arith
    at x false other ok before = omega arith

    more : (d : Deed) → Allowed m past (record { actor = e.actor; deed = d }) → total (by_deed (latch_in n)) past ≤ pulses_of m n → latch_in n d + total (by_deed (latch_in n)) past ≤ pulses_of m n
    more (deed.Latch x) ok before = at x (same_event x n) refl ok before
    more _ ok before = omega arith
