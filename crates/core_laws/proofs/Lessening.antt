-- Each step lessens what is to come; so rounds come to an end.
use Rattle.std.proofs.Common.{ℕ, zero, suc, ◌+◌, ◌-◌, ◌<◌, ◌≤◌, ◌≡◌, ◌==◌, ◌⊎◌, inl, inr, Bool, true, false, not, List, [], ◌∷◌, ◌++◌, length, map, unwrap_or, slice_get, option_map, Option, Some, None, is_some, refl, sym, ap, ◌∙◌, subst, arith, if◌then◌else◌}
use Rattle.std.proofs.lemmas.Bool.{eqb-false, eqb-true, lt-ltb, ltb-true, ne_eqb}
use Rattle.std.proofs.lemmas.List.{length-append, length-map}
use Rattle.std.proofs.lemmas.Option.{slice_get_within}
use Rattle.acpi_regs.specs.declared.actor.Actor.{Actor}
use Rattle.acpi_regs.specs.declared.actor.Actor.TheVariants as actor
use Rattle.acpi_regs.specs.declared.entry.Deed.{Deed}
use Rattle.acpi_regs.specs.declared.event.Event.{Event}
use Rattle.acpi_regs.specs.declared.phase.LockPhase.{LockPhase}
use Rattle.acpi_regs.specs.declared.phase.LockPhase.TheVariants as phase
use Rattle.acpi_regs.specs.Core.{Core, events_of}
use Rattle.acpi_regs.specs.CoreEvents.{is_host, list_of, past_in, pulses_in, tried}
use Rattle.facs_word.specs.Word.{is_owned, is_pending}
use Rattle.acpi_regs.specs.CoreSound.{is_kind, lock_phase, sum_below}
use Rattle.acpi_regs.specs.Phases.{Free, Holding, Lock, Phase, Pulsed, put}
use Rattle.acpi_regs.proofs.LockActors.{by_cases, put_other, put_self}
use Rattle.machine_desc.specs.declared.machine.ControllerDesc.{ControllerDesc}
use Rattle.machine_desc.specs.Actors.{actors_of, numbered, of_controller}
use Rattle.machine_desc.specs.Kept.{IsMachine, counts_in}
use Rattle.machine_desc.specs.Machine.{MachineData}
use Rattle.machine_desc.specs.Rules.{has_actor}
use Rattle.machine_desc.proofs.Order.{count, numbered_at}
use Rattle.machine_history.specs.Legal.{Legal}
use Rattle.machine_history.specs.Played.{IsQuiet, Settles}
use Rattle.machine_history.specs.Played.{steps as all_steps}
use Rattle.machine_history.specs.Steps.{Adds, Attempts, Pulses, Releases, Step, Sweeps, adds, gives, happens, host_entry, host_step, lock_step, next_step, pulses, script_entry}
use Rattle.machine_history.specs.Steps as steps
use Rattle.machine_history.proofs.Whole.{weight_bounds}
use Rattle.core_laws.specs.Gives.{NobodyHolds}
use Rattle.core_laws.specs.Rounds.{owed, owes, to_come}
use Rattle.core_laws.specs.Sound.{Sound}
use Rattle.core_laws.proofs.Giving.{Next, gives_sound, next_is, stepped_sound, steps_sound}
use Rattle.core_laws.proofs.Settling.{quiet_steps}

-- ---- a sum in which one part changed

sum_apart : (f g : ℕ → ℕ) (k n : ℕ) → ((j : ℕ) → (j == k) ≡ false → g j ≡ f j) → n ≤ k → sum_below g n ≡ sum_below f n
sum_apart f g k zero same most = refl
sum_apart f g k (suc n) same most = let rest = sum_apart f g k n same (omega (arith, most)) in let here = same n (ne_eqb n k (λ e. omega (arith, most, e))) in omega arith

sum_changed : (f g : ℕ → ℕ) (k n : ℕ) → ((j : ℕ) → (j == k) ≡ false → g j ≡ f j) → k < n → sum_below g n + f k ≡ sum_below f n + g k
sum_changed f g k zero same less = absurd (omega (arith, less))
sum_changed f g k (suc n) same less =
    by_cases (n == k) (sum_below g (suc n) + f k ≡ sum_below f (suc n) + g k)
    (λ is. let e = eqb-true n k is in let rest = sum_apart f g k n same (omega (arith, e)) in let gs = ap g e in let fs = ap f e in omega arith)
    (λ apart. let rest = sum_changed f g k n same (let ne = eqb-false n k apart in grind (arith, less, ne)) in let here = same n apart in omega arith)

-- ---- what one actor owes

abbrev part : MachineData → Actor → Phase → ℕ
part m (actor.Worker k) p = owes (lock_phase p)
part m (actor.Firmware k) p = owes (lock_phase p)
part m (actor.Device k) p = length (list_of m.devices k) - length (pulses_in p)
part m _ p = 0

apart_numbers : (k j : ℕ) → (j == k) ≡ false → (k == j) ≡ false
apart_numbers k j apart = ne_eqb k j (λ e. eqb-false j k apart (sym e))

owed_put : (m : MachineData) (c d : Core) (a : Actor) (q : Phase) → has_actor (counts_in m) a ≡ true → d.phases ≡ put a q c.phases → owed m d + part m a (c.phases a) ≡ owed m c + part m a q
owed_put m c d (actor.Worker k) q has is =
    let now = ap (λ f. sum_below (λ j. owes (lock_phase (f (actor.Worker j)))) m.workers) is in
    let firmware = ap (λ f. sum_below (λ j. owes (lock_phase (f (actor.Firmware j)))) (length m.firmware)) is in
    let devices = ap (λ f. sum_below (λ j. length (list_of m.devices j) - length (pulses_in (f (actor.Device j)))) (length m.devices)) is in
    let sum = sum_changed (λ j. owes (lock_phase (c.phases (actor.Worker j)))) (λ j. owes (lock_phase (put (actor.Worker k) q c.phases (actor.Worker j)))) k m.workers (λ j apart. ap (λ p. owes (lock_phase p)) (put_other (actor.Worker k) (actor.Worker j) q c.phases (apart_numbers k j apart))) (ltb-true k m.workers has) in
    let self = ap (λ p. owes (lock_phase p)) (put_self (actor.Worker k) q c.phases) in
    omega arith
owed_put m c d (actor.Firmware k) q has is =
    let workers = ap (λ f. sum_below (λ j. owes (lock_phase (f (actor.Worker j)))) m.workers) is in
    let now = ap (λ f. sum_below (λ j. owes (lock_phase (f (actor.Firmware j)))) (length m.firmware)) is in
    let devices = ap (λ f. sum_below (λ j. length (list_of m.devices j) - length (pulses_in (f (actor.Device j)))) (length m.devices)) is in
    let sum = sum_changed (λ j. owes (lock_phase (c.phases (actor.Firmware j)))) (λ j. owes (lock_phase (put (actor.Firmware k) q c.phases (actor.Firmware j)))) k (length m.firmware) (λ j apart. ap (λ p. owes (lock_phase p)) (put_other (actor.Firmware k) (actor.Firmware j) q c.phases (apart_numbers k j apart))) (ltb-true k (length m.firmware) has) in
    let self = ap (λ p. owes (lock_phase p)) (put_self (actor.Firmware k) q c.phases) in
    omega arith
owed_put m c d (actor.Device k) q has is =
    let workers = ap (λ f. sum_below (λ j. owes (lock_phase (f (actor.Worker j)))) m.workers) is in
    let firmware = ap (λ f. sum_below (λ j. owes (lock_phase (f (actor.Firmware j)))) (length m.firmware)) is in
    let now = ap (λ f. sum_below (λ j. length (list_of m.devices j) - length (pulses_in (f (actor.Device j)))) (length m.devices)) is in
    let sum = sum_changed (λ j. length (list_of m.devices j) - length (pulses_in (c.phases (actor.Device j)))) (λ j. length (list_of m.devices j) - length (pulses_in (put (actor.Device k) q c.phases (actor.Device j)))) k (length m.devices) (λ j apart. ap (λ p. length (list_of m.devices j) - length (pulses_in p)) (put_other (actor.Device k) (actor.Device j) q c.phases (apart_numbers k j apart))) (ltb-true k (length m.devices) has) in
    let self = ap (λ p. length (list_of m.devices k) - length (pulses_in p)) (put_self (actor.Device k) q c.phases) in
    omega arith
owed_put m c d actor.Int q has is = ap (λ f. owed m (record c { phases = f }) + 0) is
owed_put m c d actor.Poll q has is = ap (λ f. owed m (record c { phases = f }) + 0) is
owed_put m c d actor.Ec q has is = ap (λ f. owed m (record c { phases = f }) + 0) is

owes_few : (p : LockPhase) → owes p ≤ 1
owes_few (phase.Seeking l) = omega arith
owes_few phase.Quit = omega arith
owes_few _ = omega arith

moved_part : (m : MachineData) (a : Actor) (d : Deed) (p : Phase) → part m a (steps.moved_in d p) ≤ part m a p + 1
moved_part m (actor.Worker k) d p = let few = owes_few (lock_phase (steps.moved_in d p)) in omega arith
moved_part m (actor.Firmware k) d p = let few = owes_few (lock_phase (steps.moved_in d p)) in omega arith
moved_part m (actor.Device k) d (Lock p) = omega arith
moved_part m (actor.Device k) d Free = omega arith
moved_part m (actor.Device k) d (Holding words hand) = omega arith
moved_part m (actor.Device k) d (Pulsed ps) = omega arith
moved_part m actor.Int d p = omega arith
moved_part m actor.Poll d p = omega arith
moved_part m actor.Ec d p = omega arith

lock_part : (m : MachineData) (a : Actor) (p : LockPhase) → is_kind a (Lock p) ≡ true → part m a (Lock p) ≡ owes p
lock_part m (actor.Worker k) p is = refl
lock_part m (actor.Firmware k) p is = refl
lock_part m _ p is = cc

kind_lock : (a : Actor) (p q : LockPhase) → is_kind a (Lock p) ≡ true → is_kind a (Lock q) ≡ true
kind_lock (actor.Worker k) p q is = refl
kind_lock (actor.Firmware k) p q is = refl
kind_lock _ p q is = cc

-- ---- each step

tried_none : (w : ℕ) → owes (tried w) ≡ 0
tried_none w = at (is_owned w)
  where
    at : (b : Bool) → owes (if b then phase.Marked else phase.Won) ≡ 0
    at true = refl
    at false = refl

some_events : (m : MachineData) (c : Core) (a : Actor) → c.phases a ≡ Free → is_host a ≡ true → next_step m c.pins (past_in c) a (c.phases a) ≡ Some Sweeps → 1 ≤ length (events_of c.pins)
some_events m c a free host next = at a host (subst (λ p. next_step m c.pins (past_in c) a p ≡ Some Sweeps) free next)
  where
    no_entry : (o : Option Deed) → adds o ≡ Some Sweeps → ⊥
    no_entry None is = cc
    no_entry (Some d) is = cc

    swept : (a : Actor) → host_step m c.pins (past_in c) a ≡ Some Sweeps → 1 ≤ length (events_of c.pins)
    swept a is = by_events (events_of c.pins) is
      where
        by_events : (events : List Event) → (if steps.is_empty events then adds (host_entry m (past_in c) a) else Some Sweeps) ≡ Some Sweeps → 1 ≤ length events
        by_events [] is = absurd (no_entry (host_entry m (past_in c) a) is)
        by_events (n ∷ events) is = omega arith

    at : (a : Actor) → is_host a ≡ true → next_step m c.pins (past_in c) a Free ≡ Some Sweeps → 1 ≤ length (events_of c.pins)
    at actor.Int host is = swept actor.Int is
    at actor.Poll host is = swept actor.Poll is
    at _ host is = cc

lessen_step : (m : MachineData) (c : Core) (a : Actor) (s : Step) → IsMachine m → Sound m c → Legal m (happens c a s).history → has_actor (counts_in m) a ≡ true → next_step m c.pins (past_in c) a (c.phases a) ≡ Some s → Next m c a (c.phases a) (Some s) → to_come m (happens c a s) < to_come m c
lessen_step m c a Attempts ok h legal has next is =
    let kind = ap (is_kind a) (sym is.1) ∙ h.core.kinds a in
    let changed = owed_put m c (happens c a Attempts) a (Lock (tried c.word)) has refl in
    let old = ap (part m a) is.1 ∙ lock_part m a (phase.Seeking is.0) kind in
    let new = lock_part m a (tried c.word) (kind_lock a (phase.Seeking is.0) (tried c.word) kind) ∙ tried_none c.word in
    omega arith
lessen_step m c a Releases ok h legal has next is =
    let kind = ap (is_kind a) (sym is) ∙ h.core.kinds a in
    let changed = owed_put m c (happens c a Releases) a (Lock (phase.Gone (is_pending c.word))) has refl in
    let old = ap (part m a) is ∙ lock_part m a phase.Quit kind in
    let new = lock_part m a (phase.Gone (is_pending c.word)) (kind_lock a phase.Quit (phase.Gone (is_pending c.word)) kind) in
    omega arith
lessen_step m c a (Pulses n) ok h legal has next is =
    let changed = owed_put m c (happens c a (Pulses n)) a (steps.pulsed_more n (not (c.pins n)) (c.phases a)) has refl in
    let old = ap (λ b. part m b (c.phases a)) is.2 ∙ ap (part m (actor.Device is.0)) is.3 in
    let new = ap (λ b. part m b (steps.pulsed_more n (not (c.pins n)) (c.phases a))) is.2 ∙ ap (λ p. part m (actor.Device is.0) (steps.pulsed_more n (not (c.pins n)) p)) is.3 in
    let longer = length-append is.1 (record { event = n; clear = not (c.pins n) } ∷ []) in
    let less = slice_get_within (pulses m is.0) (length is.1) n is.4 in
    omega arith
lessen_step m c a Sweeps ok h legal has next is =
    let changed = owed_put m c (happens c a Sweeps) a Free has refl in
    let some = some_events m c a is.1 is.0 next in
    let none = host_part a Free is.0 in
    let before = host_part a (c.phases a) is.0 in
    let bound = weight_bounds m (happens c a Sweeps).history ok legal in
    let long = length-append c.history (map (steps.latch a) (events_of c.pins)) in
    let same = length-map (events_of c.pins) (steps.latch a) in
    omega arith
  where
    host_part : (a : Actor) (p : Phase) → is_host a ≡ true → part m a p ≡ 0
    host_part actor.Int p is = refl
    host_part actor.Poll p is = refl
    host_part _ p is = cc
lessen_step m c a (Adds d) ok h legal has next is =
    let changed = owed_put m c (happens c a (Adds d)) a (steps.moved_in d (c.phases a)) has refl in
    let few = moved_part m a d (c.phases a) in
    let bound = weight_bounds m (happens c a (Adds d)).history ok legal in
    let long = length-append c.history (steps.entry a d ∷ []) in
    omega arith

pub lessens : (m : MachineData) (c d : Core) (a : Actor) → IsMachine m → Sound m c → NobodyHolds c → has_actor (counts_in m) a ≡ true → gives m c a ≡ Some d → to_come m d < to_come m c
lessens m c d a ok h nobody has given = at (next_step m c.pins (past_in c) a (c.phases a)) refl (next_is m c a (c.phases a)) given
  where
    at : (o : Option Step) → next_step m c.pins (past_in c) a (c.phases a) ≡ o → Next m c a (c.phases a) o → option_map (happens c a) o ≡ Some d → to_come m d < to_come m c
    at None next is given = cc
    at (Some s) next is led =
        let same : happens c a s ≡ d = some-injective (happens c a s) d led in
        subst (λ x. to_come m x < to_come m c) same (lessen_step m c a s ok h (subst (λ x. Legal m x.history) (sym same) (gives_sound m c a d ok h nobody given).0.legal) has next is)
      where
        some-injective : (x y : Core) → Some x ≡ Some y → x ≡ y
        some-injective x y e = cc

-- ---- rounds

-- each of these is an actor of the machine
abbrev AreActors : MachineData → List Actor → Type 0
AreActors m [] = Unit {0}
AreActors m (a ∷ names) = (has_actor (counts_in m) a ≡ true) × AreActors m names

actors-append : (m : MachineData) (xs ys : List Actor) → AreActors m xs → AreActors m ys → AreActors m (xs ++ ys)
actors-append m [] ys one other = other
actors-append m (x ∷ xs) ys one other = (one.0, actors-append m xs ys one.1 other)

actors_by : (m : MachineData) (xs : List Actor) → ((k : ℕ) (a : Actor) → slice_get xs k ≡ Some a → has_actor (counts_in m) a ≡ true) → AreActors m xs
actors_by m [] each = tt
actors_by m (x ∷ xs) each = (each zero x refl, actors_by m xs (λ k a at. each (suc k) a at))

numbered_actors : (m : MachineData) (make : ℕ → Actor) (n : ℕ) → ((k : ℕ) → k < n → has_actor (counts_in m) (make k) ≡ true) → AreActors m (numbered make n)
numbered_actors m make n each = actors_by m (numbered make n) (λ k a at. (
    let less : k < n = subst (λ l. k < l) (count make n) (slice_get_within (numbered make n) k a at) in
    ap (has_actor (counts_in m)) (sym (some-injective (make k) a (sym (numbered_at make n k less) ∙ at))) ∙ each k less))
  where
    some-injective : (x y : Actor) → Some x ≡ Some y → x ≡ y
    some-injective x y e = cc

all_actors : (m : MachineData) → AreActors m (actors_of m)
unfolding actors_of
all_actors m = (
  refl,
  (
    refl,
    actors-append m (numbered actor.Worker m.workers) _ (numbered_actors m actor.Worker m.workers (λ k less. lt-ltb k m.workers less))
        (actors-append m (of_controller m.controller) _ (controllers m.controller refl)
        (actors-append m (numbered actor.Device (length m.devices)) _ (numbered_actors m actor.Device (length m.devices) (λ k less. lt-ltb k (length m.devices) less))
        (numbered_actors m actor.Firmware (length m.firmware) (λ k less. lt-ltb k (length m.firmware) less)))),
  ),
)
  where
    controllers : (o : Option ControllerDesc) → m.controller ≡ o → AreActors m (of_controller o)
    controllers None is = tt
    controllers (Some d) is = (ap is_some is, tt)

round : (m : MachineData) (names : List Actor) (c : Core) → IsMachine m → AreActors m names → Sound m c → NobodyHolds c → IsQuiet m names c ⊎ (to_come m (all_steps m names c) < to_come m c)
round m [] c ok are h nobody = inl tt
round m (a ∷ names) c ok are h nobody = at (gives m c a) refl (stepped_sound m c a ok h nobody) (λ d sound free. round m names d ok are.1 sound free)
  where
    at : (o : Option Core) → gives m c a ≡ o → Sound m (unwrap_or o c) × NobodyHolds (unwrap_or o c) → ((d : Core) → Sound m d → NobodyHolds d → IsQuiet m names d ⊎ (to_come m (all_steps m names d) < to_come m d))
        → ((gives m c a ≡ None) × IsQuiet m names c) ⊎ (to_come m (all_steps m names (unwrap_or (gives m c a) c)) < to_come m c)
    at None is sound later = elim (later c sound.0 sound.1) [
      | inl quiet ↦ inl (is, quiet)
      | inr less ↦ inr (subst (λ o. to_come m (all_steps m names (unwrap_or o c)) < to_come m c) (sym is) less)
    ]
    at (Some d) is sound later =
        let first = lessens m c d a ok h nobody are.0 is in
        elim (later d sound.0 sound.1) [
          | inl quiet ↦ inr (subst (λ o. to_come m (all_steps m names (unwrap_or o c)) < to_come m c) (sym is) (subst (λ x. to_come m x < to_come m c) (sym (quiet_steps m names d quiet)) first))
          | inr less ↦ inr (subst (λ o. to_come m (all_steps m names (unwrap_or o c)) < to_come m c) (sym is) (omega (arith, less, first)))
        ]

pub round_lessens : (m : MachineData) (c : Core) → IsMachine m → Sound m c → NobodyHolds c → IsQuiet m (actors_of m) c ⊎ (to_come m (all_steps m (actors_of m) c) < to_come m c)
round_lessens m c ok h nobody = round m (actors_of m) c ok (all_actors m) h nobody

-- so many rounds at most
settling : (m : MachineData) (k : ℕ) (c : Core) → IsMachine m → Sound m c → NobodyHolds c → to_come m c ≤ k → (d : Core) × (s : Settles m (actors_of m) c d) × (s.0 ≤ k)
settling m zero c ok h nobody most = elim (round_lessens m c ok h nobody) [
  | inl quiet ↦ (c, (0, refl, quiet), omega arith)
  | inr less ↦ absurd (omega (arith, less, most))
]
settling m (suc k) c ok h nobody most = at (round_lessens m c ok h nobody) (λ less. (let next = steps_sound m (actors_of m) c ok h nobody in settling m k (all_steps m (actors_of m) c) ok next.0 next.1 (omega (arith, less, most))))
  where
    at : IsQuiet m (actors_of m) c ⊎ (to_come m (all_steps m (actors_of m) c) < to_come m c) → (to_come m (all_steps m (actors_of m) c) < to_come m c → (d : Core) × (s : Settles m (actors_of m) (all_steps m (actors_of m) c) d) × (s.0 ≤ k)) → (d : Core) × (s : Settles m (actors_of m) c d) × (s.0 ≤ suc k)
    at (inl quiet) later = (c, (0, refl, quiet), omega arith)
    at (inr less) later = let found = later less in (found.0, (suc found.1.0, found.1.1, found.1.2), omega (arith, found.2))

pub settles_some : (m : MachineData) (c : Core) → IsMachine m → Sound m c → NobodyHolds c → (d : Core) × (s : Settles m (actors_of m) c d) × (s.0 ≤ to_come m c)
settles_some m c ok h nobody = settling m (to_come m c) c ok h nobody (omega arith)
