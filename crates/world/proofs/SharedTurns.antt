-- A turn of a duty is one that a shared table takes back, and what it makes of the seat.
use Rattle.std.proofs.Common.{◌≡◌, ◌&&◌, not, ◌<◌, ◌≤◌, ◌+◌, ℕ, zero, suc, Bool, true, false, cond, List, [], ◌∷◌, ◌++◌, map, reverse, length, drop, Option, Some, None, refl, sym, ap, subst, ◌∙◌, arith, sum_by, nat_lt}
use mathlib.Core.List.{map-append, reverse-append}
use Rattle.std.proofs.lemmas.Bool.{lt-ltb}
use Rattle.acpi_regs.specs.declared.actor.Actor.{Actor}
use Rattle.acpi_regs.specs.declared.actor.Actor.TheVariants as actor
use Rattle.acpi_regs.specs.declared.entry.Deed.{Deed}
use Rattle.acpi_regs.specs.declared.entry.Deed.TheVariants as deed
use Rattle.acpi_regs.specs.declared.entry.Entry.{Entry}
use Rattle.acpi_regs.specs.declared.event.Event.{Event}
use Rattle.acpi_regs.specs.Actor.{same_actor}
use Rattle.acpi_regs.specs.Core.{Core, all_events, event_at, events_below, events_of, if_in, no_event}
use Rattle.acpi_regs.specs.CoreEvents.{entry, in_hand, is_holding, lock_deeds, may_add, one, past_in}
use Rattle.acpi_regs.specs.CoreEvents as regs
use Rattle.acpi_regs.specs.CoreSound.{is_kind, listed_pulses, times}
use Rattle.acpi_regs.specs.CoreSound as regs_sound
use Rattle.acpi_regs.specs.Event.{event_rank}
use Rattle.acpi_regs.specs.Phases.{Free, Holding, Lock, Phase, Pulsed, is_lock_deed, put}
use Rattle.acpi_regs.proofs.LockActors.{put_other, put_self}
use Rattle.acpi_regs.proofs.LockTurns.{add_all, add_reverse}
use Rattle.core_laws.proofs.Giving.{latches_same, lists_same}
use Rattle.core_laws.proofs.Steps.{bus_turn}
use Rattle.core_laws.specs.CoreSteps.{EachLegal, EachMay, IsBusTurn}
use Rattle.lock_table.specs.declared.view.Occupant.{Occupant}
use Rattle.lock_table.specs.declared.view.Occupant.TheVariants as who
use Rattle.lock_table.specs.declared.view.Part.{Part}
use Rattle.lock_table.specs.declared.view.SeatPhase.{SeatPhase}
use Rattle.lock_table.specs.declared.view.SeatPhase.TheVariants as kept
use Rattle.lock_table.specs.declared.view.Stage.{Stage}
use Rattle.lock_table.specs.declared.view.Stage.TheVariants as stage
use Rattle.lock_table.specs.declared.view.View.{View}
use Rattle.lock_table.specs.declared.words.Bits.{Bits}
use Rattle.lock_table.specs.Bits.{is_set, words_of}
use Rattle.lock_table.specs.Pins.{pins_of}
use Rattle.lock_table.specs.Views.{EachPart, ForOne, HoldsInTurn, IsOwn, MayAdd, after_deed, after_deeds, deeds_of, gave, let_go, map_one, noted, parts_in, phase_of}
use Rattle.lock_table.specs.WordPlays.{AreFewer}
use Rattle.machine_desc.specs.Machine.{MachineData}
use Rattle.machine_history.specs.Legal.{Allowed, Legal, LegalPast, is_host}
use Rattle.machine_history.specs.Machine.{pulses_of}
use Rattle.machine_history.specs.Machine as machine
use Rattle.machine_history.specs.Steps.{latch}
use Rattle.world.specs.declared.turn.Acted.{Acted}
use Rattle.world.specs.Duties.{AreLatchable, HasNoLatch, IsTurn, IsWithin, pinned}
use Rattle.world.specs.Duties as duties
use Rattle.world.specs.Calls.{To_turn}
use Rattle.world.specs.Shared.{AllowsLock, MayAct, SeatMay, finished, gathered}
use Rattle.world.proofs.Events.{events_first, events_more, no_events}

-- ---- what was collected

right_of : (a b : Bool) → (a && b) ≡ true → b ≡ true
right_of true b is = is
right_of false b is = cc

pulses_same : (n : Event) (lists : List (List Event)) → sum_by (machine.times n) lists ≡ listed_pulses lists n
pulses_same n lists = ap (λ f. sum_by f lists) (λ i events. lists_same n events i)

pub fewer_latchable : (m : MachineData) (entries : List Entry) (bits : Bits) → AreFewer m.devices entries (words_of bits) → AreLatchable m entries (pinned bits)
fewer_latchable m entries bits fewer n set =
    let less = fewer n (right_of (nat_lt (event_rank n) all_events) (is_set bits n) set) in
    let few = latches_same n (reverse entries) in
    let same = pulses_same n m.devices in
    omega (arith, less, few, same)

pub none_latchable : (m : MachineData) (entries : List Entry) (set : Event → Bool) → set ≡ no_event → AreLatchable m entries set
none_latchable m entries set none n is = absurd (no (ap (λ (f : Event → Bool). f n) (sym none) ∙ is))
  where
    no : false ≡ true → ⊥
    no e = cc

pub nothing_set : (set : Event → Bool) → set ≡ no_event → events_of set ≡ []
nothing_set set none = ap events_of none ∙ no_events

-- ---- the entries of a turn

as_entries : (a : Actor) (events : List Event) → map (entry a) (map deed.Latch events) ≡ map (latch a) events
as_entries a [] = refl
as_entries a (n ∷ events) = ap (λ l. entry a (deed.Latch n) ∷ l) (as_entries a events)

no_latch : (deeds : List Deed) → HasNoLatch deeds → regs.has_no_latch deeds ≡ true
no_latch [] none = refl
no_latch (d ∷ deeds) none = first d none.0 (no_latch deeds none.1)
  where
    first : (d : Deed) → duties.is_latch d ≡ false → regs.has_no_latch deeds ≡ true → regs.has_no_latch (d ∷ deeds) ≡ true
    first (deed.Latch n) isnt rest = cc
    first _ isnt rest = rest

latches_quiet : (events : List Event) (deeds : List Deed) → lock_deeds (map deed.Latch events ++ deeds) ≡ lock_deeds deeds
latches_quiet [] deeds = refl
latches_quiet (n ∷ events) deeds = let rest = latches_quiet events deeds in omega (arith, rest)

none_within : (deeds : List Deed) → IsWithin None deeds → lock_deeds deeds ≡ 0
none_within [] within = refl
none_within (d ∷ deeds) within = at (is_lock_deed d) within.0 within.1 (none_within deeds)
  where
    no : ◌≡◌ {A = Option Deed} None (Some d) → ⊥
    no e = cc

    at : (b : Bool) → (b ≡ true → ◌≡◌ {A = Option Deed} None (Some d)) → IsWithin (cond {A = Option Deed} b None None) deeds → (IsWithin None deeds → lock_deeds deeds ≡ 0) → one b + lock_deeds deeds ≡ 0
    at true names rest few = absurd (no (names refl))
    at false names rest few = let l = few rest in omega (arith, l)

few_within : (lock : Option Deed) (deeds : List Deed) → IsWithin lock deeds → lock_deeds deeds ≤ 1
few_within lock [] within = omega arith
few_within lock (d ∷ deeds) within = at (is_lock_deed d) within.1 (few_within lock deeds)
  where
    at : (b : Bool) → IsWithin (cond b None lock) deeds → (IsWithin lock deeds → lock_deeds deeds ≤ 1) → one b + lock_deeds deeds ≤ 1
    at true rest few = let none = none_within deeds rest in omega (arith, none)
    at false rest few = let l = few rest in omega (arith, l)

-- what is no entry of the lock each phase allows
quiet_may : (p : Phase) (d : Deed) → is_lock_deed d ≡ false → may_add p d ≡ true
quiet_may (Lock q) d quiet = at d quiet
  where
    at : (d : Deed) → is_lock_deed d ≡ false → may_add (Lock q) d ≡ true
    at deed.Seek quiet = cc
    at deed.Busy quiet = cc
    at deed.Woken quiet = cc
    at deed.Own quiet = cc
    at deed.Disown quiet = cc
    at (deed.Leave signals) quiet = cc
    at _ quiet = refl
quiet_may Free d quiet = ap not quiet
quiet_may (Holding words hand) d quiet = ap not quiet
quiet_may (Pulsed ps) d quiet = ap not quiet

each_within : (p : SeatPhase) (lock : Option Deed) (deeds : List Deed) → AllowsLock p lock → IsWithin lock deeds → EachMay (phase_of p) deeds
each_within p lock [] allows within = tt
each_within p lock (d ∷ deeds) allows within = at (is_lock_deed d) refl within.0 within.1 (λ l some rest. each_within p l deeds some rest)
  where
    at : (b : Bool) → is_lock_deed d ≡ b → (b ≡ true → lock ≡ Some d) → IsWithin (cond b None lock) deeds → ((l : Option Deed) → AllowsLock p l → IsWithin l deeds → EachMay (phase_of p) deeds) → EachMay (phase_of p) (d ∷ deeds)
    at true is names rest each = (subst (AllowsLock p) (names refl) allows, each None tt rest)
    at false is names rest each = (quiet_may (phase_of p) d is, each lock allows rest)

latches_may : (p : Phase) (events : List Event) (deeds : List Deed) → EachMay p deeds → EachMay p (map deed.Latch events ++ deeds)
latches_may p [] deeds may = may
latches_may p (n ∷ events) deeds may = (quiet_may p (deed.Latch n) refl, latches_may p events deeds may)

-- each is legal in its place
legal_each : (m : MachineData) (a : Actor) (deeds : List Deed) (past : List Entry) → LegalPast m (add_all a deeds past) → LegalPast m past × EachLegal m past a deeds
legal_each m a [] past legal = (legal, tt)
legal_each m a (d ∷ deeds) past legal = let h = legal_each m a deeds (entry a d ∷ past) legal in (h.0.1, (h.0.0, h.1))

-- ---- the same turn for the table

past_of_turn : (a : Actor) (deeds : List Deed) (before : List Entry) → reverse (before ++ map (entry a) deeds) ≡ add_all a deeds (reverse before)
past_of_turn a deeds before = reverse-append before (map (entry a) deeds) ∙ add_reverse a deeds (reverse before)

module _ (m : MachineData) (p : SeatPhase) (a : Actor) (lock : Option Deed) (before after : List Entry) (events : List Event) (answer : Acted)
    (hand : events ≡ events_of (in_hand (phase_of p))) (allows : AllowsLock p lock) (turn : IsTurn a lock before after events answer) (legal : Legal m after) where
  abbrev deeds : List Deed
  deeds = map deed.Latch events ++ turn.deeds

  adds : after ≡ before ++ map (entry a) deeds
  adds = turn.adds ∙ ap (λ l. before ++ l) (sym (map-append (entry a) (map deed.Latch events) turn.deeds ∙ ap (λ l. l ++ map (entry a) turn.deeds) (as_entries a events)))

  -- a core in which nobody else holds the turn
  abbrev core : Core
  core = record { word = 0; pins = no_event; history = before; phases = put a (phase_of p) (λ _. Free) }

  is_phase : core.phases a ≡ phase_of p
  is_phase = put_self a (phase_of p) (λ _. Free)

  bus : IsBusTurn m core a deeds
  bus = record {
    free = λ b apart. ap is_holding (put_other a b (phase_of p) (λ _. Free) apart);
    latches = (turn.deeds, ap (λ l. map deed.Latch l ++ turn.deeds) (hand ∙ ap (λ q. events_of (in_hand q)) (sym is_phase)), no_latch turn.deeds turn.latches_first);
    few = let quiet = latches_quiet events turn.deeds in let few = few_within lock turn.deeds turn.locks in omega (arith, quiet, few);
    may = subst (λ q. EachMay q deeds) (sym is_phase) (latches_may (phase_of p) events turn.deeds (each_within p lock turn.deeds allows turn.locks));
    legal = (legal_each m a deeds (reverse before) (subst (LegalPast m) (ap reverse adds ∙ past_of_turn a deeds before) legal)).1;
  }

  pub turn_is : regs.IsTurn (phase_of p) (reverse before) a deeds
  turn_is = subst (λ q. regs.IsTurn q (reverse before) a deeds) is_phase (bus_turn m core a deeds bus)

-- ---- the events of a collect are those in hand

rank_at : (k : ℕ) → event_rank (event_at k) ≡ k
rank_at zero = refl
rank_at (suc zero) = refl
rank_at (suc (suc zero)) = refl
rank_at (suc (suc (suc zero))) = refl
rank_at (suc (suc (suc (suc zero)))) = refl
rank_at (suc (suc (suc (suc (suc k))))) = omega arith

pinned_below : (bits : Bits) (k : ℕ) → k ≤ all_events → events_below (pinned bits) k ≡ events_below (is_set bits) k
pinned_below bits zero within = events_first (pinned bits) ∙ sym (events_first (is_set bits))
pinned_below bits (suc k) within =
    let below : k < all_events = omega (arith, within) in
    let there : nat_lt (event_rank (event_at k)) all_events ≡ true = ap (λ r. nat_lt r all_events) (rank_at k) ∙ lt-ltb k all_events below in
    events_more (pinned bits) k
    ∙ ap (λ l. l ++ if_in (pinned bits) (event_at k)) (pinned_below bits k (omega (arith, below)))
    ∙ ap (λ b. events_below (is_set bits) k ++ cond (b && is_set bits (event_at k)) (event_at k ∷ []) []) there
    ∙ sym (events_more (is_set bits) k)

pinned_events : (bits : Bits) → events_of (pinned bits) ≡ events_of (pins_of (words_of bits))
pinned_events bits = pinned_below bits all_events (omega arith)

empty_hand : (p : SeatPhase) → is_holding (phase_of p) ≡ false → events_of (in_hand (phase_of p)) ≡ []
empty_hand (kept.Lock q) empty = no_events
empty_hand kept.Free empty = no_events
empty_hand (kept.Holding hand) empty = cc
empty_hand (kept.Pulsed ps) empty = no_events

-- ---- what the table asks of the turn, and what the seat is behind it

free_allows : (hand : List ℕ) (lock : Option Deed) → AllowsLock kept.Free lock → AllowsLock (kept.Holding hand) lock
free_allows hand None allows = tt
free_allows hand (Some d) allows = allows

module _ (m : MachineData) (a : Actor) (lock : Option Deed) (before after : List Entry) (told : List Entry) (g : Stage) (turns misses : ℕ) (bits : Bits) (answer : Acted) where
  abbrev of : Occupant → View
  of o = record { who = o; seen = before; told = told; stage = g; turns = turns; misses = misses }

  added : (collect : Bool) (o : Occupant) → ForOne (MayAct a collect lock) o → (collect ≡ false → events_of (pinned bits) ≡ []) → IsTurn a lock before after (events_of (pinned bits)) answer → Legal m after
      → MayAdd (gathered collect (words_of bits) (of o)).who before after
  added collect (who.Root ps) may nothing turn legal = absurd may
  added collect who.Nobody may nothing turn legal = absurd may
  added true (who.One p) may nothing turn legal =
      let allows = free_allows (words_of bits) lock (subst (λ q. AllowsLock q lock) (may.free refl) may.allows) in
      let its = subst (λ x. IsTurn x lock before after (events_of (pinned bits)) answer) (sym may.is_its) turn in (
        deeds m (kept.Holding (words_of bits)) p.actor lock before after (events_of (pinned bits)) answer (pinned_events bits) allows its legal,
        adds m (kept.Holding (words_of bits)) p.actor lock before after (events_of (pinned bits)) answer (pinned_events bits) allows its legal,
        turn_is m (kept.Holding (words_of bits)) p.actor lock before after (events_of (pinned bits)) answer (pinned_events bits) allows its legal,
      )
  added false (who.One p) may nothing turn legal =
      let hand = nothing refl ∙ sym (empty_hand p.phase may.empty) in
      let its = subst (λ x. IsTurn x lock before after (events_of (pinned bits)) answer) (sym may.is_its) turn in (
        deeds m p.phase p.actor lock before after (events_of (pinned bits)) answer hand may.allows its legal,
        adds m p.phase p.actor lock before after (events_of (pinned bits)) answer hand may.allows its legal,
        turn_is m p.phase p.actor lock before after (events_of (pinned bits)) answer hand may.allows its legal,
      )

pub may_add_turn : (m : MachineData) (a : Actor) (lock : Option Deed) (collect : Bool) (v w : View) (after : List Entry) (bits : Bits) (answer : Acted) → w ≡ gathered collect (words_of bits) v → ForOne (MayAct a collect lock) v.who
    → (collect ≡ false → events_of (pinned bits) ≡ []) → IsTurn a lock v.seen after (events_of (pinned bits)) answer → Legal m after → MayAdd w.who w.seen after
may_add_turn m a lock collect v w after bits answer is may nothing turn legal = subst (λ (x : View). MayAdd x.who x.seen after) (sym is) (by_collect collect (added m a lock v.seen after v.told v.stage v.turns v.misses bits answer collect v.who may nothing turn legal))
  where
    by_collect : (c : Bool) → MayAdd (gathered c (words_of bits) v).who v.seen after → MayAdd (gathered c (words_of bits) v).who (gathered c (words_of bits) v).seen after
    by_collect true h = h
    by_collect false h = h

hold_still : (ds : List Deed) (hand : List ℕ) → after_deeds ds (kept.Holding hand) ≡ kept.Holding hand
hold_still [] hand = refl
hold_still (d ∷ ds) hand = hold_still ds hand

free_still : (ds : List Deed) → after_deeds ds kept.Free ≡ kept.Free
free_still [] = refl
free_still (d ∷ ds) = free_still ds

freed : (ds : List Deed) (hand : List ℕ) (p : SeatPhase) → p ≡ kept.Free → let_go (after_deeds ds (kept.Holding hand)) ≡ let_go (after_deeds ds p)
freed ds hand p is = ap let_go (hold_still ds hand) ∙ sym (ap let_go (ap (after_deeds ds) is ∙ free_still ds))

ends : (a : Actor) (lock : Option Deed) (collect : Bool) (hand : List ℕ) (before after told : List Entry) (g : Stage) (turns misses : ℕ) (o : Occupant) → ForOne (MayAct a collect lock) o
    → gave after (gathered collect hand (record { who = o; seen = before; told = told; stage = g; turns = turns; misses = misses })) ≡ finished collect after (record { who = o; seen = before; told = told; stage = g; turns = turns; misses = misses })
ends a lock collect hand before after told g turns misses (who.Root ps) may = absurd may
ends a lock collect hand before after told g turns misses who.Nobody may = absurd may
ends a lock false hand before after told g turns misses (who.One p) may = refl
ends a lock true hand before after told g turns misses (who.One p) may = ap
    (λ q. record { who = who.One (record { actor = p.actor; phase = q; mine = p.mine ++ drop (length before) after; tried = p.tried; found = p.found; loaded = p.loaded; swept = p.swept + 5 }); seen = after; told = told; stage = stage.Away; turns = turns; misses = misses })
    (freed (deeds_of (drop (length before) after)) hand p.phase (may.free refl))

pub is_finished : (a : Actor) (lock : Option Deed) (collect : Bool) (hand : List ℕ) (v w x : View) (after : List Entry) → w ≡ gathered collect hand v → x ≡ gave after w → ForOne (MayAct a collect lock) v.who → x ≡ finished collect after v
is_finished a lock collect hand v w x after is then may = then ∙ ap (gave after) is ∙ ends a lock collect hand v.seen after v.told v.stage v.turns v.misses v.who may

-- ---- a seat that may take a turn may act in it

free_host : (b : Actor) (k : SeatPhase) → is_host b ≡ true → is_kind b (phase_of k) ≡ true → is_holding (phase_of k) ≡ false → k ≡ kept.Free
free_host b kept.Free host kind empty = refl
free_host b (kept.Holding hand) host kind empty = cc
free_host actor.Int (kept.Lock q) host kind empty = cc
free_host actor.Poll (kept.Lock q) host kind empty = cc
free_host actor.Int (kept.Pulsed ps) host kind empty = cc
free_host actor.Poll (kept.Pulsed ps) host kind empty = cc
free_host _ (kept.Lock q) host kind empty = cc
free_host _ (kept.Pulsed ps) host kind empty = cc

hosts_collect : (b : Bool) → (b ≡ false → true ≡ false) → b ≡ true
hosts_collect true h = refl
hosts_collect false h = absurd (no (h refl))
  where
    no : true ≡ false → ⊥
    no e = cc

may_act_in : (a : Actor) (collect : Bool) (lock : Option Deed) (g : Stage) (o : Occupant) → g ≡ stage.Away → ForOne (λ p. (p.actor ≡ a) × AllowsLock p.phase lock) o → EachPart (λ p. is_kind p.actor (phase_of p.phase) ≡ true) (parts_in o) → HoldsInTurn g o
    → (is_host a ≡ false → collect ≡ false) → ForOne (MayAct a collect lock) (map_one (noted 0) o)
may_act_in a collect lock g (who.Root ps) away may kinds free hosts = absurd may
may_act_in a collect lock g who.Nobody away may kinds free hosts = absurd may
may_act_in a collect lock g (who.One p) away may kinds free hosts = record {
  is_its = may.0;
  allows = may.1;
  empty = free away;
  free = λ collects. free_host p.actor p.phase (ap is_host may.0 ∙ hosts_collect (is_host a) (λ isnt. sym collects ∙ hosts isnt)) kinds.0 (free away);
}

pub may_act : (a : Actor) (collect : Bool) (lock : Option Deed) (lists : List (List Event)) (v w : View) → SeatMay lists v a (To_turn collect lock) → IsOwn v → (is_host a ≡ false → collect ≡ false) → w.who ≡ map_one (noted 0) v.who → ForOne (MayAct a collect lock) w.who
may_act a collect lock lists v w may own hosts is = subst (ForOne (MayAct a collect lock)) (sym is) (may_act_in a collect lock v.stage v.who may.away may.part own.kinds own.free hosts)
