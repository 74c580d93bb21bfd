-- What a step of an actor does is a list of core events.
use Rattle.std.proofs.Common.{ℕ, zero, suc, ◌+◌, ◌<◌, ◌≤◌, ◌≡◌, ◌==◌, ◌&&◌, ◌||◌, Bool, true, false, not, cond, List, [], ◌∷◌, ◌++◌, length, map, slice_get, sum_by, option_map, unwrap_or, Option, Some, None, refl, sym, ap, ◌∙◌, subst, arith}
use Rattle.std.proofs.lemmas.Bool.{eq-eqb, lt-ltb}
use Rattle.acpi_regs.specs.declared.actor.Actor.{Actor}
use Rattle.acpi_regs.specs.declared.actor.Actor.TheVariants as actor
use Rattle.acpi_regs.specs.declared.entry.Deed.{Deed}
use Rattle.acpi_regs.specs.declared.entry.Deed.TheVariants as deed
use Rattle.acpi_regs.specs.declared.entry.Effect.TheVariants as effect
use Rattle.acpi_regs.specs.declared.entry.Entry.{Entry}
use Rattle.acpi_regs.specs.declared.event.Event.{Event}
use Rattle.acpi_regs.specs.declared.event.Event.TheVariants as event
use Rattle.acpi_regs.specs.declared.phase.LockPhase.{LockPhase}
use Rattle.acpi_regs.specs.declared.phase.LockPhase.TheVariants as phase
use Rattle.acpi_regs.specs.declared.phase.Pulse.{Pulse}
use Rattle.acpi_regs.specs.Actor.{same_actor}
use Rattle.acpi_regs.specs.Core.{Core, all_events, event_at, events_below, events_of, first_core, if_in, no_event}
use Rattle.acpi_regs.specs.CoreEvents.{Collect, CoreEvent, LatchesFirst, OthersFree, Turn, collected, entry, exchanged, freed, has_collected, has_no_latch, in_hand, is_holding, is_host, is_latch, loaded, lock_deeds, may_add, moved_all, moved_in, next_pulse, one, past_in, pulsed, pulses_in, tried, turned}
use Rattle.facs_word.specs.Word.{acquired}
use Rattle.acpi_regs.specs.CoreSound.{PinsSound, latches, listed_pulses, times}
use Rattle.acpi_regs.specs.Event.{event_rank, same_event, word_of}
use Rattle.acpi_regs.specs.Phases.{Free, Holding, Lock, Phase, Pulsed, allows, is_idle, is_lock_deed, put}
use Rattle.acpi_regs.proofs.Halves.{one_most}
use Rattle.acpi_regs.proofs.Latching.{latches_within}
use Rattle.acpi_regs.proofs.LockActors.{actor_true, by_cases, put_other, put_put, put_self}
use Rattle.acpi_regs.proofs.Pins.{event_self as self_event, times_of}
use Rattle.handler_script.specs.declared.act.Act.{Act}
use Rattle.handler_script.specs.declared.act.Act.TheVariants as act
use Rattle.machine_desc.specs.Kept.{IsMachine}
use Rattle.machine_desc.specs.Machine.{MachineData}
use Rattle.machine_history.specs.Events as history
use Rattle.machine_history.specs.Jobs.{running}
use Rattle.machine_history.specs.Legal.{Allowed, conditions, has_quit, may_make}
use Rattle.machine_history.specs.Machine.{pulses_of}
use Rattle.machine_history.specs.Machine as machine
use Rattle.machine_history.specs.Played.{Settles, rounds, stepped}
use Rattle.machine_history.specs.Played.{steps as all_steps}
use Rattle.machine_history.specs.Scripts.{next_of}
use Rattle.machine_history.specs.Steps.{Adds, Attempts, Pulses, Releases, Step, Sweeps, adds, at_act, at_script, between, ctl_entry, first_pending, gives, host_entry, host_move, ctl_move, host_step, lock_step, may, next_step, otherwise, pulses, script_entry, waiting, where_allowed, where_may}
use Rattle.machine_history.specs.Steps as steps
use Rattle.machine_history.specs.Values.{taking, value}
use Rattle.machine_history.specs.Wire.{open_of}
use Rattle.machine_history.proofs.Known.{is_none-none, none_failing, some-injective}
use Rattle.core_laws.specs.CoreSteps.{AllHappen, EachLegal, EachMay, IsBusTurn, after}
use Rattle.core_laws.specs.Gives.{IsEvents, NobodyHolds, events_in}
use Rattle.core_laws.specs.Sound.{Sound}
use Rattle.core_laws.proofs.Steps.{sound_all}

both : (x : Bool) → x ≡ true → x ≡ false → ⊥
both x p q = cc

-- ---- an attempt

attempt_is : (c : Core) (a : Actor) (l : ℕ) → c.word ≡ l → (f : Actor → Phase) → loaded (f a) ≡ Some l → exchanged (record c { phases = f }) a (loaded (f a)) ≡ record c { word = acquired l; phases = put a (Lock (tried l)) f }
attempt_is c a l same f is = ap (exchanged (record c { phases = f }) a) is ∙ choose (c.word == l) (eq-eqb c.word l same) _ _
  where
    choose : (b : Bool) → b ≡ true → (x y : Core) → cond b x y ≡ x
    choose true e x y = refl
    choose false e x y = cc

-- ---- a step that adds an entry

-- an entry that is allowed, that the phase allows, and that is no latch
abbrev Fine : Phase → Option Deed → Type 0
Fine p None = Unit {0}
Fine p (Some d) = (may_add p d ≡ true) × (is_latch d ≡ false)

abbrev pub Good : MachineData → List Entry → Actor → Phase → Option Deed → Type 0
Good m past a p None = Unit {0}
Good m past a p (Some d) = (may m past a d ≡ true) × (may_add p d ≡ true) × (is_latch d ≡ false)

good_where : (m : MachineData) (past : List Entry) (a : Actor) (p : Phase) (o : Option Deed) → Fine p o → Good m past a p (where_may m past a o)
good_where m past a p None fine = tt
good_where m past a p (Some d) fine = at (may m past a d) refl
  where
    at : (b : Bool) → may m past a d ≡ b → Good m past a p (cond b (Some d) None)
    at true is = (is, fine.0, fine.1)
    at false is = tt

good_otherwise : (m : MachineData) (past : List Entry) (a : Actor) (p : Phase) (x y : Option Deed) → Good m past a p x → Good m past a p y → Good m past a p (otherwise x y)
good_otherwise m past a p None y good then_good = then_good
good_otherwise m past a p (Some d) y good then_good = good

-- an entry that is allowed, and no latch
abbrev May : MachineData → List Entry → Actor → Option Deed → Type 0
May m past a None = Unit {0}
May m past a (Some d) = (may m past a d ≡ true) × (is_latch d ≡ false)

abbrev NoLatch : Option Deed → Type 0
NoLatch None = Unit {0}
NoLatch (Some d) = is_latch d ≡ false

may_where : (m : MachineData) (past : List Entry) (a : Actor) (o : Option Deed) → NoLatch o → May m past a (where_may m past a o)
may_where m past a None none = tt
may_where m past a (Some d) none = at (may m past a d) refl
  where
    at : (b : Bool) → may m past a d ≡ b → May m past a (cond b (Some d) None)
    at true is = (is, none)
    at false is = tt

may_otherwise : (m : MachineData) (past : List Entry) (a : Actor) (x y : Option Deed) → May m past a x → May m past a y → May m past a (otherwise x y)
may_otherwise m past a None y one other = other
may_otherwise m past a (Some d) y one other = one

good_allowed : (m : MachineData) (past : List Entry) (a : Actor) (p : LockPhase) (o : Option Deed) → May m past a o → Good m past a (Lock p) (where_allowed p o)
good_allowed m past a p None one = tt
good_allowed m past a p (Some d) one = at (allows p d) refl
  where
    at : (b : Bool) → allows p d ≡ b → Good m past a (Lock p) (cond b (Some d) None)
    at true is = (one.0, is, one.1)
    at false is = tt

mapped : {X : Type 0} (f : X → Deed) (P : Option Deed → Type 0) → P None → ((x : X) → P (Some (f x))) → (o : Option X) → P (option_map f o)
mapped f P none some None = none
mapped f P none some (Some x) = some x

may_act : (m : MachineData) (past : List Entry) (a : Actor) (x : Act) → May m past a (at_act m past a x)
may_act m past a act.Lock = may_where m past a (Some deed.Seek) refl
may_act m past a act.Unlock = may_where m past a (Some deed.Disown) refl
may_act m past a (act.Read c) = may_where m past a (Some (deed.Read c (value m past c))) refl
may_act m past a (act.Write c v) = may_where m past a (Some (deed.Write c v)) refl
may_act m past a (act.Ask r) =
    may_otherwise m past a (where_may m past a (Some (deed.Begin r))) (otherwise (where_may m past a (option_map deed.Take (taking m past))) (where_may m past a (option_map deed.Step (host_move m past)))) (may_where m past a (Some (deed.Begin r)) refl)
    (may_otherwise m past a (where_may m past a (option_map deed.Take (taking m past))) (where_may m past a (option_map deed.Step (host_move m past))) (may_where m past a (option_map deed.Take (taking m past)) (mapped deed.Take NoLatch tt (λ v. refl) (taking m past)))
    (may_where m past a (option_map deed.Step (host_move m past)) (mapped deed.Step NoLatch tt (λ v. refl) (host_move m past))))
may_act m past a (act.Notify d v) = may_where m past a (Some (deed.Notify d v)) refl
may_act m past a (act.Drop n) = may_where m past a (Some (deed.Drop n)) refl
may_act m past a (act.Up n) = may_where m past a (Some (deed.Up n)) refl
may_act m past a (act.Down n) = may_where m past a (Some (deed.Down n)) refl
may_act m past a (act.Raise n) = may_where m past a (Some (deed.Raise n)) refl
may_act m past a (act.Assert n) = may_where m past a (Some (deed.Assert n)) refl
may_act m past a (act.Push q) = may_where m past a (Some (deed.Push q)) refl

good_between : (m : MachineData) (past : List Entry) (a : Actor) (p : LockPhase) → Good m past a (Lock p) (between m past a)
good_between m past a p =
    good_otherwise m past a (Lock p) (where_may m past a (option_map deed.Finish (running past a))) (where_may m past a (option_map deed.Start (waiting m past))) (good_where m past a (Lock p) (option_map deed.Finish (running past a)) (mapped deed.Finish (Fine (Lock p)) tt (λ j. (refl, refl)) (running past a)))
    (good_where m past a (Lock p) (option_map deed.Start (waiting m past)) (mapped deed.Start (Fine (Lock p)) tt (λ j. (refl, refl)) (waiting m past)))

good_script : (m : MachineData) (past : List Entry) (a : Actor) (p : LockPhase) (x : Option Act) → Good m past a (Lock p) (at_script m past a p x)
good_script m past a p None = at (is_idle p)
  where
    at : (b : Bool) → Good m past a (Lock p) (cond b (between m past a) None)
    at true = good_between m past a p
    at false = tt
good_script m past a p (Some x) = good_allowed m past a p (at_act m past a x) (may_act m past a x)

good_entry : (m : MachineData) (past : List Entry) (a : Actor) (p : LockPhase) → Good m past a (Lock p) (script_entry m past a p)
good_entry m past a phase.Idle = good_script m past a phase.Idle (next_of m past a)
good_entry m past a (phase.Seeking l) = tt
good_entry m past a phase.Marked = good_where m past a (Lock phase.Marked) (Some deed.Busy) (refl, refl)
good_entry m past a phase.Waiting = good_where m past a (Lock phase.Waiting) (Some deed.Woken) (refl, refl)
good_entry m past a phase.Won = good_where m past a (Lock phase.Won) (Some deed.Own) (refl, refl)
good_entry m past a phase.Owning = good_script m past a phase.Owning (next_of m past a)
good_entry m past a phase.Quit = tt
good_entry m past a (phase.Gone true) = good_where m past a (Lock (phase.Gone true)) (Some (deed.Leave true)) (refl, refl)
good_entry m past a (phase.Gone false) = good_where m past a (Lock (phase.Gone false)) (Some (deed.Leave false)) (refl, refl)

good_host : (m : MachineData) (past : List Entry) (a : Actor) → Good m past a Free (host_entry m past a)
good_host m past a =
    good_otherwise m past a Free (where_may m past a (option_map deed.Step (host_move m past))) (where_may m past a (option_map deed.Claim (first_pending m past))) (good_where m past a Free (option_map deed.Step (host_move m past)) (mapped deed.Step (Fine Free) tt (λ h. (refl, refl)) (host_move m past)))
    (good_where m past a Free (option_map deed.Claim (first_pending m past)) (mapped deed.Claim (Fine Free) tt (λ n. (refl, refl)) (first_pending m past)))

good_ctl : (m : MachineData) (past : List Entry) (a : Actor) → Good m past a Free (ctl_entry m past a)
good_ctl m past a =
    good_otherwise m past a Free (where_may m past a (option_map deed.Ctl (ctl_move m past))) (where_may m past a (Some (deed.Ctl effect.Calm))) (good_where m past a Free (option_map deed.Ctl (ctl_move m past)) (mapped deed.Ctl (Fine Free) tt (λ e. (refl, refl)) (ctl_move m past)))
    (good_where m past a Free (Some (deed.Ctl effect.Calm)) (refl, refl))

-- ---- what the next step is

-- the step is one that this phase allows, and its entry is good
abbrev pub Next : MachineData → Core → Actor → Phase → Option Step → Type 0
Next m c a p None = Unit {0}
Next m c a p (Some Attempts) = (l : Option ℕ) × (p ≡ Lock (phase.Seeking l))
Next m c a p (Some Releases) = p ≡ Lock phase.Quit
Next m c a p (Some (Pulses n)) = (k : ℕ) × (ps : List Pulse) × (a ≡ actor.Device k) × (p ≡ Pulsed ps) × (slice_get (pulses m k) (length ps) ≡ Some n)
Next m c a p (Some Sweeps) = (is_host a ≡ true) × (p ≡ Free)
Next m c a p (Some (Adds d)) = (is_holding p ≡ false) × (may m (past_in c) a d ≡ true) × (may_add p d ≡ true) × (is_latch d ≡ false)

next_adds : (m : MachineData) (c : Core) (a : Actor) (p : Phase) (o : Option Deed) → is_holding p ≡ false → Good m (past_in c) a p o → Next m c a p (adds o)
next_adds m c a p None free good = tt
next_adds m c a p (Some d) free good = (free, good.0, good.1, good.2)

next_lock : (m : MachineData) (c : Core) (a : Actor) (p : LockPhase) → Next m c a (Lock p) (lock_step m (past_in c) a p)
next_lock m c a (phase.Seeking l) = (l, refl)
next_lock m c a phase.Quit = refl
next_lock m c a phase.Idle = next_adds m c a (Lock phase.Idle) (script_entry m (past_in c) a phase.Idle) refl (good_entry m (past_in c) a phase.Idle)
next_lock m c a phase.Marked = next_adds m c a (Lock phase.Marked) (script_entry m (past_in c) a phase.Marked) refl (good_entry m (past_in c) a phase.Marked)
next_lock m c a phase.Waiting = next_adds m c a (Lock phase.Waiting) (script_entry m (past_in c) a phase.Waiting) refl (good_entry m (past_in c) a phase.Waiting)
next_lock m c a phase.Won = next_adds m c a (Lock phase.Won) (script_entry m (past_in c) a phase.Won) refl (good_entry m (past_in c) a phase.Won)
next_lock m c a phase.Owning = next_adds m c a (Lock phase.Owning) (script_entry m (past_in c) a phase.Owning) refl (good_entry m (past_in c) a phase.Owning)
next_lock m c a (phase.Gone s) = next_adds m c a (Lock (phase.Gone s)) (script_entry m (past_in c) a (phase.Gone s)) refl (good_entry m (past_in c) a (phase.Gone s))

next_host : (m : MachineData) (c : Core) (a : Actor) → is_host a ≡ true → Next m c a Free (host_step m c.pins (past_in c) a)
next_host m c a host = at (steps.is_empty (events_of c.pins))
  where
    at : (b : Bool) → Next m c a Free (cond b (adds (host_entry m (past_in c) a)) (Some Sweeps))
    at true = next_adds m c a Free (host_entry m (past_in c) a) refl (good_host m (past_in c) a)
    at false = (host, refl)

pub next_is : (m : MachineData) (c : Core) (a : Actor) (p : Phase) → Next m c a p (next_step m c.pins (past_in c) a p)
next_is m c a (Lock p) = next_lock m c a p
next_is m c actor.Int Free = next_host m c actor.Int refl
next_is m c actor.Poll Free = next_host m c actor.Poll refl
next_is m c actor.Ec Free = next_adds m c actor.Ec Free (ctl_entry m (past_in c) actor.Ec) refl (good_ctl m (past_in c) actor.Ec)
next_is m c (actor.Worker k) Free = tt
next_is m c (actor.Device k) Free = tt
next_is m c (actor.Firmware k) Free = tt
next_is m c (actor.Device k) (Pulsed ps) = at (slice_get (pulses m k) (length ps)) refl
  where
    at : (o : Option Event) → slice_get (pulses m k) (length ps) ≡ o → Next m c (actor.Device k) (Pulsed ps) (option_map Pulses o)
    at None is = tt
    at (Some n) is = (k, ps, refl, refl, is)
next_is m c actor.Int (Pulsed ps) = tt
next_is m c actor.Poll (Pulsed ps) = tt
next_is m c (actor.Worker k) (Pulsed ps) = tt
next_is m c actor.Ec (Pulsed ps) = tt
next_is m c (actor.Firmware k) (Pulsed ps) = tt
next_is m c a (Holding words hand) = tt

-- ---- the events of a set without members

none_below : (set : Event → Bool) (k : ℕ) → ((n : Event) → set n ≡ false) → events_below set k ≡ []
unfolding events_below
none_below set zero none = refl
none_below set (suc k) none = ap (λ l. l ++ if_in set (event_at k)) (none_below set k none) ∙ ap (λ b. cond b (event_at k ∷ []) []) (none (event_at k))

free_hand : (p : Phase) → is_holding p ≡ false → (n : Event) → in_hand p n ≡ false
free_hand (Holding words hand) free n = cc
free_hand (Lock p) free n = refl
free_hand Free free n = refl
free_hand (Pulsed ps) free n = refl

free_latches : (p : Phase) (ds : List Deed) → is_holding p ≡ false → has_no_latch ds ≡ true → LatchesFirst p ds
free_latches p ds free none = (ds, ap (λ l. map deed.Latch l ++ ds) (sym (none_below (in_hand p) all_events (free_hand p free))), none)

freed_moved : (d : Deed) (p : Phase) → is_holding p ≡ false → freed (moved_in d p) ≡ steps.moved_in d p
freed_moved d (Lock p) free = refl
freed_moved d Free free = refl
freed_moved d (Pulsed ps) free = refl
freed_moved d (Holding words hand) free = cc

allowed_of : (m : MachineData) (past : List Entry) (a : Actor) (d : Deed) → may m past a d ≡ true → Allowed m past (entry a d)
allowed_of m past a d is = is_none-none _ is

one_entry : (m : MachineData) (c : Core) (a : Actor) (d : Deed) → NobodyHolds c → is_holding (c.phases a) ≡ false → may m (past_in c) a d ≡ true → may_add (c.phases a) d ≡ true → is_latch d ≡ false → IsBusTurn m c a (d ∷ [])
one_entry m c a d nobody free is may none = record {
  free = λ b apart. nobody b;
  latches = free_latches (c.phases a) (d ∷ []) free (ap (λ b. not b && true) none);
  few = let most = one_most (is_lock_deed d) in omega arith;
  may = (may, tt);
  legal = (allowed_of m (past_in c) a d is, tt);
}

-- ---- a sweep

-- a core in which an actor holds the turn, with these words collected and these events in hand
abbrev held : Core → Actor → (Event → Bool) → (ℕ → Bool) → (Event → Bool) → Core
held c a pins words hand = record c { pins = pins; phases = put a (Holding words hand) c.phases }

first_collect : (c : Core) (a : Actor) (w : ℕ) → c.phases a ≡ Free → collected c a w ≡ held c a (λ n. c.pins n && not (word_of n == w)) (λ u. false || (u == w)) (λ n. false || (c.pins n && (word_of n == w)))
first_collect c a w free = ap (λ p. record c { pins = λ n. c.pins n && not (word_of n == w); phases = put a (Holding (λ u. has_collected p u || (u == w)) (λ n. in_hand p n || (c.pins n && (word_of n == w)))) c.phases }) free

next_collect : (c : Core) (a : Actor) (pins : Event → Bool) (words : ℕ → Bool) (hand : Event → Bool) (w : ℕ) → collected (held c a pins words hand) a w ≡ held c a (λ n. pins n && not (word_of n == w)) (λ u. words u || (u == w)) (λ n. hand n || (pins n && (word_of n == w)))
next_collect c a pins words hand w =
    ap (λ p. record c { pins = λ n. pins n && not (word_of n == w); phases = put a (Holding (λ u. has_collected p u || (u == w)) (λ n. in_hand p n || (pins n && (word_of n == w)))) (put a (Holding words hand) c.phases) }) (put_self a (Holding words hand) c.phases)
    ∙ ap (λ f. record c { pins = λ n. pins n && not (word_of n == w); phases = f }) (put_put a (Holding (λ u. words u || (u == w)) (λ n. hand n || (pins n && (word_of n == w)))) (Holding words hand) c.phases)

abbrev less_word : ℕ → (Event → Bool) → Event → Bool
less_word w pins n = pins n && not (word_of n == w)

abbrev more_words : ℕ → (ℕ → Bool) → ℕ → Bool
more_words w words u = words u || (u == w)

abbrev more_hand : ℕ → (Event → Bool) → (Event → Bool) → Event → Bool
more_hand w pins hand n = hand n || (pins n && (word_of n == w))

abbrev pins_after : (Event → Bool) → Event → Bool
pins_after pins = less_word 4 (less_word 3 (less_word 2 (less_word 1 (less_word 0 pins))))

abbrev hand_after : (Event → Bool) → Event → Bool
hand_after pins = more_hand 4 (less_word 3 (less_word 2 (less_word 1 (less_word 0 pins)))) (more_hand 3 (less_word 2 (less_word 1 (less_word 0 pins))) (more_hand 2 (less_word 1 (less_word 0 pins)) (more_hand 1 (less_word 0 pins) (more_hand 0 pins (λ n. false)))))

word_most : (n : Event) → event_rank n < all_events → word_of n ≤ 4
word_most (event.Fixed f) less = omega arith
word_most (event.Gpe k) less = omega arith

abbrev left_at : Bool → ℕ → Bool
left_at p x = ((((p && not (x == 0)) && not (x == 1)) && not (x == 2)) && not (x == 3)) && not (x == 4)

abbrev taken_at : Bool → ℕ → Bool
taken_at p x = ((((false || (p && (x == 0))) || ((p && not (x == 0)) && (x == 1))) || (((p && not (x == 0)) && not (x == 1)) && (x == 2))) || ((((p && not (x == 0)) && not (x == 1)) && not (x == 2)) && (x == 3))) || (((((p && not (x == 0)) && not (x == 1)) && not (x == 2)) && not (x == 3)) && (x == 4))

all_left : (p : Bool) (x : ℕ) → (p ≡ true → x ≤ 4) → left_at p x ≡ false
all_left false x most = refl
all_left true zero most = refl
all_left true (suc zero) most = refl
all_left true (suc (suc zero)) most = refl
all_left true (suc (suc (suc zero))) most = refl
all_left true (suc (suc (suc (suc zero)))) most = refl
all_left true (suc (suc (suc (suc (suc x))))) most = absurd (let h = most refl in omega arith)

all_taken : (p : Bool) (x : ℕ) → (p ≡ true → x ≤ 4) → taken_at p x ≡ p
all_taken false x most = refl
all_taken true zero most = refl
all_taken true (suc zero) most = refl
all_taken true (suc (suc zero)) most = refl
all_taken true (suc (suc (suc zero))) most = refl
all_taken true (suc (suc (suc (suc zero)))) most = refl
all_taken true (suc (suc (suc (suc (suc x))))) most = absurd (let h = most refl in omega arith)

-- ---- the latches of a sweep are allowed

pub latches_same : (n : Event) (past : List Entry) → history.latches past n ≡ latches n past
latches_same n [] = refl
latches_same n (e ∷ past) = at e.deed (latches_same n past)
  where
    more : (b : Bool) (x y : ℕ) → x ≡ y → cond b (x + 1) x ≡ one b + y
    more true x y e = omega arith
    more false x y e = omega arith

    at : (d : Deed) → history.latches past n ≡ latches n past → history.latches_after n d (history.latches past n) ≡ latches n (entry actor.Int d ∷ past)
    at (deed.Latch x) rest = more (same_event x n) (history.latches past n) (latches n past) rest
    at _ rest = omega arith

host_never_quits : (m : MachineData) (past : List Entry) (a : Actor) → is_host a ≡ true → has_quit m past a ≡ false
host_never_quits m past actor.Int host = refl
host_never_quits m past actor.Poll host = refl
host_never_quits m past _ host = cc

host_latches : (m : MachineData) (past : List Entry) (a : Actor) (n : Event) → is_host a ≡ true → history.latches past n < pulses_of m n → Allowed m past (entry a (deed.Latch n))
host_latches m past a n host less = none_failing (conditions m past a (deed.Latch n)) (by_host a host, (keeps (has_quit m past a) (host_never_quits m past a host), (lt-ltb (history.latches past n) (pulses_of m n) less, tt)))
  where
    by_host : (a : Actor) → is_host a ≡ true → may_make m (open_of past) a (deed.Latch n) ≡ true
    by_host actor.Int host = refl
    by_host actor.Poll host = refl
    by_host _ host = cc

    keeps : (q : Bool) → q ≡ false → cond q false (not false) ≡ true
    keeps true e = cc
    keeps false e = refl

latches_legal : (m : MachineData) (a : Actor) → is_host a ≡ true → (events : List Event) (past : List Entry) → ((n : Event) → latches n past + times n events ≤ pulses_of m n) → EachLegal m past a (map deed.Latch events)
latches_legal m a host [] past few = tt
latches_legal m a host (x ∷ events) past few = (
  host_latches m past a x host (let all = few x in let same = latches_same x past in let self = ap one (self_event x) in omega arith),
  latches_legal m a host events (entry a (deed.Latch x) ∷ past) (λ n. (let all = few n in omega arith)),
)

pub lists_same : (n : Event) (events : List Event) → machine.times n events ≡ times n events
lists_same n [] = refl
lists_same n (x ∷ events) = ap (λ k. one (same_event x n) + k) (lists_same n events)

pulses_same : (n : Event) (lists : List (List Event)) → sum_by (machine.times n) lists ≡ listed_pulses lists n
pulses_same n lists = ap (λ f. sum_by f lists) (λ i events. lists_same n events i)

pub sweep_legal : (m : MachineData) (c : Core) (a : Actor) → PinsSound m.devices c.pins (past_in c) c.phases → is_host a ≡ true → EachLegal m (past_in c) a (map deed.Latch (events_of c.pins))
sweep_legal m c a h host = latches_legal m a host (events_of c.pins) (past_in c) (λ n. (let all = latches_within m.devices c.pins (past_in c) c.phases n h in let pinned = times_of c.pins n (h.pins_known n) in let same = pulses_same n m.devices in omega arith))

pub fewer_latches : (m : MachineData) (c : Core) (n : Event) → PinsSound m.devices c.pins (past_in c) c.phases → c.pins n ≡ true → history.latches (past_in c) n < pulses_of m n
fewer_latches m c n h set = let all = latches_within m.devices c.pins (past_in c) c.phases n h in let pinned = ap one set in let same = pulses_same n m.devices in let counts = latches_same n (past_in c) in omega arith

-- ---- a sweep is five collects and a turn

module _ (m : MachineData) (c : Core) (a : Actor) (host : is_host a ≡ true) (at : c.phases a ≡ Free) (nobody : NobodyHolds c) (h : PinsSound m.devices c.pins (past_in c) c.phases) where
  abbrev pins_1 : Event → Bool
  pins_1 = less_word 0 c.pins

  abbrev pins_2 : Event → Bool
  pins_2 = less_word 1 pins_1

  abbrev pins_3 : Event → Bool
  pins_3 = less_word 2 pins_2

  abbrev pins_4 : Event → Bool
  pins_4 = less_word 3 pins_3

  abbrev pins_5 : Event → Bool
  pins_5 = less_word 4 pins_4

  abbrev words_1 : ℕ → Bool
  words_1 u = false || (u == 0)

  abbrev words_2 : ℕ → Bool
  words_2 = more_words 1 words_1

  abbrev words_3 : ℕ → Bool
  words_3 = more_words 2 words_2

  abbrev words_4 : ℕ → Bool
  words_4 = more_words 3 words_3

  abbrev words_5 : ℕ → Bool
  words_5 = more_words 4 words_4

  abbrev hand_1 : Event → Bool
  hand_1 n = false || (c.pins n && (word_of n == 0))

  abbrev hand_2 : Event → Bool
  hand_2 = more_hand 1 pins_1 hand_1

  abbrev hand_3 : Event → Bool
  hand_3 = more_hand 2 pins_2 hand_2

  abbrev hand_4 : Event → Bool
  hand_4 = more_hand 3 pins_3 hand_3

  abbrev hand_5 : Event → Bool
  hand_5 = more_hand 4 pins_4 hand_4

  abbrev core_1 : Core
  core_1 = held c a pins_1 words_1 hand_1

  abbrev core_2 : Core
  core_2 = held c a pins_2 words_2 hand_2

  abbrev core_3 : Core
  core_3 = held c a pins_3 words_3 hand_3

  abbrev core_4 : Core
  core_4 = held c a pins_4 words_4 hand_4

  abbrev core_5 : Core
  core_5 = held c a pins_5 words_5 hand_5

  others_free : (pins : Event → Bool) (words : ℕ → Bool) (hand : Event → Bool) → OthersFree (held c a pins words hand).phases a
  others_free pins words hand b apart = ap is_holding (put_other a b (Holding words hand) c.phases apart) ∙ nobody b

  fresh : (pins : Event → Bool) (words : ℕ → Bool) (hand : Event → Bool) (w : ℕ) → words w ≡ false → has_collected ((held c a pins words hand).phases a) w ≡ false
  fresh pins words hand w none = ap (λ p. has_collected p w) (put_self a (Holding words hand) c.phases) ∙ none

  known : (n : Event) → c.pins n ≡ true → word_of n ≤ 4
  known n set = word_most n (h.pins_known n set)

  none_left : pins_5 ≡ no_event
  none_left = λ i n. all_left (c.pins n) (word_of n) (known n) i

  whole_hand : hand_5 ≡ c.pins
  whole_hand = λ i n. all_taken (c.pins n) (word_of n) (known n) i

  sweep_turn : IsBusTurn m core_5 a (map deed.Latch (events_of c.pins))
  sweep_turn = record {
    free = others_free pins_5 words_5 hand_5;
    latches = ([], ap (map deed.Latch) (ap events_of (sym whole_hand) ∙ ap (λ p. events_of (in_hand p)) (sym (put_self a (Holding words_5 hand_5) c.phases))) ∙ sym (append_nothing (map deed.Latch (events_of (in_hand (core_5.phases a))))), refl);
    few = few (events_of c.pins);
    may = subst (λ p. EachMay p (map deed.Latch (events_of c.pins))) (sym (put_self a (Holding words_5 hand_5) c.phases)) (each (events_of c.pins));
    legal = sweep_legal m c a h host;
  }
    where
      append_nothing : (ds : List Deed) → ds ++ [] ≡ ds
      append_nothing [] = refl
      append_nothing (d ∷ ds) = ap (λ l. d ∷ l) (append_nothing ds)

      few : (events : List Event) → lock_deeds (map deed.Latch events) ≤ 1
      few [] = omega arith
      few (n ∷ events) = let rest = few events in omega arith

      each : (events : List Event) → EachMay (Holding words_5 hand_5) (map deed.Latch events)
      each [] = tt
      each (n ∷ events) = (refl, each events)

  after_sweep : turned core_5 a (map deed.Latch (events_of c.pins)) ≡ steps.happens c a Sweeps
  after_sweep =
      ap (λ p. record c { pins = pins_5; history = c.history ++ map (entry a) (map deed.Latch (events_of c.pins)); phases = put a (freed (moved_all (map deed.Latch (events_of c.pins)) p)) core_5.phases }) (put_self a (Holding words_5 hand_5) c.phases)
      ∙ (ap (λ p. record c { pins = pins_5; history = c.history ++ map (entry a) (map deed.Latch (events_of c.pins)); phases = put a (freed p) core_5.phases }) (still_held (events_of c.pins))
      ∙ (ap (λ f. record c { pins = pins_5; history = c.history ++ map (entry a) (map deed.Latch (events_of c.pins)); phases = f }) (put_put a Free (Holding words_5 hand_5) c.phases)
      ∙ (ap (λ l. record c { pins = pins_5; history = c.history ++ l; phases = put a Free c.phases }) (latch_entries (events_of c.pins))
      ∙ ap (λ p. record c { pins = p; history = c.history ++ map (steps.latch a) (events_of c.pins); phases = put a Free c.phases }) none_left)))
    where
      still_held : (events : List Event) → moved_all (map deed.Latch events) (Holding words_5 hand_5) ≡ Holding words_5 hand_5
      still_held [] = refl
      still_held (n ∷ events) = still_held events

      latch_entries : (events : List Event) → map (entry a) (map deed.Latch events) ≡ map (steps.latch a) events
      latch_entries [] = refl
      latch_entries (n ∷ events) = ap (λ l. steps.latch a n ∷ l) (latch_entries events)

  abbrev Leads : Core → Core → List CoreEvent → Type 0
  Leads x d events = AllHappen m x events × (d ≡ after m x events)

  abbrev sweep : Core
  sweep = steps.happens c a Sweeps

  abbrev turn_events : List CoreEvent
  turn_events = Turn a (map deed.Latch (events_of c.pins)) ∷ []

  at_turn : Leads core_5 sweep turn_events
  at_turn = ((sweep_turn, tt), sym after_sweep)

  collects : (x y d : Core) (w : ℕ) (events : List CoreEvent) → OthersFree x.phases a → has_collected (x.phases a) w ≡ false → collected x a w ≡ y → Leads y d events → Leads x d (Collect a w ∷ events)
  collects x y d w events free none is leads =
      let there : Leads (collected x a w) d events = subst (λ z. Leads z d events) (sym is) leads in
      (((host, free, none), there.0), there.1)

  pub sweep_leads : Leads c sweep (events_in c a Sweeps)
  sweep_leads =
      collects c core_1 sweep 0 (Collect a 1 ∷ Collect a 2 ∷ Collect a 3 ∷ Collect a 4 ∷ turn_events) (λ b apart. nobody b) (ap (λ p. has_collected p 0) at) (first_collect c a 0 at)
      (collects core_1 core_2 sweep 1 (Collect a 2 ∷ Collect a 3 ∷ Collect a 4 ∷ turn_events) (others_free pins_1 words_1 hand_1) (fresh pins_1 words_1 hand_1 1 refl) (next_collect c a pins_1 words_1 hand_1 1)
      (collects core_2 core_3 sweep 2 (Collect a 3 ∷ Collect a 4 ∷ turn_events) (others_free pins_2 words_2 hand_2) (fresh pins_2 words_2 hand_2 2 refl) (next_collect c a pins_2 words_2 hand_2 2)
      (collects core_3 core_4 sweep 3 (Collect a 4 ∷ turn_events) (others_free pins_3 words_3 hand_3) (fresh pins_3 words_3 hand_3 3 refl) (next_collect c a pins_3 words_3 hand_3 3)
      (collects core_4 core_5 sweep 4 turn_events (others_free pins_4 words_4 hand_4) (fresh pins_4 words_4 hand_4 4 refl) (next_collect c a pins_4 words_4 hand_4 4)
      at_turn))))

-- ---- every step

nobody_put : (c : Core) (a : Actor) (p : Phase) → is_holding p ≡ false → NobodyHolds c → (b : Actor) → is_holding (put a p c.phases b) ≡ false
nobody_put c a p free nobody b = by_cases (same_actor a b) (is_holding (put a p c.phases b) ≡ false) (λ same. subst (λ x. is_holding (put a p c.phases x) ≡ false) (actor_true a b same) (ap is_holding (put_self a p c.phases) ∙ free)) (λ apart. ap is_holding (put_other a b p c.phases apart) ∙ nobody b)

-- a step that may be made is a list of events, and nobody holds a turn after it
abbrev pub Gives : MachineData → Core → Actor → Step → Type 0
Gives m c a s = AllHappen m c (events_in c a s) × (steps.happens c a s ≡ after m c (events_in c a s)) × NobodyHolds (steps.happens c a s)

device_gives : (m : MachineData) (c : Core) (n : Event) (k : ℕ) (ps : List Pulse) → c.phases (actor.Device k) ≡ Pulsed ps → slice_get (pulses m k) (length ps) ≡ Some n → NobodyHolds c → Gives m c (actor.Device k) (Pulses n)
device_gives m c n k ps at there nobody =
    let next : next_pulse m.devices c k ≡ Some n = ap (λ p. slice_get (pulses m k) (length (pulses_in p))) at ∙ there in
    let more = subst (λ p. steps.pulsed_more n (not (c.pins n)) p ≡ Pulsed (pulses_in p ++ record { event = n; clear = not (c.pins n) } ∷ [])) (sym at) refl in (
      ((n, next), tt),
      ap (λ p. record c { pins = λ x. c.pins x || same_event x n; phases = put (actor.Device k) p c.phases }) more ∙ sym (ap (pulsed c k) next),
      nobody_put c (actor.Device k) (steps.pulsed_more n (not (c.pins n)) (c.phases (actor.Device k))) (ap is_holding more) nobody,
    )

step_gives : (m : MachineData) (c : Core) (a : Actor) (s : Step) → PinsSound m.devices c.pins (past_in c) c.phases → NobodyHolds c → Next m c a (c.phases a) (Some s) → Gives m c a s
step_gives m c a Attempts h nobody next =
    let loaded_phases : Actor → Phase = put a (Lock (phase.Seeking (Some c.word))) c.phases in
    let self = put_self a (Lock (phase.Seeking (Some c.word))) c.phases in (
      (next, ((c.word, self), tt)),
      sym (attempt_is c a c.word refl loaded_phases (ap loaded self) ∙ ap (λ f. record c { word = acquired c.word; phases = f }) (put_put a (Lock (tried c.word)) (Lock (phase.Seeking (Some c.word))) c.phases)),
      nobody_put c a (Lock (tried c.word)) refl nobody,
    )
step_gives m c a Releases h nobody next = ((next, tt), refl, nobody_put c a (Lock (phase.Gone _)) refl nobody)
step_gives m c a (Pulses n) h nobody next = subst (λ b. Gives m c b (Pulses n)) (sym next.2) (device_gives m c n next.0 next.1 (ap c.phases (sym next.2) ∙ next.3) next.4 nobody)
step_gives m c a Sweeps h nobody next = let leads = sweep_leads m c a next.0 next.1 nobody h in (leads.0, leads.1, nobody_put c a Free refl nobody)
step_gives m c a (Adds d) h nobody next = (
  (one_entry m c a d nobody next.0 next.1 next.2 next.3, tt),
  ap (λ p. record c { history = c.history ++ entry a d ∷ []; phases = put a p c.phases }) (sym (freed_moved d (c.phases a) next.0)),
  nobody_put c a (steps.moved_in d (c.phases a)) (ap is_holding (sym (freed_moved d (c.phases a) next.0)) ∙ freed_free (moved_in d (c.phases a))) nobody,
)
  where
    freed_free : (p : Phase) → is_holding (freed p) ≡ false
    freed_free (Lock p) = refl
    freed_free Free = refl
    freed_free (Pulsed ps) = refl
    freed_free (Holding words hand) = refl

pub gives_events : (m : MachineData) (c : Core) (a : Actor) (d : Core) → Sound m c → NobodyHolds c → gives m c a ≡ Some d → IsEvents m c a d × NobodyHolds d
gives_events m c a d h nobody given = at (next_step m c.pins (past_in c) a (c.phases a)) refl (next_is m c a (c.phases a)) given
  where
    at : (o : Option Step) → next_step m c.pins (past_in c) a (c.phases a) ≡ o → Next m c a (c.phases a) o → option_map (steps.happens c a) o ≡ Some d → IsEvents m c a d × NobodyHolds d
    at None is next given = cc
    at (Some s) is next given =
        let all = step_gives m c a s h.core.pinned nobody next in
        let same : steps.happens c a s ≡ d = some-injective (steps.happens c a s) d given in
        (record { step = s; next = is; may = all.0; leads = sym same ∙ all.1 }, subst NobodyHolds same all.2)

pub gives_sound : (m : MachineData) (c : Core) (a : Actor) (d : Core) → IsMachine m → Sound m c → NobodyHolds c → gives m c a ≡ Some d → Sound m d × NobodyHolds d
gives_sound m c a d ok h nobody given =
    let all = gives_events m c a d h nobody given in
    (subst (Sound m) (sym all.0.leads) (sound_all m c (events_in c a all.0.step) ok h all.0.may), all.1)

-- ---- what is played

pub stepped_sound : (m : MachineData) (c : Core) (a : Actor) → IsMachine m → Sound m c → NobodyHolds c → Sound m (stepped m c a) × NobodyHolds (stepped m c a)
stepped_sound m c a ok h nobody = at (gives m c a) refl
  where
    at : (o : Option Core) → gives m c a ≡ o → Sound m (unwrap_or o c) × NobodyHolds (unwrap_or o c)
    at None is = (h, nobody)
    at (Some d) is = gives_sound m c a d ok h nobody is

pub steps_sound : (m : MachineData) (names : List Actor) (c : Core) → IsMachine m → Sound m c → NobodyHolds c → Sound m (all_steps m names c) × NobodyHolds (all_steps m names c)
steps_sound m [] c ok h nobody = (h, nobody)
steps_sound m (a ∷ names) c ok h nobody = let one = stepped_sound m c a ok h nobody in steps_sound m names (stepped m c a) ok one.0 one.1

pub rounds_sound : (m : MachineData) (names : List Actor) (k : ℕ) (c : Core) → IsMachine m → Sound m c → NobodyHolds c → Sound m (rounds m names k c) × NobodyHolds (rounds m names k c)
rounds_sound m names zero c ok h nobody = (h, nobody)
rounds_sound m names (suc k) c ok h nobody = let one = steps_sound m names c ok h nobody in rounds_sound m names k (all_steps m names c) ok one.0 one.1

pub settles_sound : (m : MachineData) (names : List Actor) (c d : Core) → IsMachine m → Sound m c → NobodyHolds c → Settles m names c d → Sound m d × NobodyHolds d
settles_sound m names c d ok h nobody settled = subst (λ x. Sound m x × NobodyHolds x) (sym settled.1) (rounds_sound m names settled.0 c ok h nobody)

pub nobody_first : NobodyHolds first_core
nobody_first actor.Int = refl
nobody_first actor.Poll = refl
nobody_first (actor.Worker k) = refl
nobody_first actor.Ec = refl
nobody_first (actor.Device k) = refl
nobody_first (actor.Firmware k) = refl
