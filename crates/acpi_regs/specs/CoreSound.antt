-- When a core is sound, judged by its word, its pins, its entries and its actors' phases: the lock's word and its
-- signals agree with what actors are about to do (ACPI 6.5, section 5.2.10.1), and no pulse is lost or latched twice.
use Rattle.std.specs.Prelude.{ℕ, zero, suc, ◌≡◌, ◌≤◌, ◌<◌, ◌+◌, ◌==◌, ◌&&◌, ◌||◌, not, Bool, true, false, List, [], ◌∷◌, length, Option, Some, None}
use Rattle.std.specs.List.{sum_by}
use Rattle.acpi_regs.specs.declared.actor.Actor.{Actor}
use Rattle.acpi_regs.specs.declared.actor.Actor.TheVariants as actor
use Rattle.acpi_regs.specs.declared.actor.Side.{Side}
use Rattle.acpi_regs.specs.declared.actor.Side.TheVariants as side
use Rattle.acpi_regs.specs.declared.entry.Deed.{Deed}
use Rattle.acpi_regs.specs.declared.entry.Deed.TheVariants as deed
use Rattle.acpi_regs.specs.declared.entry.Entry.{Entry}
use Rattle.acpi_regs.specs.declared.event.Event.{Event}
use Rattle.acpi_regs.specs.declared.phase.LockPhase.{LockPhase}
use Rattle.acpi_regs.specs.declared.phase.LockPhase.TheVariants as phase
use Rattle.acpi_regs.specs.declared.phase.Pulse.{Pulse}
use Rattle.acpi_regs.specs.Core.{Core, all_events}
use Rattle.acpi_regs.specs.CoreEvents.{has_collected, in_hand, is_host, is_holding, list_of, one, past_in, pulses_in}
use Rattle.acpi_regs.specs.Event.{event_rank, same_event, word_of}
use Rattle.acpi_regs.specs.Lock.{busies, gbl_status, has_disowned, has_owned, is_busy, is_someone, leaves, owner, seeker, wake}
use Rattle.acpi_regs.specs.Phases.{Free, Holding, Lock, Phase, Pulsed, is_gone, is_idle, is_marked, is_owning}

-- ---- each actor is in a phase of its kind

abbrev pub is_kind : Actor → Phase → Bool
is_kind (actor.Worker k) (Lock p) = true
is_kind (actor.Firmware k) (Lock p) = true
is_kind actor.Int Free = true
is_kind actor.Int (Holding words hand) = true
is_kind actor.Poll Free = true
is_kind actor.Poll (Holding words hand) = true
is_kind actor.Ec Free = true
is_kind (actor.Device k) (Pulsed ps) = true
is_kind _ _ = false

abbrev pub AreOfKind : (Actor → Phase) → Type 0
AreOfKind phases = (a : Actor) → is_kind a (phases a) ≡ true

-- ---- the lock

-- workers compete for the OS, firmware for its own side
abbrev pub competes : Side → Actor → Bool
competes side.Os (actor.Worker k) = true
competes side.Firmware (actor.Firmware k) = true
competes _ _ = false

-- an actor's phase for the lock, which is Idle if it does not compete
abbrev pub lock_phase : Phase → LockPhase
lock_phase (Lock p) = p
lock_phase _ = phase.Idle

abbrev pub lock_phases : (Actor → Phase) → Actor → LockPhase
lock_phases phases a = lock_phase (phases a)

-- it holds the word
abbrev pub holds : LockPhase → Bool
holds phase.Won = true
holds phase.Owning = true
holds phase.Quit = true
holds _ = false

-- it waits, or is about to wait, for a signal
abbrev pub waits : LockPhase → Bool
waits phase.Marked = true
waits phase.Waiting = true
waits _ = false

-- free, owned, or owned and pending
abbrev pub is_word : ℕ → Bool
is_word word = (word == 0) || ((word == 2) || (word == 3))

abbrev pub has_good_word : LockPhase → Bool
has_good_word (phase.Seeking (Some l)) = is_word l
has_good_word _ = true

-- the phase agrees with the actor's entries since its seek: whether it owned, disowned, and is busy
abbrev pub tells : LockPhase → Bool → Bool → Bool → Bool
tells phase.Idle owned disowned busy = true
tells (phase.Seeking l) owned disowned busy = not owned && not busy
tells phase.Marked owned disowned busy = not owned && not busy
tells phase.Waiting owned disowned busy = not owned && busy
tells phase.Won owned disowned busy = not owned && not busy
tells phase.Owning owned disowned busy = true
tells phase.Quit owned disowned busy = disowned
tells (phase.Gone signals) owned disowned busy = disowned

-- an actor that competes for a side agrees with the past
pub record Fits (past : List Entry) (s : Side) (a : Actor) (p : LockPhase) : Type 0 where
  pub seeker : is_idle p ≡ not (is_someone a (seeker s past))
  pub owner : is_owning p ≡ is_someone a (owner past)
  pub since : tells p (has_owned a past) (has_disowned a past) (is_busy a past) ≡ true
  pub loaded : has_good_word p ≡ true

-- a side has a signal for the actor that waits there: its wake, or for the OS the status of the lock's event
abbrev pub is_signalled : Side → List Entry → Bool
is_signalled side.Os past = wake side.Os past || gbl_status past
is_signalled side.Firmware past = wake side.Firmware past

-- One side as numbers. At most one actor of it is not idle, the seeker.
pub record Half : Type 0 where
  pub phase : LockPhase
  pub signalled : Bool
  pub leaves : ℕ
  pub busies : ℕ

abbrev pub phase_at : (Actor → LockPhase) → Option Actor → LockPhase
phase_at phases None = phase.Idle
phase_at phases (Some a) = phases a

abbrev pub half : List Entry → (Actor → LockPhase) → Side → Half
half past phases s = record {
  phase = phase_at phases (seeker s past);
  signalled = is_signalled s past;
  leaves = leaves s past;
  busies = busies s past;
}

-- The word is owned exactly if one actor holds it. An actor that waits has a reason: the word is pending, the other
-- side is about to signal, or it has signalled. The signals that were given or will be are at most the other side's
-- waits.
pub record Agree (word : ℕ) (x y : Half) : Type 0 where
  pub good : is_word word ≡ true
  pub owned : one (not (word == 0)) ≡ one (holds x.phase) + one (holds y.phase)
  pub waits_x : one (waits x.phase) ≤ one (word == 3) + (one (is_gone true y.phase) + one x.signalled)
  pub waits_y : one (waits y.phase) ≤ one (word == 3) + (one (is_gone true x.phase) + one y.signalled)
  pub signals_x :
      x.leaves + (one (is_gone true x.phase) + one ((word == 3) && holds x.phase)) ≤ y.busies + one (is_marked y.phase)
  pub signals_y :
      y.leaves + (one (is_gone true y.phase) + one ((word == 3) && holds y.phase)) ≤ x.busies + one (is_marked x.phase)

pub record LockSound (word : ℕ) (past : List Entry) (phases : Actor → LockPhase) : Type 0 where
  pub agree : Agree word (half past phases side.Os) (half past phases side.Firmware)
  pub fits : (s : Side) (a : Actor) → competes s a ≡ true → Fits past s a (phases a)
  -- an actor that is not idle competes for a side, and so does each seeker; the owner is in the phase of an owner
  pub sides : (a : Actor) → is_idle (phases a) ≡ false → (s : Side) × (competes s a ≡ true)
  pub seekers : (s : Side) (a : Actor) → seeker s past ≡ Some a → competes s a ≡ true
  pub owners : (a : Actor) → owner past ≡ Some a → is_owning (phases a) ≡ true

-- ---- pulses, pins and hands

-- the number of latches of an event
abbrev pub latch_in : Event → Deed → ℕ
latch_in n (deed.Latch x) = one (same_event x n)
latch_in n _ = 0

abbrev pub latches : Event → List Entry → ℕ
latches n [] = 0
latches n (e ∷ past) = latch_in n e.deed + latches n past

-- pulses of an event, and those of them that found its pin clear
abbrev pub times_pulsed : Event → List Pulse → ℕ
times_pulsed n [] = 0
times_pulsed n (p ∷ pulses) = one (same_event p.event n) + times_pulsed n pulses

abbrev pub times_clear : Event → List Pulse → ℕ
times_clear n [] = 0
times_clear n (p ∷ pulses) = one (p.clear && same_event p.event n) + times_clear n pulses

abbrev pub sum_below : (ℕ → ℕ) → ℕ → ℕ
sum_below f zero = 0
sum_below f (suc k) = f k + sum_below f k

-- over all devices
abbrev pub all_pulses : List (List Event) → (Actor → Phase) → Event → ℕ
all_pulses lists phases n = sum_below (λ k. times_pulsed n (pulses_in (phases (actor.Device k)))) (length lists)

abbrev pub all_clear : List (List Event) → (Actor → Phase) → Event → ℕ
all_clear lists phases n = sum_below (λ k. times_clear n (pulses_in (phases (actor.Device k)))) (length lists)

-- how often an event is in a list, and in the lists of all devices
abbrev pub times : Event → List Event → ℕ
times n [] = 0
times n (x ∷ events) = one (same_event x n) + times n events

abbrev pub listed_pulses : List (List Event) → Event → ℕ
listed_pulses lists n = sum_by (times n) lists

-- a device's pulses are the start of its list
abbrev pub IsStart : List Event → List Pulse → Type 0
IsStart events [] = Unit {0}
IsStart [] (p ∷ pulses) = ⊥
IsStart (n ∷ events) (p ∷ pulses) = (p.event ≡ n) × IsStart events pulses

-- the hands that an event is in
abbrev pub hands : (Actor → Phase) → Event → ℕ
hands phases n = one (in_hand (phases actor.Int) n) + one (in_hand (phases actor.Poll) n)

pub record PinsSound (lists : List (List Event)) (pins : Event → Bool) (past : List Entry) (phases : Actor → Phase)
    : Type 0 where
  pub start : (k : ℕ) → IsStart (list_of lists k) (pulses_in (phases (actor.Device k)))
  -- the pulses that found their pin clear were latched, are in the pin, or are in a hand
  pub counts : (n : Event) → all_clear lists phases n ≡ latches n past + (one (pins n) + hands phases n)
  -- an event that was pulsed was found clear at least once
  pub some_clear : (n : Event) → 1 ≤ all_pulses lists phases n → 1 ≤ all_clear lists phases n
  -- at most one of int and poll holds the turn, and the events in its hand are from pin words that it collected
  pub alone : (is_holding (phases actor.Int) && is_holding (phases actor.Poll)) ≡ false
  pub hosts : (a : Actor) → is_host a ≡ false → is_holding (phases a) ≡ false
  pub collected : (a : Actor) (n : Event) → in_hand (phases a) n ≡ true → has_collected (phases a) (word_of n) ≡ true
  -- pins and hands have existing events only
  pub pins_known : (n : Event) → pins n ≡ true → event_rank n < all_events
  pub hand_known : (a : Actor) (n : Event) → in_hand (phases a) n ≡ true → event_rank n < all_events

-- ---- the core, except its legal history and its codes

pub record CoreSound (lists : List (List Event)) (c : Core) : Type 0 where
  pub kinds : AreOfKind c.phases
  pub lock : LockSound c.word (past_in c) (lock_phases c.phases)
  pub pinned : PinsSound lists c.pins (past_in c) c.phases
