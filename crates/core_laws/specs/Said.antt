-- What a sound core says of its actors, in sentences: who holds the lock's word, what each phase tells of the
-- entries, why an actor waits, and how many signals there are (ACPI 6.5, section 5.2.10.1).
use Rattle.std.specs.Prelude.{ℕ, ◌≡◌, ◌≤◌, ◌+◌, ◌*◌, ◌==◌, ◌&&◌, ◌⊎◌, not, Bool, true, false, List, [], ◌∷◌, Some, if◌then◌else◌}
use Rattle.acpi_regs.specs.declared.actor.Actor.{Actor}
use Rattle.acpi_regs.specs.declared.actor.Actor.TheVariants as actor
use Rattle.acpi_regs.specs.declared.actor.Side.{Side}
use Rattle.acpi_regs.specs.declared.phase.LockPhase.{LockPhase}
use Rattle.acpi_regs.specs.declared.phase.LockPhase.TheVariants as phase
use Rattle.acpi_regs.specs.Actor.{same_actor}
use Rattle.acpi_regs.specs.Core.{Core}
use Rattle.acpi_regs.specs.CoreEvents.{has_collected, in_hand, is_holding, list_of, one, past_in, pulses_in}
use Rattle.acpi_regs.specs.CoreSound.{AreOfKind, IsStart, all_clear, all_pulses, competes, hands, holds, is_signalled, is_word, latches, lock_phase, tells, waits}
use Rattle.acpi_regs.specs.declared.event.Event.{Event}
use Rattle.acpi_regs.specs.Event.{word_of}
use Rattle.machine_desc.specs.Machine.{MachineData}
use Rattle.machine_history.specs.Legal.{Legal}
use Rattle.acpi_regs.specs.Lock.{busies, has_disowned, has_owned, is_busy, is_someone, leaves, other, owner, seeker}
use Rattle.acpi_regs.specs.Phases.{Lock, Phase, is_gone, is_idle, is_marked, is_owning}

-- it is Won, Owning or Quit
abbrev pub holds_word : Core → Actor → Type 0
holds_word c a = holds (lock_phase (c.phases a)) ≡ true

-- why an actor waits: the word is owned and pending, an actor of the other side is about to signal, or a signal is
-- there, which is its side's wake, or for a worker the status of the lock's event
abbrev pub Reason : Core → Side → Type 0
Reason c s = (c.word ≡ 3) ⊎ (((b : Actor) × (competes (other s) b ≡ true) × (c.phases b ≡ Lock (phase.Gone true)))
    ⊎ (is_signalled s (past_in c) ≡ true))

-- ---- sums over actors

abbrev pub is_among : Actor → List Actor → Bool
is_among a [] = false
is_among a (b ∷ actors) = if same_actor a b then true else is_among a actors

abbrev pub AreDistinct : List Actor → Type 0
AreDistinct [] = Unit {0}
AreDistinct (a ∷ actors) = (is_among a actors ≡ false) × AreDistinct actors

-- how many of a side's actors among these are in a phase of which the test is true
abbrev pub count_in : (LockPhase → Bool) → (Actor → Phase) → Side → List Actor → ℕ
count_in test phases s [] = 0
count_in test phases s (a ∷ actors) = one (competes s a && test (lock_phase (phases a))) + count_in test phases s actors

-- ---- the sentences

pub record AsSaid (c : Core) : Type 0 where
  -- the word is 0, 2 or 3, and a loaded word too
  pub word_good : is_word c.word ≡ true
  pub loaded_good : (a : Actor) (l : ℕ) → c.phases a ≡ Lock (phase.Seeking (Some l)) → is_word l ≡ true
  -- where the word is owned exactly one actor holds it, and none where it is free
  pub one_holds : (c.word == 0) ≡ false → (a : Actor) × holds_word c a × ((b : Actor) → holds_word c b → a ≡ b)
  pub none_holds : c.word ≡ 0 → (a : Actor) → holds_word c a → ⊥
  -- a worker or a firmware is idle exactly where it is not its side's seeker
  pub idle : (s : Side) (a : Actor) → competes s a ≡ true
      → is_idle (lock_phase (c.phases a)) ≡ not (is_someone a (seeker s (past_in c)))
  -- an actor is in the phase Owning exactly where it is the owner
  pub owning : (a : Actor) → is_owning (lock_phase (c.phases a)) ≡ is_someone a (owner (past_in c))
  -- what a phase tells of the entries since the seek
  pub since : (a : Actor) (p : LockPhase) → c.phases a ≡ Lock p
      → tells p (has_owned a (past_in c)) (has_disowned a (past_in c)) (is_busy a (past_in c)) ≡ true
  -- each that is marked or waits has a reason
  pub reason : (s : Side) (a : Actor) → competes s a ≡ true → waits (lock_phase (c.phases a)) ≡ true → Reason c s
  -- A side's signals, its actors about to signal, and one where the word is pending and one of them holds it, are no
  -- more than the busy entries and the marked actors of the other side. The sums go over any actors among which the
  -- seekers are.
  pub signals : (s : Side) (actors : List Actor) → AreDistinct actors
      → ((t : Side) (a : Actor) → seeker t (past_in c) ≡ Some a → is_among a actors ≡ true)
      → leaves s (past_in c) + (count_in (is_gone true) c.phases s actors
      + one (c.word == 3) * count_in holds c.phases s actors) ≤ busies (other s) (past_in c)
      + count_in is_marked c.phases (other s) actors
  -- at most one actor is in the midst of a turn that collects
  pub one_turn : (a b : Actor) → is_holding (c.phases a) ≡ true → is_holding (c.phases b) ≡ true → a ≡ b

-- The same for pulses: each device's pulses are the start of its list; those that found their pin clear were latched,
-- stand in the pin, or are in a hand; an event that was pulsed was found clear once at least; what is in a hand is of
-- a pin word that was collected.
pub record PulsesSaid (lists : List (List Event)) (c : Core) : Type 0 where
  pub start : (k : ℕ) → IsStart (list_of lists k) (pulses_in (c.phases (actor.Device k)))
  pub counts : (n : Event) → all_clear lists c.phases n ≡ latches n (past_in c) + (one (c.pins n) + hands c.phases n)
  pub some_clear : (n : Event) → 1 ≤ all_pulses lists c.phases n → 1 ≤ all_clear lists c.phases n
  pub collected : (a : Actor) (n : Event) → in_hand (c.phases a) n ≡ true
      → has_collected (c.phases a) (word_of n) ≡ true

-- A sound core by these sentences: its history is legal, each actor is in a phase of its kind, and they hold. That no
-- code waits for nothing, CodesSound of the sound core, follows from them for every machine.
pub record SoundAsSaid (m : MachineData) (c : Core) : Type 0 where
  pub legal : Legal m c.history
  pub kinds : AreOfKind c.phases
  pub lock : AsSaid c
  pub pulses : PulsesSaid m.devices c
