-- What one step of an actor comes to, over any world: it makes one call, and its outcome and its new phase are what
-- that call's answer says.
use Rattle.std.specs.Prelude.{ℕ, ◌≡◌, ◌&&◌, Bool, true, false, List, ◌++◌, reverse, Option, Some, None, is_none, if◌then◌else◌}
use Rattle.acpi_regs.specs.declared.actor.Actor.{Actor}
use Rattle.acpi_regs.specs.declared.actor.Actor.TheVariants as actor
use Rattle.acpi_regs.specs.declared.entry.Deed.{Deed}
use Rattle.acpi_regs.specs.declared.entry.Entry.{Entry}
use Rattle.acpi_regs.specs.declared.event.Event.{Event}
use Rattle.acpi_regs.specs.declared.phase.LockPhase.{LockPhase}
use Rattle.acpi_regs.specs.declared.phase.LockPhase.TheVariants as phase
use Rattle.acpi_regs.specs.Core.{Core}
use Rattle.acpi_regs.specs.Phases.{is_idle, lock_deed, moved}
use Rattle.lock_table.specs.declared.words.Attempt.{Attempt}
use Rattle.lock_table.specs.declared.words.Attempt.TheVariants as attempt
use Rattle.machine_desc.specs.Machine.{MachineData}
use Rattle.machine_history.specs.Scripts.{next_of}
use Rattle.machine_history.specs.Steps.{script_entry}
use Rattle.world.specs.declared.turn.Acted.{Acted}
use Rattle.world.specs.declared.turn.Acted.TheVariants as acted
use Rattle.world.specs.declared.outcome.StepOutcome.{StepOutcome}
use Rattle.world.specs.declared.outcome.StepOutcome.TheVariants as outcome
use Rattle.world.specs.Calls.{Attempted, Call, Missed, Pulsed_at, Released, To_attempt, To_release, To_turn, Turned, Want}
use Rattle.world.specs.Duties.{added, did}

-- ---- workers and firmware

-- a worker or a firmware between its steps
pub record Runner : Type 0 where
  pub number : ℕ
  pub phase : LockPhase

-- what it asks of its world
abbrev pub lock_want : LockPhase → Want
lock_want (phase.Seeking l) = To_attempt
lock_want phase.Quit = To_release
lock_want p = To_turn false (lock_deed p)

abbrev pub moved_by : Option Deed → LockPhase → LockPhase
moved_by None p = p
moved_by (Some d) p = moved d p

-- an attempt that found the word changed leaves it competing
abbrev pub attempt_phase : Attempt → LockPhase
attempt_phase attempt.Won = phase.Won
attempt_phase (attempt.Marked found) = phase.Marked
attempt_phase (attempt.Moved loaded found) = phase.Seeking None

abbrev pub attempt_outcome : Attempt → StepOutcome
attempt_outcome (attempt.Moved loaded found) = outcome.Moved
attempt_outcome _ = outcome.Stepped

-- firmware has an end, and a worker waits for the next job
abbrev pub may_end : Actor → Bool
may_end (actor.Firmware k) = true
may_end _ = false

-- a firmware whose script has ended, and which does not compete
abbrev pub has_ended : MachineData → List Entry → Actor → LockPhase → Bool
has_ended m past a p = may_end a && is_idle p && is_none (next_of m past a)

abbrev pub turn_outcome : Bool → Option Deed → StepOutcome
turn_outcome ended None = if ended then outcome.Ended else outcome.NotReady
turn_outcome ended (Some d) = outcome.Stepped

-- what a call from the phase p comes to: the outcome, and the phase q behind it
abbrev pub ScriptAnswers : MachineData → Actor → LockPhase → Call → StepOutcome → LockPhase → Type 0
ScriptAnswers m a p (Attempted r) o q = (lock_want p ≡ To_attempt) × (o ≡ attempt_outcome r) × (q ≡ attempt_phase r)
ScriptAnswers m a p (Released b) o q = (lock_want p ≡ To_release) × (o ≡ outcome.Stepped) × (q ≡ phase.Gone b)
ScriptAnswers m a p (Pulsed_at n clear) o q = ⊥
ScriptAnswers m a p (Turned collect before after events) o q =
    (lock_want p ≡ To_turn false (lock_deed p)) × (collect ≡ false)
    × (after ≡ before ++ added a (script_entry m (reverse before) a p))
    × (o ≡ turn_outcome (has_ended m (reverse before) a p) (script_entry m (reverse before) a p))
    × (q ≡ moved_by (script_entry m (reverse before) a p) p)
ScriptAnswers m a p Missed o q = (o ≡ outcome.Out) × (q ≡ p)

-- one step of a worker or a firmware
abbrev pub ScriptSteps : {W : Type 0} → (W → Actor → Call → W → Type 0) → MachineData → Actor → W → LockPhase
    → StepOutcome → W → LockPhase → Type 0
ScriptSteps makes m a w p o w' q = (call : Call) × makes w a call w' × ScriptAnswers m a p call o q

-- the turn of a worker or a firmware adds the one entry of its phase, and tells which, and whether its script has ended
pub record ScriptDone (m : MachineData) (a : Actor) (p : LockPhase) (made : Option Deed) (ended : Bool) (before after : List Entry) (answer : Acted) : Type 0 where
  pub made_is : made ≡ script_entry m (reverse before) a p
  pub ended_is : ended ≡ has_ended m (reverse before) a p
  pub adds : after ≡ before ++ added a made
  pub answers : answer ≡ did (added a made)

-- ---- actors that are free between their steps

abbrev pub did_outcome : Acted → StepOutcome
did_outcome acted.Did = outcome.Stepped
did_outcome acted.Nothing = outcome.NotReady

-- a turn, which collects the pins or not, and adds these entries for the past and the events that it finds
abbrev pub TurnAnswers : Bool → (List Entry → List Event → List Entry) → Call → StepOutcome → Type 0
TurnAnswers collects adds (Turned collect before after events) o = (collect ≡ collects)
    × (after ≡ before ++ adds (reverse before) events) × (o ≡ did_outcome (did (adds (reverse before) events)))
TurnAnswers collects adds Missed o = o ≡ outcome.Out
TurnAnswers collects adds _ o = ⊥

abbrev pub TurnSteps : {W : Type 0} → (W → Actor → Call → W → Type 0) → Bool → (List Entry → List Event → List Entry)
    → Actor → W → StepOutcome → W → Type 0
TurnSteps makes collects adds a w o w' = (call : Call) × makes w a call w' × TurnAnswers collects adds call o

-- ---- what a step makes of the core

-- the core behind a step, where it did something
abbrev pub after_step : StepOutcome → Core → Option Core
after_step outcome.Stepped c = Some c
after_step _ c = None

abbrev pub is_stepped : StepOutcome → Bool
is_stepped outcome.Stepped = true
is_stepped _ = false
