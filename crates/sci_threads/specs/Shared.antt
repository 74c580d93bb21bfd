-- Actors over the seats of a shared table: when an actor and its seat agree, and what a step and many steps tell.
use Rattle.std.specs.Prelude.{ℕ, ◌≡◌, ◌≤◌, ◌+◌, ◌&&◌, ◌⊎◌, Bool, true, false, List, length, reverse, is_none}
use Rattle.atomic_table.specs.Seated.{TableId}
use Rattle.acpi_regs.specs.declared.actor.Actor.{Actor}
use Rattle.acpi_regs.specs.declared.actor.Actor.TheVariants as actor
use Rattle.acpi_regs.specs.CoreSound.{lock_phase}
use Rattle.acpi_regs.specs.Phases.{Phase, is_idle}
use Rattle.fw_actors.specs.Hardware.{next_pulse}
use Rattle.lock_table.specs.declared.view.Occupant.{Occupant}
use Rattle.lock_table.specs.declared.view.Occupant.TheVariants as who
use Rattle.lock_table.specs.declared.view.Part.{Part}
use Rattle.lock_table.specs.declared.view.Stage.TheVariants as stage
use Rattle.lock_table.specs.declared.view.View.{View}
use Rattle.lock_table.specs.Calls.{Pass, SameSeat}
use Rattle.lock_table.specs.Views.{ForOne, phase_of, pulses_of}
use Rattle.machine_desc.specs.Machine.{MachineData}
use Rattle.machine_history.specs.Scripts.{next_of}
use Rattle.sci_threads.specs.declared.any.AnyActor.{AnyActor}
use Rattle.sci_threads.specs.declared.shared.ActorSeat.{ActorSeat}
use Rattle.sci_threads.specs.Actors.{StepsAs, stands, who as who_of}
use Rattle.world.specs.declared.outcome.StepOutcome.{StepOutcome}
use Rattle.world.specs.declared.outcome.StepOutcome.TheVariants as outcome
use Rattle.world.specs.Calls.{Call}
use Rattle.world.specs.Shared.{SeatMakes}

-- the part is this actor's, in this phase
abbrev pub IsOf : Actor → Phase → Part → Type 0
IsOf a f p = (p.actor ≡ a) × (phase_of p.phase ≡ f)

-- a seat of this table without a turn, which is this actor's and has it in this phase
pub record IsReady (id : TableId) (a : Actor) (f : Phase) (s : Pass) : Type 0 where
  pub table : s.table ≡ id
  pub away : s.view.stage ≡ stage.Away
  pub part : ForOne (IsOf a f) s.view.who

-- what a call makes of a seat, whoever the actor is
abbrev pub SeenMakes : MachineData → View → Actor → Call → View → Type 0
SeenMakes m v a call w = SeatMakes m v call w

-- One step over a seat, as the actor's own kind has it. It rests on what the seat did in that call: an attempt or a
-- release at the Global Lock's word, a pulse, a turn that was taken and given back, for int and poll with five
-- collects in it, or a turn that was found out. A device whose list is through does nothing.
abbrev pub SeatSteps : MachineData → AnyActor → View → StepOutcome → View → AnyActor → Type 0
SeatSteps m x v o w y = StepsAs (SeenMakes m) m x v o w y

-- ---- the end of an actor

-- a firmware that is idle and whose script is through, by its own entries; a device whose list is through
abbrev pub ends_as : MachineData → Actor → Part → Bool
ends_as m (actor.Firmware k) p = is_idle (lock_phase (phase_of p.phase))
    && is_none (next_of m (reverse p.mine) (actor.Firmware k))
ends_as m (actor.Device k) p = is_none (next_pulse m k (pulses_of p.phase))
ends_as m _ p = false

abbrev pub IsAtEnd : MachineData → Part → Type 0
IsAtEnd m p = ends_as m p.actor p ≡ true

-- ---- the steps that a seat tells of

-- a device's pulses, and what every other actor tried
abbrev pub steps_as : Actor → Part → ℕ
steps_as (actor.Device k) p = length (pulses_of p.phase)
steps_as _ p = p.tried

abbrev pub steps_in : Occupant → ℕ
steps_in (who.One p) = steps_as p.actor p
steps_in _ = 0

abbrev pub is_ended : StepOutcome → Bool
is_ended outcome.Ended = true
is_ended _ = false

-- one step: the actor is at its end, or one more is told
abbrev pub Rises : MachineData → Bool → Occupant → Occupant → Type 0
Rises m true x y = ForOne (IsAtEnd m) y
Rises m false x y = steps_in y ≡ steps_in x + 1

-- at most so many steps: the actor is at its end, or all of them are told
abbrev pub Ran : MachineData → ℕ → Occupant → Occupant → Type 0
Ran m turns x y = ForOne (IsAtEnd m) y ⊎ (steps_in y ≡ steps_in x + turns)

-- ---- many actors

-- actor and seat agree
abbrev pub Agrees : TableId → ActorSeat → Type 0
Agrees id x = IsReady id (who_of x.actor) (stands x.actor) x.seat

-- the same actor in the same seat, which agree, behind at most so many steps
pub record RanOn (m : MachineData) (id : TableId) (turns : ℕ) (x y : ActorSeat) : Type 0 where
  pub same_actor : who_of y.actor ≡ who_of x.actor
  pub same_seat : SameSeat x.seat y.seat
  pub agrees : Agrees id y
  pub ran : Ran m turns x.seat.view.who y.seat.view.who
