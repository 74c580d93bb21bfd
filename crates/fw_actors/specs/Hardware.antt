-- What one step of the controller or of a device comes to.
use Rattle.std.specs.Prelude.{ℕ, ◌≡◌, Bool, false, List, [], ◌∷◌, ◌++◌, length, Option, Some, None, slice_get}
use Rattle.acpi_regs.specs.declared.actor.Actor.{Actor}
use Rattle.acpi_regs.specs.declared.actor.Actor.TheVariants as actor
use Rattle.acpi_regs.specs.declared.entry.Entry.{Entry}
use Rattle.acpi_regs.specs.declared.event.Event.{Event}
use Rattle.acpi_regs.specs.declared.phase.Pulse.{Pulse}
use Rattle.machine_desc.specs.Machine.{MachineData}
use Rattle.machine_history.specs.Steps.{ctl_entry, pulses}
use Rattle.world.specs.declared.outcome.StepOutcome.{StepOutcome}
use Rattle.world.specs.declared.outcome.StepOutcome.TheVariants as outcome
use Rattle.world.specs.Calls.{Call, Pulsed_at}
use Rattle.world.specs.Duties.{added}
use Rattle.world.specs.Stepping.{TurnSteps}

-- the controller's next move, or its leaving of burst mode
abbrev pub ctl_adds : MachineData → List Entry → List Event → List Entry
ctl_adds m past events = added actor.Ec (ctl_entry m past actor.Ec)

-- one step of the controller: one turn
abbrev pub CtlSteps : {W : Type 0} → (W → Actor → Call → W → Type 0) → MachineData → W → StepOutcome → W → Type 0
CtlSteps makes m w o w' = TurnSteps makes false (ctl_adds m) actor.Ec w o w'

-- a device with its pulses so far, the oldest first
pub record DeviceData : Type 0 where
  pub number : ℕ
  pub pulses : List Pulse

-- the next event of its list is pulsed, if there is one
abbrev pub PulsesNext : {W : Type 0} → (W → Actor → Call → W → Type 0) → Actor → W → List Pulse → Option Event
    → StepOutcome → W → List Pulse → Type 0
PulsesNext makes a w ps None o w' qs = (o ≡ outcome.Ended) × (w' ≡ w) × (qs ≡ ps)
PulsesNext makes a w ps (Some n) o w' qs = (clear : Bool) × makes w a (Pulsed_at n clear) w' × (o ≡ outcome.Stepped)
    × (qs ≡ ps ++ record { event = n; clear = clear } ∷ [])

-- the event that a device pulses next
abbrev pub next_pulse : MachineData → ℕ → List Pulse → Option Event
next_pulse m k ps = slice_get (pulses m k) (length ps)

-- one step of a device: one pulse, until its list is through
abbrev pub DeviceSteps : {W : Type 0} → (W → Actor → Call → W → Type 0) → MachineData → ℕ → W → List Pulse
    → StepOutcome → W → List Pulse → Type 0
DeviceSteps makes m k w ps o w' qs = PulsesNext makes (actor.Device k) w ps (next_pulse m k ps) o w' qs
