-- What a step of the controller or of a device is over the world of one thread.
use Rattle.std.specs.Prelude.{ℕ, ◌≡◌, false, List}
use Rattle.acpi_regs.specs.declared.actor.Actor.{Actor}
use Rattle.acpi_regs.specs.declared.actor.Actor.TheVariants as actor
use Rattle.acpi_regs.specs.declared.phase.Pulse.{Pulse}
use Rattle.acpi_regs.specs.Phases.{Free, Phase, Pulsed, put}
use Rattle.machine_desc.specs.Machine.{MachineData}
use Rattle.machine_history.specs.Steps.{gives}
use Rattle.fw_actors.specs.Hardware.{CtlSteps, DeviceSteps}
use Rattle.world.specs.declared.outcome.StepOutcome.{StepOutcome}
use Rattle.world.specs.Serial.{Serial, SerialMakes, core_of}
use Rattle.world.specs.Stepping.{after_step, is_stepped}

-- from every core in which it is free, a step is exactly what the controller is given
abbrev pub CtlGives : Type 0
CtlGives = (m : MachineData) (w w' : Serial) (phases : Actor → Phase) (o : StepOutcome) → phases actor.Ec ≡ Free
    → CtlSteps SerialMakes m w o w'
    → gives m (core_of w phases) actor.Ec ≡ after_step o (core_of w' (put actor.Ec Free phases))

-- where a step does nothing, all stays
abbrev pub CtlStays : Type 0
CtlStays = (m : MachineData) (w w' : Serial) (phases : Actor → Phase) (o : StepOutcome)
    → CtlSteps SerialMakes m w o w' → is_stepped o ≡ false → core_of w' phases ≡ core_of w phases

-- from every core in which it has made these pulses, a step is exactly what a device is given
abbrev pub DeviceGives : Type 0
DeviceGives = (m : MachineData) (k : ℕ) (w w' : Serial) (phases : Actor → Phase) (ps qs : List Pulse)
    (o : StepOutcome) → phases (actor.Device k) ≡ Pulsed ps → DeviceSteps SerialMakes m k w ps o w' qs
    → gives m (core_of w phases) (actor.Device k) ≡ after_step o (core_of w' (put (actor.Device k) (Pulsed qs) phases))

abbrev pub DeviceStays : Type 0
DeviceStays = (m : MachineData) (k : ℕ) (w w' : Serial) (phases : Actor → Phase) (ps qs : List Pulse)
    (o : StepOutcome) → DeviceSteps SerialMakes m k w ps o w' qs → is_stepped o ≡ false
    → (core_of w' phases ≡ core_of w phases) × (qs ≡ ps)
