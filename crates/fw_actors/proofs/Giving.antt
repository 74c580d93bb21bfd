-- Over the world of one thread a step of the controller or of a device is exactly what it is given.
use Rattle.std.proofs.Common.{◌≡◌, ℕ, true, false, not, List, [], ◌∷◌, ◌++◌, append-nil, reverse, Option, Some, None, refl, sym, ap, ◌∙◌}
use Rattle.std.specs.Option.{option_map}
use Rattle.acpi_regs.specs.declared.actor.Actor.{Actor}
use Rattle.acpi_regs.specs.declared.actor.Actor.TheVariants as actor
use Rattle.acpi_regs.specs.declared.entry.Deed.{Deed}
use Rattle.acpi_regs.specs.declared.event.Event.{Event}
use Rattle.acpi_regs.specs.declared.phase.Pulse.{Pulse}
use Rattle.acpi_regs.specs.Core.{Core}
use Rattle.acpi_regs.specs.Phases.{Free, Phase, Pulsed, put}
use Rattle.machine_desc.specs.Machine.{MachineData}
use Rattle.machine_history.specs.Steps.{Pulses, adds, ctl_entry, entry, gives, happens, moved_in, next_step, pulsed_more}
use Rattle.fw_actors.specs.Hardware.{CtlSteps, DeviceSteps, PulsesNext, ctl_adds, next_pulse}
use Rattle.world.specs.declared.outcome.StepOutcome.{StepOutcome}
use Rattle.world.specs.Duties.{added, did}
use Rattle.world.specs.Serial.{Serial, SerialMakes, core_of, pins_of, with_pin}
use Rattle.world.specs.Stepping.{after_step, did_outcome, is_stepped}
use Rattle.world.proofs.FreeTurns.{idle-made}
use Rattle.world.proofs.Giving.{core-is, turn-leaves}

-- ---- the controller

made-given : (c : Core) (a : Actor) (made : Option Deed) → c.phases a ≡ Free →
    option_map (happens c a) (adds made) ≡ after_step (did_outcome (did (added a made))) (record c { history = c.history ++ added a made; phases = put a Free c.phases })
made-given c a None at = refl
made-given c a (Some d) at = ap (λ p. Some (record c { history = c.history ++ entry a d ∷ []; phases = put a (moved_in d p) c.phases })) at

pub ctl-gives : (m : MachineData) (w w' : Serial) (phases : Actor → Phase) (o : StepOutcome) → phases actor.Ec ≡ Free → CtlSteps SerialMakes m w o w' → gives m (core_of w phases) actor.Ec ≡ after_step o (core_of w' (put actor.Ec Free phases))
ctl-gives m w w' phases o at steps =
    let left = turn-leaves actor.Ec w w' (put actor.Ec Free phases) false (ctl_adds m) o steps in
    ap (λ p. option_map (happens (core_of w phases) actor.Ec) (next_step m (pins_of w) (reverse w.board.entries) actor.Ec p)) at
    ∙ (made-given (core_of w phases) actor.Ec (ctl_entry m (reverse w.board.entries) actor.Ec) at ∙ (λ i. after_step (sym left.0 i) (sym left.1 i)))

no : {X : Type 0} → true ≡ false → X
no e = absurd (let x = e in cc)

pub ctl-stays : (m : MachineData) (w w' : Serial) (phases : Actor → Phase) (o : StepOutcome) → CtlSteps SerialMakes m w o w' → is_stepped o ≡ false → core_of w' phases ≡ core_of w phases
ctl-stays m w w' phases o steps idle =
    let left = turn-leaves actor.Ec w w' phases false (ctl_adds m) o steps in
    let none = idle-made actor.Ec (ctl_entry m (reverse w.board.entries) actor.Ec) (ap is_stepped (sym left.0) ∙ idle) in
    left.1 ∙ (ap (λ l. record (core_of w phases) { history = w.board.entries ++ l }) none ∙ ap (λ h. record (core_of w phases) { history = h }) (append-nil w.board.entries))

-- ---- a device

pulse-given : (m : MachineData) (k : ℕ) (w w' : Serial) (phases : Actor → Phase) (ps qs : List Pulse) (o : StepOutcome) (next : Option Event) → phases (actor.Device k) ≡ Pulsed ps → PulsesNext SerialMakes (actor.Device k) w ps next o w' qs →
    option_map (happens (core_of w phases) (actor.Device k)) (option_map Pulses next) ≡ after_step o (core_of w' (put (actor.Device k) (Pulsed qs) phases))
pulse-given m k w w' phases ps qs o None at steps = ap (λ x. after_step x (core_of w' (put (actor.Device k) (Pulsed qs) phases))) (sym steps.0)
pulse-given m k w w' phases ps qs o (Some n) at steps =
    let a = actor.Device k in
    let pins = with_pin n (pins_of w) in
    (λ i. Some (record (core_of w phases) { pins = pins; phases = put a (pulsed_more n (not (pins_of w n)) (at i)) phases }))
    ∙ ((λ i. Some (record (core_of w phases) { pins = pins; phases = put a (Pulsed (ps ++ record { event = n; clear = sym steps.1.0 i } ∷ [])) phases }))
    ∙ ((λ i. after_step (sym steps.2 i) (record (core_of w phases) { pins = pins; phases = put a (Pulsed (sym steps.3 i)) phases }))
    ∙ ap (after_step o) (sym (core-is w' w.board w.words.facs pins (put a (Pulsed qs) phases) steps.1.1))))

pub device-gives : (m : MachineData) (k : ℕ) (w w' : Serial) (phases : Actor → Phase) (ps qs : List Pulse) (o : StepOutcome) → phases (actor.Device k) ≡ Pulsed ps → DeviceSteps SerialMakes m k w ps o w' qs → gives m (core_of w phases) (actor.Device k) ≡ after_step o (core_of w' (put (actor.Device k) (Pulsed qs) phases))
device-gives m k w w' phases ps qs o at steps =
    ap (λ p. option_map (happens (core_of w phases) (actor.Device k)) (next_step m (pins_of w) (reverse w.board.entries) (actor.Device k) p)) at
    ∙ pulse-given m k w w' phases ps qs o (next_pulse m k ps) at steps

pulse-stays : (w w' : Serial) (phases : Actor → Phase) (a : Actor) (ps qs : List Pulse) (o : StepOutcome) (next : Option Event) → PulsesNext SerialMakes a w ps next o w' qs → is_stepped o ≡ false → (core_of w' phases ≡ core_of w phases) × (qs ≡ ps)
pulse-stays w w' phases a ps qs o None steps idle = (ap (λ x. core_of x phases) steps.1, steps.2)
pulse-stays w w' phases a ps qs o (Some n) steps idle = no (ap is_stepped (sym steps.2) ∙ idle)

pub device-stays : (m : MachineData) (k : ℕ) (w w' : Serial) (phases : Actor → Phase) (ps qs : List Pulse) (o : StepOutcome) → DeviceSteps SerialMakes m k w ps o w' qs → is_stepped o ≡ false → (core_of w' phases ≡ core_of w phases) × (qs ≡ ps)
device-stays m k w w' phases ps qs o steps idle = pulse-stays w w' phases (actor.Device k) ps qs o (next_pulse m k ps) steps idle
