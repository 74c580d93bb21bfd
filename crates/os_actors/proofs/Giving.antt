-- Over the world of one thread a step of int or poll is exactly what it is given.
use Rattle.std.proofs.Common.{◌≡◌, true, false, List, [], ◌∷◌, ◌++◌, append-nil, map, reverse, Option, Some, None, if◌then◌else◌, refl, sym, ap, ◌∙◌}
use Rattle.std.specs.Option.{option_map}
use Rattle.acpi_regs.specs.declared.actor.Actor.{Actor}
use Rattle.acpi_regs.specs.declared.actor.Actor.TheVariants as actor
use Rattle.acpi_regs.specs.declared.entry.Deed.{Deed}
use Rattle.acpi_regs.specs.declared.entry.Entry.{Entry}
use Rattle.acpi_regs.specs.declared.event.Event.{Event}
use Rattle.acpi_regs.specs.Core.{Core, events_of, no_event}
use Rattle.acpi_regs.specs.Phases.{Free, Phase, put}
use Rattle.machine_desc.specs.Machine.{MachineData}
use Rattle.machine_history.specs.Legal.{is_host}
use Rattle.machine_history.specs.Steps.{Sweeps, adds, entry, gives, happens, host_entry, host_step, is_empty, latch, moved_in, next_step}
use Rattle.os_actors.specs.Hosts.{HostSteps, host_adds}
use Rattle.world.specs.declared.outcome.StepOutcome.{StepOutcome}
use Rattle.world.specs.Duties.{added, did}
use Rattle.world.specs.Serial.{Serial, SerialMakes, core_of, pins_of}
use Rattle.world.specs.Stepping.{after_step, did_outcome, is_stepped}
use Rattle.world.proofs.Events.{none_of}
use Rattle.world.proofs.FreeTurns.{idle-made}
use Rattle.world.proofs.Giving.{turn-leaves}

-- a turn that found no pin
made-given : (c : Core) (a : Actor) (made : Option Deed) → c.phases a ≡ Free → c.pins ≡ no_event →
    option_map (happens c a) (adds made) ≡ after_step (did_outcome (did (added a made))) (record c { pins = no_event; history = c.history ++ added a made; phases = put a Free c.phases })
made-given c a None at none = refl
made-given c a (Some d) at none = λ i. Some (record c { pins = none i; history = c.history ++ entry a d ∷ []; phases = put a (moved_in d (at i)) c.phases })

-- a turn, by the events that it found
events-given : (m : MachineData) (c : Core) (a : Actor) (events : List Event) → c.phases a ≡ Free → (events ≡ [] → c.pins ≡ no_event) → events_of c.pins ≡ events →
    option_map (happens c a) (if is_empty events then adds (host_entry m (reverse c.history) a) else Some Sweeps) ≡ after_step (did_outcome (did (host_adds m a (reverse c.history) events))) (record c { pins = no_event; history = c.history ++ host_adds m a (reverse c.history) events; phases = put a Free c.phases })
events-given m c a [] at none is = made-given c a (host_entry m (reverse c.history) a) at (none refl)
events-given m c a (n ∷ events) at none is = λ i. Some (record c { pins = no_event; history = c.history ++ map (latch a) (is i); phases = put a Free c.phases })

host-given : (m : MachineData) (a : Actor) (w w' : Serial) (phases : Actor → Phase) (o : StepOutcome) → phases a ≡ Free → HostSteps SerialMakes m a w o w' → option_map (happens (core_of w phases) a) (host_step m (pins_of w) (reverse w.board.entries) a) ≡ after_step o (core_of w' (put a Free phases))
host-given m a w w' phases o at steps =
    let left = turn-leaves a w w' (put a Free phases) true (host_adds m a) o steps in
    events-given m (core_of w phases) a (events_of (pins_of w)) at (none_of w.words.pins) refl ∙ (λ i. after_step (sym left.0 i) (sym left.1 i))

no : {X : Type 0} → false ≡ true → X
no e = absurd (let x = e in cc)

pub host-gives : (m : MachineData) (a : Actor) (w w' : Serial) (phases : Actor → Phase) (o : StepOutcome) → is_host a ≡ true → phases a ≡ Free → HostSteps SerialMakes m a w o w' → gives m (core_of w phases) a ≡ after_step o (core_of w' (put a Free phases))
host-gives m actor.Int w w' phases o host at steps = ap (λ p. option_map (happens (core_of w phases) actor.Int) (next_step m (pins_of w) (reverse w.board.entries) actor.Int p)) at ∙ host-given m actor.Int w w' phases o at steps
host-gives m actor.Poll w w' phases o host at steps = ap (λ p. option_map (happens (core_of w phases) actor.Poll) (next_step m (pins_of w) (reverse w.board.entries) actor.Poll p)) at ∙ host-given m actor.Poll w w' phases o at steps
host-gives m _ w w' phases o host at steps = no host

-- ---- a step that did nothing

idle-adds : (m : MachineData) (a : Actor) (past : List Entry) (events : List Event) → is_stepped (did_outcome (did (host_adds m a past events))) ≡ false → (host_adds m a past events ≡ []) × (events ≡ [])
idle-adds m a past [] idle = (idle-made a (host_entry m past a) idle, refl)
idle-adds m a past (n ∷ events) idle = no (sym idle)

pub host-stays : (m : MachineData) (a : Actor) (w w' : Serial) (phases : Actor → Phase) (o : StepOutcome) → HostSteps SerialMakes m a w o w' → is_stepped o ≡ false → core_of w' phases ≡ core_of w phases
host-stays m a w w' phases o steps idle =
    let left = turn-leaves a w w' phases true (host_adds m a) o steps in
    let none = idle-adds m a (reverse w.board.entries) (events_of (pins_of w)) (ap is_stepped (sym left.0) ∙ idle) in
    left.1 ∙ ((λ i. record (core_of w phases) { pins = sym (none_of w.words.pins none.1) i; history = w.board.entries ++ none.0 i }) ∙ ap (λ h. record (core_of w phases) { history = h }) (append-nil w.board.entries))
