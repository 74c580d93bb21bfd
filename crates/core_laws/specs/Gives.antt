-- One step of an actor as a list of events of the core.
use Rattle.std.specs.Prelude.{◌≡◌, false, List, [], ◌∷◌, map, Some}
use Rattle.acpi_regs.specs.declared.actor.Actor.{Actor}
use Rattle.acpi_regs.specs.declared.actor.Actor.TheVariants as actor
use Rattle.acpi_regs.specs.declared.entry.Deed.TheVariants as deed
use Rattle.acpi_regs.specs.Core.{Core, events_of}
use Rattle.acpi_regs.specs.CoreEvents.{Collect, CoreEvent, Exchange, Load, Release, Turn, is_holding, past_in}
use Rattle.acpi_regs.specs.CoreEvents as event
use Rattle.machine_desc.specs.Machine.{MachineData}
use Rattle.machine_history.specs.Steps.{Adds, Attempts, Pulses, Releases, Step, Sweeps, next_step}
use Rattle.core_laws.specs.CoreSteps.{AllHappen, after}

-- nobody is in the midst of a collect
abbrev pub NobodyHolds : Core → Type 0
NobodyHolds c = (a : Actor) → is_holding (c.phases a) ≡ false

abbrev pub pulse_of : Actor → List CoreEvent
pulse_of (actor.Device k) = event.Pulses k ∷ []
pulse_of _ = []

-- An attempt is a load and an exchange, a sweep the five collects and a turn of the latches, an entry a turn of its
-- own.
abbrev pub events_in : Core → Actor → Step → List CoreEvent
events_in c a Attempts = Load a ∷ Exchange a ∷ []
events_in c a Releases = Release a ∷ []
events_in c a (Pulses n) = pulse_of a
events_in c a Sweeps = Collect a 0 ∷ Collect a 1 ∷ Collect a 2 ∷ Collect a 3 ∷ Collect a 4
    ∷ Turn a (map deed.Latch (events_of c.pins)) ∷ []
events_in c a (Adds d) = Turn a (d ∷ []) ∷ []

-- a step that leads to this core
pub record IsEvents (m : MachineData) (c : Core) (a : Actor) (d : Core) : Type 0 where
  pub step : Step
  pub next : next_step m c.pins (past_in c) a (c.phases a) ≡ Some step
  pub may : AllHappen m c (events_in c a step)
  pub leads : d ≡ after m c (events_in c a step)
