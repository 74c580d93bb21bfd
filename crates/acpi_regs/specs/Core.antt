-- The core that actors share: the lock's word, the pins, the history, and each actor's phase; and the first one.
use Rattle.std.specs.Prelude.{ℕ, zero, suc, Bool, false, List, [], ◌∷◌, ◌++◌, if◌then◌else◌}
use Rattle.acpi_regs.specs.declared.actor.Actor.{Actor}
use Rattle.acpi_regs.specs.declared.entry.Entry.{Entry}
use Rattle.acpi_regs.specs.declared.event.Event.{Event}
use Rattle.acpi_regs.specs.declared.event.Event.TheVariants as event
use Rattle.acpi_regs.specs.declared.event.Fixed.TheVariants as fixed
use Rattle.acpi_regs.specs.Phases.{Phase, first_phase}

-- the word of the Global Lock (ACPI 6.5, section 5.2.10.1), the events whose pins are set, the history with its oldest
-- entry first, and the phases
pub record Core : Type 0 where
  pub word : ℕ
  pub pins : Event → Bool
  pub history : List Entry
  pub phases : Actor → Phase

abbrev pub no_event : Event → Bool
no_event n = false

abbrev pub first_core : Core
first_core = record { word = 0; pins = no_event; history = []; phases = first_phase }

-- ---- sets of events, in the order in which events are served

-- the event at a place in that order
abbrev pub event_at : ℕ → Event
event_at zero = event.Fixed fixed.Tmr
event_at (suc zero) = event.Fixed fixed.Gbl
event_at (suc (suc zero)) = event.Fixed fixed.Pwr
event_at (suc (suc (suc zero))) = event.Fixed fixed.Slp
event_at (suc (suc (suc (suc zero)))) = event.Fixed fixed.Rtc
event_at (suc (suc (suc (suc (suc k))))) = event.Gpe k

abbrev pub if_in : (Event → Bool) → Event → List Event
if_in set n = if set n then n ∷ [] else []

-- those of a set among the first k events
unfoldable pub events_below : (Event → Bool) → ℕ → List Event
events_below set zero = []
events_below set (suc k) = events_below set k ++ if_in set (event_at k)

-- five fixed events and 256 GPEs
abbrev pub all_events : ℕ
all_events = 261

-- the events of a set, in order
abbrev pub events_of : (Event → Bool) → List Event
events_of set = events_below set all_events
