-- What the upgrade of a machine to version 2 leaves as it is: every history, and the machine's weight.
use Rattle.std.specs.Prelude.{ℕ, ◌≡◌, ◌↔◌, List, reverse}
use Rattle.acpi_regs.specs.declared.actor.Actor.{Actor}
use Rattle.acpi_regs.specs.declared.entry.Entry.{Entry}
use Rattle.acpi_regs.specs.declared.event.Event.{Event}
use Rattle.acpi_regs.specs.Core.{Core, events_of}
use Rattle.machine_desc.specs.Machine.{MachineData}
use Rattle.machine_desc.specs.Upgrade.{up}
use Rattle.machine_desc.specs.Weight.{weight_of}
use Rattle.machine_history.specs.Complete.{Complete}
use Rattle.machine_history.specs.Events.{parked}
use Rattle.machine_history.specs.Legal.{Legal, refusal}
use Rattle.machine_history.specs.Played.{Played}
use Rattle.machine_history.specs.Steps.{gives}

-- an entry is refused for the same reason, or allowed by both
abbrev pub SameRefusal : Type 0
SameRefusal = (m : MachineData) (past : List Entry) (e : Entry) → refusal (up m) past e ≡ refusal m past e

-- one step of an actor does the same
abbrev pub SameGives : Type 0
SameGives = (m : MachineData) (c : Core) (a : Actor) → gives (up m) c a ≡ gives m c a

abbrev pub SameLegal : Type 0
SameLegal = (m : MachineData) (h : List Entry) → Legal m h ↔ Legal (up m) h

abbrev pub SameComplete : Type 0
SameComplete = (m : MachineData) (h : List Entry) → Complete m h ↔ Complete (up m) h

abbrev pub SamePlayed : Type 0
SamePlayed = (m : MachineData) (h : List Entry) → Played m h ↔ Played (up m) h

abbrev pub SameWeight : Type 0
SameWeight = (m : MachineData) → weight_of (up m) ≡ weight_of m

-- the events that are parked at the end, in order, for which a log has a line each
abbrev pub SameStuck : Type 0
SameStuck = (m : MachineData) (h : List Entry)
    → events_of (parked (up m) (reverse h)) ≡ events_of (parked m (reverse h))

-- a machine of version 2 is its own upgrade
abbrev pub UpgradesOnce : Type 0
UpgradesOnce = (m : MachineData) → m.version ≡ 2 → up m ≡ m
