-- The history that a machine plays: its schedule, a step a name, and then rounds until nobody has anything left to do.
use Rattle.std.specs.Prelude.{ℕ, zero, suc, ◌≡◌, List, [], ◌∷◌, None, unwrap_or}
use Rattle.acpi_regs.specs.declared.actor.Actor.{Actor}
use Rattle.acpi_regs.specs.declared.entry.Entry.{Entry}
use Rattle.acpi_regs.specs.Core.{Core, first_core}
use Rattle.machine_desc.specs.Actors.{actors_of}
use Rattle.machine_desc.specs.Machine.{MachineData}
use Rattle.machine_history.specs.Steps.{gives}

-- one step of an actor; where it has none, all stays
abbrev pub stepped : MachineData → Core → Actor → Core
stepped m c a = unwrap_or (gives m c a) c

-- one step of each name, in order
abbrev pub steps : MachineData → List Actor → Core → Core
steps m [] c = c
steps m (a ∷ names) c = steps m names (stepped m c a)

-- so many rounds
abbrev pub rounds : MachineData → List Actor → ℕ → Core → Core
rounds m actors zero c = c
rounds m actors (suc k) c = rounds m actors k (steps m actors c)

-- no actor has a step
abbrev pub IsQuiet : MachineData → List Actor → Core → Type 0
IsQuiet m [] c = Unit {0}
IsQuiet m (a ∷ actors) c = (gives m c a ≡ None) × IsQuiet m actors c

-- the core to which rounds lead: that of the first round in which no actor did anything
abbrev pub Settles : MachineData → List Actor → Core → Core → Type 0
Settles m actors c d = (k : ℕ) × (d ≡ rounds m actors k c) × IsQuiet m actors d

-- the history after the schedule and then rounds, in the order in which actors are served
abbrev pub Played : MachineData → List Entry → Type 0
Played m h = (d : Core) × Settles m (actors_of m) (steps m m.schedule first_core) d × (h ≡ d.history)
