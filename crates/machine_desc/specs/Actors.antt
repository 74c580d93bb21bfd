-- The actors of a machine, in the order in which they are served.
use Rattle.std.specs.Prelude.{ℕ, List, [], ◌∷◌, ◌++◌, length, map, Option, Some, None}
use Rattle.std.specs.List.{range_with_len}
use Rattle.acpi_regs.specs.declared.actor.Actor.{Actor}
use Rattle.acpi_regs.specs.declared.actor.Actor.TheVariants as actor
use Rattle.machine_desc.specs.declared.machine.ControllerDesc.{ControllerDesc}
use Rattle.machine_desc.specs.Machine.{MachineData}

-- n actors of a kind, by number
abbrev pub numbered : (ℕ → Actor) → ℕ → List Actor
numbered make n = map make (range_with_len 0 n)

abbrev pub of_controller : Option ControllerDesc → List Actor
of_controller None = []
of_controller (Some c) = actor.Ec ∷ []

abbrev pub ec_count : Option ControllerDesc → ℕ
ec_count None = 0
ec_count (Some c) = 1

unfoldable pub actors_of : MachineData → List Actor
actors_of m =
    actor.Int ∷ actor.Poll
    ∷ (numbered actor.Worker m.workers
    ++ (of_controller m.controller
    ++ (numbered actor.Device (length m.devices)
    ++ numbered actor.Firmware (length m.firmware))))
