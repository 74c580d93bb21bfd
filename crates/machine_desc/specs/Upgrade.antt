-- The same machine as one of version 2, whose controller says by itself whether it needs the Global Lock.
use Rattle.std.specs.Prelude.{ℕ, ◌==◌, ◌||◌, Option, option_map}
use Rattle.machine_desc.specs.declared.machine.ControllerDesc.{ControllerDesc}
use Rattle.machine_desc.specs.Machine.{MachineData}

abbrev pub up_controller : ℕ → ControllerDesc → ControllerDesc
up_controller version c = record c { glk = (version == 1) || c.glk }

-- A machine of version 2 is its own upgrade.
abbrev pub up : MachineData → MachineData
up m = record m { version = 2; controller = option_map (up_controller m.version) m.controller }
