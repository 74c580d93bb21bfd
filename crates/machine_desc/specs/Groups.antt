-- The rules of a description in the three groups in which the program tests them, behind the GPE blocks.
use Rattle.std.specs.Prelude.{◌∷◌, [], length, map, Option, is_some}
use Rattle.acpi_regs.specs.Geometry.{Blocks}
use Rattle.machine_desc.specs.declared.fault.BadMachine.{BadMachine}
use Rattle.machine_desc.specs.declared.parts.MachineParts.{MachineParts}
use Rattle.machine_desc.specs.Faults.{first_of}
use Rattle.machine_desc.specs.Machine.{listed_part}
use Rattle.machine_desc.specs.Rules.{controller_fault, counts, devices_fault, event_of, events_fault, fields_fault, firmware_fault, forbids, queries_fault, queries_of, regions_fault, schedule_fault, workers_fault}

abbrev pub space_fault : MachineParts → Option BadMachine
space_fault p = first_of
    (workers_fault p.workers
    ∷ regions_fault (is_some p.controller) p.regions
    ∷ fields_fault p.regions p.fields
    ∷ [])

abbrev pub handlers_fault : Blocks → MachineParts → Option BadMachine
handlers_fault b p = first_of
    (events_fault p.version b (event_of p.controller) (length p.fields) p.events
    ∷ controller_fault b (event_of p.controller)
    ∷ queries_fault (forbids (map listed_part p.events) (event_of p.controller)) (length p.fields)
    (queries_of p.controller)
    ∷ [])

abbrev pub actors_fault : MachineParts → Option BadMachine
actors_fault p = first_of
    (firmware_fault (forbids (map listed_part p.events) (event_of p.controller)) (length p.fields) p.firmware
    ∷ devices_fault (map listed_part p.events) (event_of p.controller) p.devices
    ∷ schedule_fault (counts p) p.schedule
    ∷ [])
