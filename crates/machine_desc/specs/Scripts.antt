-- What the rules of a machine come to for the plans of its scripts.
use Rattle.std.specs.Prelude.{◌≡◌, ◌≤◌, Bool, true, false, ◌&&◌, All, List, is_some}
use Rattle.acpi_regs.specs.declared.actor.Side.{Side}
use Rattle.acpi_regs.specs.declared.actor.Side.TheVariants as side
use Rattle.acpi_regs.specs.Event.{is_gbl}
use Rattle.handler_script.specs.declared.act.Act.{Act}
use Rattle.handler_script.specs.declared.act.Act.TheVariants as act
use Rattle.handler_script.specs.declared.op.Op.{Op}
use Rattle.handler_script.specs.Each.{Each}
use Rattle.handler_script.specs.Locked.{Locked}
use Rattle.handler_script.specs.Plan.{plan}
use Rattle.machine_desc.specs.declared.machine.ListedEvent.{ListedEvent}
use Rattle.machine_desc.specs.Kept.{IsMachine, listed_in, own_event, queries_in}
use Rattle.machine_desc.specs.Machine.{MachineData, act_fields}
use Rattle.machine_desc.specs.Rules.{is_event_of, is_listed}

abbrev pub of_os : Side → Bool
of_os side.Os = true
of_os side.Firmware = false

abbrev pub of_firmware : Side → Bool
of_firmware side.Os = false
of_firmware side.Firmware = true

-- A script of this side may make the act: the OS notifies, and counts references of listed events; firmware raises,
-- asserts and pushes codes. A request, and a code, are for a controller. The rest is for both.
abbrev pub suits_side : MachineData → Side → Bool → Act → Bool
suits_side m s needs (act.Ask r) = is_some m.controller
suits_side m s needs (act.Notify d v) = of_os s
suits_side m s needs (act.Up n) = of_os s && is_listed (listed_in m) n
suits_side m s needs (act.Down n) = of_os s
suits_side m s needs (act.Raise n) = of_firmware s
suits_side m s needs (act.Assert n) = of_firmware s
suits_side m s needs (act.Push q) = of_firmware s && is_some (own_event m)
suits_side m s needs _ = true

-- the script takes the lock and gives it back in turn, holds it where it needs it and not at its end, and makes such
-- acts alone
pub record RunsWell (m : MachineData) (s : Side) (ops : List Op) : Type 0 where
  pub locked : Locked false (plan (act_fields m) ops)
  pub suited : Each (suits_side m s) (plan (act_fields m) ops)

-- a listed event is neither that of the Global Lock nor the controller's
pub record IsServed (m : MachineData) (e : ListedEvent) : Type 0 where
  pub lock : is_gbl e.listed.event ≡ false
  pub own : is_event_of e.listed.event (own_event m) ≡ false
  pub script : RunsWell m side.Os e.script

-- there is a worker to run jobs, and every script of the machine runs well
pub record CanServe (m : MachineData) : Type 0 where
  pub some_workers : 1 ≤ m.workers
  pub events : All (IsServed m) m.events
  pub queries : All (λ q. RunsWell m side.Os q.script) (queries_in m)
  pub firmware : All (RunsWell m side.Firmware) m.firmware

-- a machine that keeps the rules can serve
abbrev pub ServesAll : Type 0
ServesAll = (m : MachineData) → IsMachine m → CanServe m
