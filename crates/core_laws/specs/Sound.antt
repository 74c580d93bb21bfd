-- When the core of a machine is sound.
use Rattle.std.specs.Prelude.{ℕ, ◌≡◌, ◌≤◌, ◌⊎◌, true, false, List, Option, Some, None, slice_get}
use Rattle.acpi_regs.specs.declared.actor.Actor.{Actor}
use Rattle.acpi_regs.specs.declared.entry.Entry.{Entry}
use Rattle.acpi_regs.specs.declared.event.Event.{Event}
use Rattle.acpi_regs.specs.Actor.{same_actor}
use Rattle.acpi_regs.specs.Core.{Core}
use Rattle.acpi_regs.specs.CoreEvents.{past_in}
use Rattle.acpi_regs.specs.CoreSound.{CoreSound}
use Rattle.handler_script.specs.Plan.{Plan, plan_after, query_plan}
use Rattle.machine_desc.specs.Kept.{own_event}
use Rattle.machine_desc.specs.Machine.{MachineData}
use Rattle.machine_history.specs.declared.parts.Job.TheVariants as job
use Rattle.machine_history.specs.Events.{status}
use Rattle.machine_history.specs.Jobs.{is_empty, jobs, running, starts}
use Rattle.machine_history.specs.Legal.{Legal}
use Rattle.machine_history.specs.Scripts.{plan_left}
use Rattle.machine_history.specs.Wire.{Open, codes, open_of}

-- ---- query codes (ACPI 6.5, section 12.3.5)

-- The request of a query job is next: its worker owns the lock, or the controller needs none.
abbrev pub IsAsking : Plan → Type 0
IsAsking p = (p ≡ plan_after 0 (query_plan true)) ⊎ (p ≡ query_plan false)

-- of its own open transaction one move was made at most, the command
abbrev pub IsEarly : Actor → Option Open → Type 0
IsEarly w None = Unit {0}
IsEarly w (Some o) = same_actor w o.by ≡ true → o.made ≤ 1

-- The Out of a query has not come: its worker has yet to own the lock that the controller needs, or it has not begun,
-- or it waits for the Out.
abbrev pub IsBeforeOut : Actor → Plan → Option Open → Type 0
IsBeforeOut w p o = (p ≡ query_plan true) ⊎ (IsAsking p × IsEarly w o)

-- a query job was made whose Out has not come: it waits for its start, or a worker runs it
abbrev pub IsAsked : MachineData → List Entry → Type 0
IsAsked m past =
    (j : ℕ) × (slice_get (jobs m past) j ≡ Some job.Query)
    × ((starts past ≤ j) ⊎ ((w : Actor) × (running past w ≡ Some j)
    × IsBeforeOut w (plan_left m past w) (open_of past)))

-- the controller's event has status
abbrev pub OwnHasStatus : MachineData → List Entry → Type 0
OwnHasStatus m past = (n : Event) × (own_event m ≡ Some n) × (status m past n ≡ true)

-- where codes wait, the controller's event has status, or a query was made whose Out has not come
abbrev pub CodesSound : MachineData → List Entry → Type 0
CodesSound m past = is_empty (codes past) ≡ false → OwnHasStatus m past ⊎ IsAsked m past

-- ---- the core

pub record Sound (m : MachineData) (c : Core) : Type 0 where
  -- its history is legal
  pub legal : Legal m c.history
  -- its word, pins, entries and phases agree
  pub core : CoreSound m.devices c
  -- no code waits for nothing
  pub codes : CodesSound m (past_in c)
