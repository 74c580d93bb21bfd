-- Histories that leave nothing open.
use Rattle.std.specs.Prelude.{ℕ, ◌<◌, ◌≤◌, ◌≡◌, false, List, [], length, reverse, Some, None, slice_get}
use Rattle.acpi_regs.specs.declared.actor.Actor.{Actor}
use Rattle.acpi_regs.specs.declared.actor.Actor.TheVariants as actor
use Rattle.acpi_regs.specs.declared.actor.Side.{Side}
use Rattle.acpi_regs.specs.declared.entry.Entry.{Entry}
use Rattle.acpi_regs.specs.declared.event.Event.{Event}
use Rattle.acpi_regs.specs.Lock.{busies, leaves, other, owner, seeker}
use Rattle.handler_script.specs.Plan.{End}
use Rattle.machine_desc.specs.Machine.{MachineData}
use Rattle.machine_history.specs.Events.{latches, pending}
use Rattle.machine_history.specs.Jobs.{jobs, running, starts}
use Rattle.machine_history.specs.Legal.{Legal}
use Rattle.machine_history.specs.Machine.{times}
use Rattle.machine_history.specs.Scripts.{plan_left}
use Rattle.machine_history.specs.Wire.{codes, open_of}

-- No event has status and is enabled, no query code waits, every job was started and finished, no transaction is
-- open, and nobody owns the Global Lock or competes for it.
pub record Rest (m : MachineData) (past : List Entry) : Type 0 where
  pub quiet : (n : Event) → pending m past n ≡ false
  pub no_code : codes past ≡ []
  pub all_started : starts past ≡ length (jobs m past)
  pub none_runs : (a : Actor) → running past a ≡ None
  pub none_open : open_of past ≡ None
  pub no_owner : owner past ≡ None
  pub no_seeker : (s : Side) → seeker s past ≡ None

-- Legal and at rest; each firmware script has ended; each event that a device list names has a latch; each signal of
-- a side stands for a busy of the other.
pub record Complete (m : MachineData) (history : List Entry) : Type 0 where
  pub legal : Legal m history
  pub rest : Rest m (reverse history)
  pub ended : (k : ℕ) → k < length m.firmware → plan_left m (reverse history) (actor.Firmware k) ≡ End
  pub latched : (k : ℕ) (pulses : List Event) (n : Event) → slice_get m.devices k ≡ Some pulses → 0 < times n pulses
      → 0 < latches (reverse history) n
  pub signals : (s : Side) → leaves s (reverse history) ≤ busies (other s) (reverse history)
