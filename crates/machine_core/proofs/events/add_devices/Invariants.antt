use Rattle.std.proofs.Common.{◌≡◌, ◌*◌, ◌≤◌, ℕ, take, sum_by, slice_index}
use Rattle.acpi_regs.specs.declared.event.Event.{Event}
use Rattle.machine_history.specs.Machine.{times}
use Rattle.machine_core.specs.Events.{IsEvent, unlatched_of}
use Rattle.machine_core.proofs.events.add_devices.Given as goal

abbrev pub invariant-loop-pulses : goal.invariant-loop-pulses
invariant-loop-pulses l = record {
  counts : (n : Event) → IsEvent n → unlatched_of l.counts n ≡ sum_by (times n) (take l.pulses-index l.devices);
  most : (k : ℕ) → slice_index l.counts k ≤ 4096 * l.pulses-index;
}
