use Rattle.std.proofs.Common.{◌≡◌, ◌*◌, ◌≤◌, take, sum_by, count_by}
use Rattle.acpi_regs.specs.Event.{same_event}
use Rattle.machine_desc.proofs.tally.in_devices.Given as goal

abbrev pub invariant-loop-pulses : goal.invariant-loop-pulses
invariant-loop-pulses l = record {
  value : l.sum ≡ sum_by (count_by (same_event l.event)) (take l.pulses-index l.devices);
  small : l.sum ≤ 4096 * l.pulses-index;
}
