use Rattle.std.proofs.Common.{◌≡◌, ◌*◌, ◌≤◌, take, count_by}
use Rattle.acpi_regs.specs.Event.{same_event}
use Rattle.machine_desc.proofs.tally.in_list.Given as goal

abbrev pub invariant-loop-pulse : goal.invariant-loop-pulse
invariant-loop-pulse l = record {
  value : l.sum ≡ count_by (same_event l.event) (take l.pulse-index l.pulses);
  small : l.sum ≤ 1 * l.pulse-index;
}
