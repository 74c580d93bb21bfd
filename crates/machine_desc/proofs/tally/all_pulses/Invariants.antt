use Rattle.std.proofs.Common.{◌≡◌, ◌*◌, ◌≤◌, take, sum_by, length}
use Rattle.machine_desc.proofs.tally.all_pulses.Given as goal

abbrev pub invariant-loop-pulses : goal.invariant-loop-pulses
invariant-loop-pulses l = record {
  value : l.sum ≡ sum_by length (take l.pulses-index l.devices);
  small : l.sum ≤ 4096 * l.pulses-index;
}
