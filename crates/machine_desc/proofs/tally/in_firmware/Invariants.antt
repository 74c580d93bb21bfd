use Rattle.std.proofs.Common.{◌≡◌, ◌*◌, ◌≤◌, take, sum_by}
use Rattle.machine_desc.specs.Weight.{in_script}
use Rattle.machine_desc.proofs.tally.in_firmware.Given as goal

abbrev pub invariant-loop-script : goal.invariant-loop-script
invariant-loop-script l = record {
  value : l.sum ≡ sum_by (in_script l.what) (take l.script-index l.firmware);
  small : l.sum ≤ 69632 * l.script-index;
}
