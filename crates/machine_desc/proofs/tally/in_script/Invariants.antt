use Rattle.std.proofs.Common.{◌≡◌, ◌*◌, ◌≤◌, take, sum_by}
use Rattle.machine_desc.specs.Weight.{counted}
use Rattle.machine_desc.proofs.tally.in_script.Given as goal

abbrev pub invariant-loop-op : goal.invariant-loop-op
invariant-loop-op l = record {
  value : l.sum ≡ sum_by (counted l.what) (take l.op-index l.ops);
  small : l.sum ≤ 17 * l.op-index;
}
