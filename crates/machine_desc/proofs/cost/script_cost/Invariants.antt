use Rattle.std.proofs.Common.{◌≡◌, ◌+◌, ◌*◌, ◌≤◌, drop, take, sum_by}
use Rattle.machine_desc.specs.Weight.{op_moves, script_size, size_from}
use Rattle.machine_desc.proofs.cost.script_cost.Given as goal

abbrev pub invariant-loop-op : goal.invariant-loop-op
invariant-loop-op l = record {
  size : l.entries + size_from l.fields l.held (drop l.op-index l.ops) ≡ script_size l.fields l.ops;
  moves : l.moves ≡ sum_by (op_moves l.fields) (take l.op-index l.ops);
  few_entries : l.entries ≤ 216 * l.op-index;
  few_moves : l.moves ≤ 65 * l.op-index;
}
