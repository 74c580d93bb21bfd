use Rattle.std.proofs.Common.{◌≡◌, ◌*◌, ◌≤◌, take, sum_by}
use Rattle.machine_desc.specs.Weight.{script_moves, script_size}
use Rattle.machine_desc.proofs.weight.firmware_cost.Given as goal

abbrev pub invariant-loop-script : goal.invariant-loop-script
invariant-loop-script l = record {
  entries : l.entries ≡ sum_by (script_size l.fields) (take l.script-index l.machine.firmware);
  moves : l.moves ≡ sum_by (script_moves l.fields) (take l.script-index l.machine.firmware);
  few_entries : l.entries ≤ 884736 * l.script-index;
  few_moves : l.moves ≤ 266240 * l.script-index;
}
