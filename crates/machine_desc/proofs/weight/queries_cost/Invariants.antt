use Rattle.std.proofs.Common.{◌≡◌, ◌*◌, ◌≤◌, take, sum_by}
use Rattle.machine_desc.specs.Kept.{queries_in}
use Rattle.machine_desc.specs.Weight.{query_moves, query_size}
use Rattle.machine_desc.proofs.weight.queries_cost.Given as goal

abbrev pub invariant-loop-query : goal.invariant-loop-query
invariant-loop-query l = record {
  entries : l.entries ≡ sum_by (query_size l.machine) (take l.query-index (queries_in l.machine));
  moves : l.moves ≡ sum_by (query_moves l.machine) (take l.query-index (queries_in l.machine));
  few_entries : l.entries ≤ 521840295936 * l.query-index;
  few_moves : l.moves ≤ 521840295936 * l.query-index;
}
