use Rattle.std.proofs.Common.{◌≡◌, ◌*◌, ◌≤◌, take, sum_by}
use Rattle.machine_desc.specs.Weight.{event_moves, event_size}
use Rattle.machine_desc.proofs.weight.events_cost.Given as goal

abbrev pub invariant-loop-event : goal.invariant-loop-event
invariant-loop-event l = record {
  entries : l.entries ≡ sum_by (event_size l.machine) (take l.event-index l.machine.events);
  moves : l.moves ≡ sum_by (event_moves l.machine) (take l.event-index l.machine.events);
  few_entries : l.entries ≤ 521840295936 * l.event-index;
  few_moves : l.moves ≤ 521840295936 * l.event-index;
}
