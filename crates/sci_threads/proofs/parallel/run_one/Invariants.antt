use Rattle.std.proofs.Common.{◌≡◌, ◌+◌}
use Rattle.lock_table.specs.Calls.{SameSeat}
use Rattle.sci_threads.specs.Actors.{who}
use Rattle.sci_threads.specs.Shared.{Agrees, steps_in}
use Rattle.sci_threads.proofs.parallel.run_one.Given as goal

abbrev pub invariant-loop-made : goal.invariant-loop-made
invariant-loop-made g l = record {
  same_actor : who l.at.actor ≡ who l.initial.at.actor;
  same_seat : SameSeat l.initial.at.seat l.at.seat;
  agrees : Agrees l.table.table.shared.table_id l.at;
  told : steps_in l.at.seat.view.who ≡ steps_in l.initial.at.seat.view.who + l._made;
}
