use Rattle.std.proofs.Common.{◌≡◌, map}
use Rattle.machine_desc.specs.Actors.{actors_of}
use Rattle.sci_threads.specs.Actors.{IsSound, core_in, who}
use Rattle.core_laws.specs.Rounds.{to_come}
use Rattle.sci_threads.proofs.Rows.{Rounded}
use Rattle.sci_threads.proofs.rounds.drain.Given as goal

abbrev pub invariant-loop : goal.invariant-loop
invariant-loop l = record {
  machine : l.world.board.machine ≡ l.machine;
  actors : map who l.actors.items ≡ actors_of l.machine;
  sound : IsSound l.machine (core_in l.world l.actors.items);
  rounds : Rounded l.machine (core_in l.initial.world l.initial.actors.items) (core_in l.world l.actors.items);
}

abbrev pub decreases-loop : goal.decreases-loop
decreases-loop l = to_come l.machine (core_in l.world l.actors.items)
