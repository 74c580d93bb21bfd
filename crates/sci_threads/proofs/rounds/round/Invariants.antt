use Rattle.std.proofs.Common.{◌≡◌, length, map, take}
use Rattle.machine_desc.specs.Actors.{actors_of}
use Rattle.sci_threads.specs.Actors.{IsSound, core_in, who}
use Rattle.sci_threads.specs.Rounds.{RowDone}
use Rattle.sci_threads.proofs.rounds.round.Given as goal

abbrev pub invariant-loop-k : goal.invariant-loop-k
invariant-loop-k l = record {
  machine : l.world.board.machine ≡ l.machine;
  actors : map who l.actors.items ≡ actors_of l.machine;
  sound : IsSound l.machine (core_in l.world l.actors.items);
  end : l.k-end ≡ length l.initial.actors.items;
  all : length l.initial.actors.items ≡ length (actors_of l.machine);
  row : RowDone l.machine (take l.k (actors_of l.machine)) (core_in l.initial.world l.initial.actors.items) l.moved (core_in l.world l.actors.items);
}
