use Rattle.std.proofs.Common.{◌≡◌, map}
use Rattle.machine_desc.specs.Actors.{actors_of}
use Rattle.sci_threads.specs.Actors.{IsSound, core_in, who}
use Rattle.gate_steps.proofs.show.Given as goal

abbrev pub invariant-loop-name : goal.invariant-loop-name
invariant-loop-name g l = record {
  machine : l.world.board.machine ≡ l.machine;
  actors : map who l.actors.items ≡ actors_of l.machine;
  sound : IsSound l.machine (core_in l.world l.actors.items);
  names : l.name-items ≡ l.machine.schedule;
}
