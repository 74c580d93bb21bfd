use Rattle.std.proofs.Common.{◌≡◌, map, take}
use Rattle.machine_desc.specs.Actors.{actors_of}
use Rattle.machine_history.specs.Played.{steps}
use Rattle.sci_threads.specs.Actors.{IsSound, core_in, who}
use Rattle.sci_threads.proofs.rounds.make_steps.Given as goal

abbrev pub invariant-loop-name : goal.invariant-loop-name
invariant-loop-name l = record {
  machine : l.world.board.machine ≡ l.machine;
  actors : map who l.actors.items ≡ actors_of l.machine;
  sound : IsSound l.machine (core_in l.world l.actors.items);
  names : l.name-items ≡ l.machine.schedule;
  steps : core_in l.world l.actors.items ≡ steps l.machine (take l.name-index l.machine.schedule) (core_in l.initial.world l.initial.actors.items);
}
