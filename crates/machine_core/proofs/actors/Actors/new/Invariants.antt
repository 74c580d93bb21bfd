use Rattle.machine_core.proofs.Seats.{AreFirst}
use Rattle.machine_core.proofs.actors.Actors.new.Given as goal

abbrev pub invariant-loop-number : goal.invariant-loop-number
invariant-loop-number l = AreFirst l.states l.number
