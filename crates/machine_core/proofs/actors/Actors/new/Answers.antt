use Rattle.machine_core.proofs.Seats.{first_actors, none_first, one_more}
use Rattle.machine_core.proofs.actors.Actors.new.Goals as goal

pub loop-number-init : goal.loop-number-init
loop-number-init c = none_first c.on-states.result c.on-states.ensures

pub loop-number-preserved : goal.loop-number-preserved
loop-number-preserved c = one_more c.loop-number.states c.loop-number.number c.from.result c.first.result c.loop-number.invariant c.from.ensures c.loop-number-test.true c.first.ensures

pub returns : goal.returns
returns c = λ m ok. first_actors m ok c.loop-number.states c.loop-number.number c.loop-number.invariant c.loop-number-test.false
