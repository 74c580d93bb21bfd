use Rattle.world.proofs.PinSets.{pin_set}
use Rattle.world.proofs.pins.set.Goals as goal

pub returns-clause-pins : goal.returns-clause-pins
returns-clause-pins c = pin_set c.args.pins.now c.put.new.self c.args.event c.law_event.ensures c.put.ensures
