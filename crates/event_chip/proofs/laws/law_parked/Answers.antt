use Rattle.event_chip.proofs.Touches.{parks}
use Rattle.event_chip.proofs.laws.law_parked.Goals as goal

pub returns-clause-parks : goal.returns-clause-parks
returns-clause-parks c = parks
