use Rattle.event_chip.proofs.Touches.{level_stays}
use Rattle.event_chip.proofs.laws.law_line.Goals as goal

pub returns-clause-stays : goal.returns-clause-stays
returns-clause-stays c = level_stays
