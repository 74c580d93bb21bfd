use Rattle.event_chip.proofs.Touches.{holds}
use Rattle.event_chip.proofs.laws.law_enabled.Goals as goal

pub returns-clause-holds : goal.returns-clause-holds
returns-clause-holds c = holds
