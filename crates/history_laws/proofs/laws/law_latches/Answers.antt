use Rattle.history_laws.proofs.Consuming.{latches_from_pulses}
use Rattle.history_laws.proofs.laws.law_latches.Goals as goal

pub returns : goal.returns
returns c = latches_from_pulses
