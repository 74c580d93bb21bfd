use Rattle.event_chip.proofs.Touches.{keeps_raise}
use Rattle.event_chip.proofs.laws.law_raise_kept.Goals as goal

pub returns : goal.returns
returns c = keeps_raise
