use Rattle.ec_chip.proofs.BurstMode.{last_turns}
use Rattle.ec_chip.proofs.laws.law_burst_last.Goals as goal

pub returns : goal.returns
returns c = λ calls chip. last_turns calls chip
