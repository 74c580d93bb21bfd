use Rattle.ec_chip.proofs.Status.{tells}
use Rattle.ec_chip.proofs.laws.law_status.Goals as goal

pub returns : goal.returns
returns c = λ chip. tells chip
