use Rattle.ec_chip.proofs.CodesInOrder.{in_order}
use Rattle.ec_chip.proofs.laws.law_codes_in_order.Goals as goal

pub returns : goal.returns
returns c = λ calls chip. in_order calls chip
