use Rattle.ec_driver.proofs.Turns.{follows}
use Rattle.ec_driver.proofs.laws.law_follows_wire.Goals as goal

pub returns : goal.returns
returns c = λ r chip turns. follows r chip turns
