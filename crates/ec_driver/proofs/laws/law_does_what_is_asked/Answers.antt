use Rattle.ec_driver.proofs.Turns.{does}
use Rattle.ec_driver.proofs.laws.law_does_what_is_asked.Goals as goal

pub returns : goal.returns
returns c = λ r chip turns. does r chip turns
