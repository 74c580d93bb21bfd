use Rattle.world.proofs.Giving.{script-gives, script-stays}
use Rattle.world.proofs.laws.law_script.Goals as goal

pub returns-clause-gives : goal.returns-clause-gives
returns-clause-gives c = script-gives

pub returns-clause-stays : goal.returns-clause-stays
returns-clause-stays c = script-stays
