use Rattle.handler_script.proofs.Plans.{goes_on}
use Rattle.handler_script.proofs.laws.law_acts.Goals as goal

pub returns-clause-goes_on : goal.returns-clause-goes_on
returns-clause-goes_on c = goes_on
