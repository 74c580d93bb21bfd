use Rattle.handler_script.proofs.Costs.{costs}
use Rattle.handler_script.proofs.laws.law_costs.Goals as goal

pub returns : goal.returns
returns c = costs
