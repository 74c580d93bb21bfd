use Rattle.machine_history.proofs.Whole.{weight_bounds}
use Rattle.machine_history.proofs.laws.law_weight.Goals as goal

pub returns : goal.returns
returns c = weight_bounds
