use Rattle.machine_history.proofs.Whole.{weight_bounds}
use Rattle.core_laws.proofs.laws.law_weight.Goals as goal

pub returns-clause-legal : goal.returns-clause-legal
returns-clause-legal c = weight_bounds

pub returns-clause-sound : goal.returns-clause-sound
returns-clause-sound c = λ m core ok h. weight_bounds m core.history ok h.legal
