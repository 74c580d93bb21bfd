use Rattle.machine_history.proofs.Owning.{steps_by_hosts}
use Rattle.machine_history.proofs.laws.law_steps.Goals as goal

pub returns : goal.returns
returns c = steps_by_hosts
