use Rattle.machine_history.proofs.Fronts.{front_of_wire}
use Rattle.machine_history.proofs.laws.law_wire_front.Goals as goal

pub returns : goal.returns
returns c = front_of_wire
