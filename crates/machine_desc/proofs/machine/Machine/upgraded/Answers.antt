use Rattle.machine_desc.proofs.Upgrading.{upgraded}
use Rattle.machine_desc.proofs.machine.Machine.upgraded.Goals as goal

pub invariant_of-result : goal.invariant_of-result
invariant_of-result c = rw c.upgraded_controller-controller.ensures (upgraded c.copy.inside.acting _ c.copy.invariant)
