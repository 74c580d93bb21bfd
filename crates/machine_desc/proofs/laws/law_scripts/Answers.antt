use Rattle.machine_desc.proofs.Scripts.{can_serve}
use Rattle.machine_desc.proofs.laws.law_scripts.Goals as goal

pub returns : goal.returns
returns c = can_serve
