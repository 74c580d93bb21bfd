use Rattle.std.proofs.Common.{subst}
use Rattle.machine_desc.specs.Given.{IsDescribed}
use Rattle.machine_desc.proofs.machine.Machine.law_described.Goals as goal

pub returns : goal.returns
returns c = subst IsDescribed c.self.view_is c.self.invariant.described
