use Rattle.std.proofs.Common.{subst}
use Rattle.machine_desc.specs.Kept.{IsMachine}
use Rattle.machine_desc.proofs.Ruled.{ruled}
use Rattle.machine_desc.proofs.machine.Machine.law_rules.Goals as goal

pub returns : goal.returns
returns c = subst IsMachine c.self.view_is (ruled _ c.self.invariant.described)
