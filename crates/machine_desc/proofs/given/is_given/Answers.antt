use Rattle.machine_desc.proofs.Forms.{given}
use Rattle.machine_desc.proofs.given.is_given.Goals as goal

pub returns : goal.returns
returns c = given c.args.parts.now c.passes.result c.passes.ensures
