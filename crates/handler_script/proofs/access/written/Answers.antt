use Rattle.std.proofs.Common.{◌+◌, ◌∙◌}
use Rattle.handler_script.proofs.Stages.{mod_twice}
use Rattle.handler_script.proofs.access.written.Goals as goal

pub returns-in-Add : goal.returns-in-Add
returns-in-Add c = rw c.in-Add.is (c.cut-in-Add.ensures ∙ mod_twice (c.args.last + c.in-Add.value) c.args.field.now.width c.law_fits.ensures.narrow)
