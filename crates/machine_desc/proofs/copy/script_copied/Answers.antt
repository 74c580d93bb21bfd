use Rattle.std.proofs.Common.{List, subst, sym, ◌∙◌}
use Rattle.handler_script.specs.declared.op.Op.{Op}
use Rattle.handler_script.specs.Accepts.{Accepted}
use Rattle.machine_desc.proofs.copy.script_copied.Goals as goal

pub of_tested-requires : goal.of_tested-requires
of_tested-requires c =
    (c.args.fields.now, subst (λ (ops : List Op). Accepted c.args.fields.now ops) (sym (c.in_ok-ops.ensures.items ∙ c.ops.ensures)) c.requires)
