use Rattle.std.proofs.Common.{slice_get, sym, ap, ◌∙◌}
use Rattle.handler_script.specs.Left.{is_skip}
use Rattle.handler_script.proofs.Lefts.{fresh_left, fresh_placed, left_new, stands_placed}
use Rattle.handler_script.proofs.cursor.Cursor.begun.Goals as goal

pub returns-in-Some-Skip-clause-placed : goal.returns-in-Some-Skip-clause-placed
returns-in-Some-Skip-clause-placed c = fresh_placed c.args.fields.now c.args.script.now c.fresh_at.result c.begin.result c.fresh_at.ensures c.begin.ensures.within

pub returns-in-Some-Skip-clause-left : goal.returns-in-Some-Skip-clause-left
returns-in-Some-Skip-clause-left c =
    let fields = c.args.fields.now in
    let ops = c.args.script.now in
    let self = c.args.self.now in
    let at = ap (λ xs. slice_get xs self.op) (sym c.ops.ensures) ∙ sym c.at.ensures ∙ c.in-Some-Skip.is in
    fresh_left fields ops c.fresh_at.result c.begin.result c.fresh_at.ensures ∙ c.begin.ensures.same fields ∙ sym (left_new fields ops self _ at (ap is_skip c.in-Some-Skip.field-0-is) c.requires.stands)

pub returns-in_default-clause-placed : goal.returns-in_default-clause-placed
returns-in_default-clause-placed c = stands_placed c.args.fields.now c.args.script.now c.args.self.now c.requires.stands
