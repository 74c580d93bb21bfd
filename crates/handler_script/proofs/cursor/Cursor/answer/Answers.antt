use Rattle.std.proofs.Common.{◌≡◌, true, slice_get, subst, unwrap_or, sym, ap, ◌∙◌}
use Rattle.handler_script.specs.Left.{left, stands}
use Rattle.handler_script.specs.Plan.{End, plan_after}
use Rattle.handler_script.proofs.Lefts.{left_past, stands_past}
use Rattle.handler_script.proofs.cursor.Cursor.answer.Goals as goal

pub returns-in_default-clause-left : goal.returns-in_default-clause-left
returns-in_default-clause-left c =
    let fields = c.args.fields.now in
    let ops = c.args.script.now in
    let d = c.begun-cursor.result in
    let over : left fields ops c.args.self.now ≡ End = sym c.begun-cursor.ensures.left ∙ left_past fields ops d (ap (λ xs. slice_get xs d.op) (sym c.ops-ops.ensures) ∙ sym c.at.ensures ∙ c.in_default.is) in
    over ∙ ap (plan_after (unwrap_or c.args.byte 0)) (sym over)

pub returns-in-Some-clause-stands : goal.returns-in-Some-clause-stands
returns-in-Some-clause-stands c =
    let d = c.past_skips.result in
    subst (λ ops. stands c.args.fields.now ops d ≡ true) c.ops-ops.ensures (stands_past c.args.fields.now c.ops-ops.result.now d (c.past_skips.ensures.placed c.args.fields.now c.after-cursor.ensures.placed) c.past_skips.ensures.act)
