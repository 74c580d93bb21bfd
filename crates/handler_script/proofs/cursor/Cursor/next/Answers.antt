use Rattle.std.proofs.Common.{◌≡◌, slice_get, sym, ap, ◌∙◌}
use Rattle.handler_script.specs.Left.{left}
use Rattle.handler_script.specs.Plan.{End, next_act}
use Rattle.handler_script.proofs.Lefts.{left_past}
use Rattle.handler_script.proofs.cursor.Cursor.next.Goals as goal

pub returns-in-None : goal.returns-in-None
returns-in-None c =
    let fields = c.args.fields.now in
    let ops = c.args.script.now in
    let d = c.begun-cursor.result in
    let over : left fields ops c.args.self.now ≡ End = sym c.begun-cursor.ensures.left ∙ left_past fields ops d (ap (λ xs. slice_get xs d.op) (sym c.ops-ops.ensures) ∙ sym c.at.ensures ∙ c.in-None.is) in
    sym (ap next_act over)
