use Rattle.std.proofs.Common.{ℕ, ◌+◌, drop, sym, ap, ◌∙◌}
use Rattle.handler_script.specs.Plan.{next_act, plan_from}
use Rattle.handler_script.proofs.Lefts.{field_left, plain_left, stands_entered}
use Rattle.handler_script.proofs.Sounds.{plain_named}
use Rattle.handler_script.proofs.cursor.Cursor.act_of.Goals as goal

pub started-place-requires-clause-entered : goal.started-place-requires-clause-entered
started-place-requires-clause-entered c = stands_entered c.args.fields.now c.args.ops.now c.args.self.now c.args.op c.in-Some.field c.requires.at (sym c.field_of.ensures ∙ c.in-Some.is) c.requires.placed

pub plain_act-requires-clause-access : goal.plain_act-requires-clause-access
plain_act-requires-clause-access c = plain_named c.args.fields.now c.args.ops.now c.args.self.now.op c.args.op c.requires.accepted c.requires.at (sym c.field_of.ensures ∙ c.in-None.is)

pub returns-in-Some : goal.returns-in-Some
returns-in-Some c =
    let fields = c.args.fields.now in
    let ops = c.args.ops.now in
    let self = c.args.self.now in
    let next = λ (value : ℕ). plan_from fields (drop (self.op + 1) ops) self.held value 0 in
    ap next_act (field_left fields ops self c.args.op c.in-Some.field c.requires.at (sym c.field_of.ensures ∙ c.in-Some.is))
    ∙ ap next_act (sym (c.started-place.ensures.same next))
    ∙ c.act.ensures next

pub returns-in-None : goal.returns-in-None
returns-in-None c =
    let fields = c.args.fields.now in
    let ops = c.args.ops.now in
    let self = c.args.self.now in
    ap next_act (plain_left fields ops self c.args.op c.requires.at (sym c.field_of.ensures ∙ c.in-None.is))
    ∙ c.plain_act.ensures fields self.held self.place.last (λ held last skip. plan_from fields (drop (self.op + 1) ops) held last skip)
