use Rattle.std.proofs.Common.{◌≡◌, ◌≤◌, ◌<◌, ℕ, ◌+◌, drop, length, sym, ap, ◌∙◌, arith}
use Rattle.std.proofs.lemmas.Option.{slice_get_within}
use Rattle.handler_script.specs.Left.{rest_of_op}
use Rattle.handler_script.specs.Plan.{plan_after, plan_from}
use Rattle.handler_script.proofs.Lefts.{entered_ready, field_left, left_before, plain_left, stands_entered, stands_from, stands_where}
use Rattle.handler_script.proofs.Sounds.{plain_named}
use Rattle.handler_script.proofs.cursor.Cursor.after.Goals as goal

pub started-place-requires-clause-entered : goal.started-place-requires-clause-entered
started-place-requires-clause-entered c = stands_entered c.args.fields.now c.args.ops.now c.args.self.now c.args.op c.in-Some.field c.requires.at (sym c.field_of.ensures ∙ c.in-Some.is) c.requires.placed

pub held_after-requires-clause-access : goal.held_after-requires-clause-access
held_after-requires-clause-access c = plain_named c.args.fields.now c.args.ops.now c.args.self.now.op c.args.op c.requires.accepted c.requires.at (sym c.field_of.ensures ∙ c.in-None.is)

pub past_op-requires : goal.past_op-requires
past_op-requires c =
    let within : c.args.self.now.op < length c.args.ops.now = slice_get_within c.args.ops.now c.args.self.now.op c.args.op c.requires.at in
    omega (arith, c.requires.accepted.short)

pub past_op-requires-in-None : goal.past_op-requires-in-None
past_op-requires-in-None c =
    let within : c.args.self.now.op < length c.args.ops.now = slice_get_within c.args.ops.now c.args.self.now.op c.args.op c.requires.at in
    omega (arith, c.requires.accepted.short)

pub returns-in-Done-clause-placed : goal.returns-in-Done-clause-placed
returns-in-Done-clause-placed c =
    let within : c.args.self.now.op < length c.args.ops.now = slice_get_within c.args.ops.now c.args.self.now.op c.args.op c.requires.at in
    let op_is : c.past_op.result.op ≡ c.args.self.now.op + 1 = ap (λ d. d.op) c.past_op.ensures in
    let inside : c.past_op.result.op ≤ length c.args.ops.now = omega arith in
    stands_from c.args.fields.now c.args.ops.now c.past_op.result inside (ap (λ d. d.place.stage) c.past_op.ensures)

pub returns-in-Done-clause-left : goal.returns-in-Done-clause-left
returns-in-Done-clause-left c =
    let fields = c.args.fields.now in
    let ops = c.args.ops.now in
    let self = c.args.self.now in
    let field = c.in-Some.field in
    let o = c.args.op in
    let next = λ (value : ℕ). plan_from fields (drop (self.op + 1) ops) self.held value 0 in
    left_before fields ops c.past_op.result (ap (λ d. d.place.stage) c.past_op.ensures)
    ∙ ap (λ d. plan_from fields (drop d.op ops) d.held d.place.last 0) c.past_op.ensures
    ∙ ap (λ s. rest_of_op o field self.held s c.settled-place.result.last next) (sym c.in-Done.is)
    ∙ c.settled-place.ensures.same next
    ∙ c.passed-place.ensures.same next
    ∙ ap (plan_after c.args.byte) (c.started-place.ensures.same next ∙ sym (field_left fields ops self o field c.requires.at (sym c.field_of.ensures ∙ c.in-Some.is)))

pub returns-in_default : goal.returns-in_default
returns-in_default c =
    let fields = c.args.fields.now in
    let ops = c.args.ops.now in
    let self = c.args.self.now in
    let field = c.in-Some.field in
    let o = c.args.op in
    let next = λ (value : ℕ). plan_from fields (drop (self.op + 1) ops) self.held value 0 in
    let within : self.op < length ops = slice_get_within ops self.op o c.requires.at in
    record {
      placed = stands_where fields ops _ o field c.requires.at (sym c.field_of.ensures ∙ c.in-Some.is) (omega arith)
          (entered_ready field self.held c.settled-place.result.stage c.settled-place.ensures.ready c.in_default.not-Done);
      left = field_left fields ops _ o field c.requires.at (sym c.field_of.ensures ∙ c.in-Some.is)
          ∙ c.settled-place.ensures.same next
          ∙ c.passed-place.ensures.same next
          ∙ ap (plan_after c.args.byte) (c.started-place.ensures.same next ∙ sym (field_left fields ops self o field c.requires.at (sym c.field_of.ensures ∙ c.in-Some.is)));
    }

pub returns-in-None-clause-placed : goal.returns-in-None-clause-placed
returns-in-None-clause-placed c =
    let within : c.args.self.now.op < length c.args.ops.now = slice_get_within c.args.ops.now c.args.self.now.op c.args.op c.requires.at in
    let op_is : c.past_op-in-None.result.op ≡ c.args.self.now.op + 1 = ap (λ d. d.op) c.past_op-in-None.ensures in
    let inside : c.past_op-in-None.result.op ≤ length c.args.ops.now = omega arith in
    stands_from c.args.fields.now c.args.ops.now c.past_op-in-None.result inside (ap (λ d. d.place.stage) c.past_op-in-None.ensures)

pub returns-in-None-clause-left : goal.returns-in-None-clause-left
returns-in-None-clause-left c =
    let fields = c.args.fields.now in
    let ops = c.args.ops.now in
    let self = c.args.self.now in
    let d = c.past_op-in-None.result in
    left_before fields ops d (ap (λ x. x.place.stage) c.past_op-in-None.ensures)
    ∙ ap (λ x. plan_from fields (drop x.op ops) x.held x.place.last 0) c.past_op-in-None.ensures
    ∙ sym (c.held_after.ensures fields self.place.last c.args.byte (λ held last skip. plan_from fields (drop (self.op + 1) ops) held last skip))
    ∙ ap (plan_after c.args.byte) (sym (plain_left fields ops self c.args.op c.requires.at (sym c.field_of.ensures ∙ c.in-None.is)))
