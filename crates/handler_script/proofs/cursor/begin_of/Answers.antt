use Rattle.std.proofs.Common.{◌≡◌, [], false, drop, sym, ap, ◌∙◌, arith}
use Rattle.handler_script.specs.declared.stage.Stage.TheVariants as stage
use Rattle.handler_script.specs.Plan.{plan_from}
use Rattle.handler_script.proofs.Lefts.{fresh_left, fresh_placed, left_before, stands_within}
use Rattle.handler_script.proofs.cursor.begin_of.Goals as goal

pub past_skips-requires-clause-placed : goal.past_skips-requires-clause-placed
past_skips-requires-clause-placed c = ([], fresh_placed [] c.args.ops.now c.fresh_at.result 0 c.fresh_at.ensures (omega arith))

pub returns : goal.returns
returns c =
    let ops = c.args.ops.now in
    let d = c.past_skips.result in
    let held : d.held ≡ false = c.past_skips.ensures.held ∙ ap (λ x. x.held) c.fresh_at.ensures in
    let before : d.place.stage ≡ stage.Before = ap (λ p. p.stage) c.past_skips.ensures.place ∙ ap (λ x. x.place.stage) c.fresh_at.ensures in
    let last : d.place.last ≡ 0 = ap (λ p. p.last) c.past_skips.ensures.place ∙ ap (λ x. x.place.last) c.fresh_at.ensures in
    record {
      within = stands_within [] ops d (c.past_skips.ensures.placed [] (fresh_placed [] ops c.fresh_at.result 0 c.fresh_at.ensures (omega arith)));
      act = c.past_skips.ensures.act;
      same = λ fields. sym (left_before fields ops d before
          ∙ ap (λ h. plan_from fields (drop d.op ops) h d.place.last 0) held
          ∙ ap (λ l. plan_from fields (drop d.op ops) false l 0) last)
          ∙ c.past_skips.ensures.left fields
          ∙ fresh_left fields ops c.fresh_at.result 0 c.fresh_at.ensures;
    }
