use Rattle.std.proofs.Common.{◌≡◌, ◌<◌, Some, length, slice_get, get_or, take, ◌+◌, sym, subst, ◌∙◌, arith}
use Rattle.std.proofs.lemmas.Option.{slice_get-get_or}
use Rattle.acpi_regs.specs.declared.actor.Actor.TheVariants as actor
use Rattle.machine_desc.specs.Actors.{actors_of}
use Rattle.sci_threads.specs.Actors.{core_in}
use Rattle.sci_threads.specs.Rounds.{RowDone}
use Rattle.sci_threads.proofs.Rows.{row-idle, row-moved}
use Rattle.sci_threads.proofs.rounds.round.Goals as goal
use Rattle.sci_threads.proofs.rounds.round.Goals.{then-is_stepped, else-is_stepped}

pub loop-k-preserved : goal.loop-k-preserved
loop-k-preserved c =
    let m = c.args.machine.now in
    let names = actors_of m in
    let inv = c.loop-k.invariant in
    let test = c.loop-k-test.true in
    let end = inv.end in
    let all = inv.all in
    let less : c.loop-k.k < length names = omega arith in
    let a = get_or names c.loop-k.k actor.Int in
    let at : slice_get names c.loop-k.k ≡ Some a = slice_get-get_or names c.loop-k.k actor.Int less in
    let step = c.step_at.ensures.step a at in
    let c0 = core_in c.args.world.now c.args.actors.now.items in
    let old = core_in c.loop-k.world c.loop-k.actors.items in
    let new = core_in c.step_at.new.world c.step_at.new.actors.items in
    record {
      machine = c.step_at.ensures.machine;
      actors = c.step_at.ensures.actors;
      sound = c.step_at.ensures.sound;
      end = inv.end;
      all = inv.all;
      row = elim c.if-is_stepped.branch [
        | then-is_stepped w ↦ subst (λ b. RowDone m (take (c.loop-k.k + 1) names) c0 b new) (sym w.moved-is) (row-moved m names c.loop-k.k a c0 old new c.loop-k.moved c.step_at.result at inv.row step (sym c.is_stepped.ensures ∙ w.if-is_stepped.true))
        | else-is_stepped w ↦ subst (λ b. RowDone m (take (c.loop-k.k + 1) names) c0 b new) (sym w.moved-is) (row-idle m names c.loop-k.k a c0 old new c.loop-k.moved c.step_at.result at inv.row step (sym c.is_stepped.ensures ∙ w.if-is_stepped.false))
      ];
    }
