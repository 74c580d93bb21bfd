use Rattle.std.proofs.Common.{◌≡◌, Some, get_or, slice_get, take, ap, sym, ◌∙◌}
use Rattle.std.proofs.lemmas.Option.{slice_get-get_or}
use Rattle.acpi_regs.specs.declared.actor.Actor.TheVariants as actor
use Rattle.machine_history.specs.Played.{stepped, steps}
use Rattle.sci_threads.specs.Actors.{core_in}
use Rattle.sci_threads.proofs.Rows.{steps-next, take-next}
use Rattle.sci_threads.proofs.rounds.make_steps.Goals as goal

pub loop-name-preserved : goal.loop-name-preserved
loop-name-preserved c =
    let m = c.args.machine.now in
    let items = c.schedule-name-items.result.now in
    let i = c.loop-name.name-index in
    let inv = c.loop-name.invariant in
    let name = get_or items i actor.Int in
    let at : slice_get m.schedule i ≡ Some name = ap (λ l. slice_get l i) (sym inv.names) ∙ slice_get-get_or items i actor.Int c.loop-name-test.true in
    let c0 = core_in c.args.world.now c.args.actors.now.items in
    record {
      machine = c.step_of.ensures.machine;
      actors = c.step_of.ensures.actors;
      sound = c.step_of.ensures.sound;
      names = inv.names;
      steps = c.step_of.ensures.step.leads ∙ (ap (λ x. stepped m x name) inv.steps ∙ (sym (steps-next m (take i m.schedule) name c0) ∙ ap (λ l. steps m l c0) (sym (take-next m.schedule i name at))));
    }
