use Rattle.std.proofs.Common.{◌≡◌, Some, slice_get, ap, sym, ◌∙◌}
use Rattle.std.proofs.lemmas.Option.{slice_get-get_or}
use Rattle.sci_threads.specs.Actors.{core_in}
use Rattle.sci_threads.proofs.RowSteps.{row-step}
use Rattle.sci_threads.proofs.rounds.step_at.Goals as goal

pub step-requires-clause-latchable : goal.step-requires-clause-latchable
step-requires-clause-latchable c = λ n is. c.law_latches.ensures.fewer c.args.machine.now (core_in c.args.world.now c.args.actors.now.items) n c.requires.sound.sound is

pub returns-clause-actors : goal.returns-clause-actors
returns-clause-actors c =
    let items = c.args.actors.now.items in
    let x = c.index_mut.result.now in
    let at : slice_get items c.args.k ≡ Some x = slice_get-get_or items c.args.k x c.requires.within ∙ ap Some (sym c.index_mut.ensures.value) in
    (row-step c.args.machine.now c.args.world.now c.step.new.world items c.args.k x c.step.new.self c.step.result c.law_gives.ensures.stepped c.law_rounds.ensures.step c.law_rules.ensures c.requires.actors c.requires.sound at c.step.ensures.who c.step.ensures.gives c.step.ensures.stays).names

pub returns-clause-sound : goal.returns-clause-sound
returns-clause-sound c =
    let items = c.args.actors.now.items in
    let x = c.index_mut.result.now in
    let at : slice_get items c.args.k ≡ Some x = slice_get-get_or items c.args.k x c.requires.within ∙ ap Some (sym c.index_mut.ensures.value) in
    (row-step c.args.machine.now c.args.world.now c.step.new.world items c.args.k x c.step.new.self c.step.result c.law_gives.ensures.stepped c.law_rounds.ensures.step c.law_rules.ensures c.requires.actors c.requires.sound at c.step.ensures.who c.step.ensures.gives c.step.ensures.stays).sound

pub returns-clause-step : goal.returns-clause-step
returns-clause-step c =
    let items = c.args.actors.now.items in
    let x = c.index_mut.result.now in
    let at : slice_get items c.args.k ≡ Some x = slice_get-get_or items c.args.k x c.requires.within ∙ ap Some (sym c.index_mut.ensures.value) in
    (row-step c.args.machine.now c.args.world.now c.step.new.world items c.args.k x c.step.new.self c.step.result c.law_gives.ensures.stepped c.law_rounds.ensures.step c.law_rules.ensures c.requires.actors c.requires.sound at c.step.ensures.who c.step.ensures.gives c.step.ensures.stays).step
