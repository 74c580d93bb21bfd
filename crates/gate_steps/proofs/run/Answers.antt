use Rattle.std.proofs.Common.{◌≡◌, [], IfOk, ap, subst, sym, ◌∙◌}
use Rattle.acpi_regs.specs.Phases.{first_phase}
use Rattle.sci_threads.specs.Actors.{IsSound, phases_of}
use Rattle.gate_steps.proofs.run.Goals as goal

pub show-requires-clause-sound : goal.show-requires-clause-sound
show-requires-clause-sound c =
    let m = c.args.machine.now in
    let actors = c.in-Ok-Ok.actors in
    let w = c.fresh-world.result in
    let none : w.board.entries ≡ [] = ap (λ b. b.entries) (c.fresh-world.ensures.board ∙ c.in-Ok.ensures) in
    let start : phases_of actors.items ≡ first_phase = subst (λ r. IfOk r (λ a. phases_of a.items ≡ first_phase)) c.in-Ok-Ok.is-0 c.all_actors-actors.ensures.first in
    subst (IsSound m) (sym (c.law_start.ensures.first w actors.items none c.fresh-world.ensures.word c.fresh-world.ensures.pins start)) (c.law_start.ensures.sound m)
