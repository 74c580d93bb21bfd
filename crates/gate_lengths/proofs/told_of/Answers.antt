use Rattle.std.proofs.Common.{◌≡◌, [], ap, subst, sym, ◌∙◌}
use Rattle.sci_threads.specs.Actors.{IsSound}
use Rattle.gate_lengths.proofs.told_of.Goals as goal

pub play-requires-clause-sound : goal.play-requires-clause-sound
play-requires-clause-sound c =
    let m = c.args.machine.now in
    let w = c.fresh-world.result in
    let none : w.board.entries ≡ [] = ap (λ b. b.entries) (c.fresh-world.ensures.board ∙ c.in-Ok-new.ensures) in
    subst (IsSound m) (sym (c.law_start.ensures.first w c.in-Ok.actors.items none c.fresh-world.ensures.word c.fresh-world.ensures.pins c.in-Ok.ensures.first)) (c.law_start.ensures.sound m)
