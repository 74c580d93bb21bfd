use Rattle.std.proofs.Common.{◌≡◌, true, refl, ap, subst, sym, ◌∙◌}
use Rattle.acpi_regs.specs.Core.{events_of}
use Rattle.world.specs.Duties.{AreLatchable, pinned}
use Rattle.world.proofs.Turns.{collected-latchable, nothing_collected, same-machine}
use Rattle.world.proofs.serial.SerialWorldWorld.turn.Goals as goal

pub act-requires-clause-alone : goal.act-requires-clause-alone
act-requires-clause-alone g c = λ other. ap events_of c.sweep-bits.ensures.taken ∙ nothing_collected c.args.collect (pinned c.self.inside.words.pins) (c.requires.collects other)

pub act-requires-clause-latchable : goal.act-requires-clause-latchable
act-requires-clause-latchable g c =
    let b = c.self.inside.board in
    let pins = pinned c.self.inside.words.pins in
    let may : c.args.collect ≡ true → AreLatchable b.machine b.entries pins = rw (← c.self.view_is) at c.requires.may in
    subst (AreLatchable b.machine b.entries) (sym c.sweep-bits.ensures.taken) (collected-latchable b.machine b.entries c.args.collect pins may)

pub returns-clause-says : goal.returns-clause-says
returns-clause-says g c =
    let b = c.self.inside.board in
    let taken = ap events_of c.sweep-bits.ensures.taken in
    rw (← c.self.view_is) (
      b.entries,
      c.act.new.board.entries,
      events_of (pinned c.sweep-bits.result),
      (λ off. taken ∙ nothing_collected c.args.collect (pinned c.self.inside.words.pins) off),
      (refl, taken, (same-machine b c.act.new.board c.act.ensures.machine, refl, c.sweep-bits.ensures.left)),
      c.act.ensures.does,
    )
