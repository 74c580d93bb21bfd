use Rattle.std.proofs.Common.{ap, ◌∙◌, reverse}
use Rattle.event_chip.specs.State.{is_listed}
use Rattle.machine_core.proofs.Kept.{kind_is}
use Rattle.machine_core.proofs.board.Board.lists.Goals as goal

pub returns : goal.returns
returns c =
    let b = c.self.inside in
    rw (← c.self.view_is) (c.is_listed.ensures ∙ ap is_listed (ap (λ s. s.kind) (c.slot.ensures ∙ c.self.invariant.events_are.slots_are c.args.event) ∙ kind_is b.machine (reverse b.journal.items) c.args.event))
