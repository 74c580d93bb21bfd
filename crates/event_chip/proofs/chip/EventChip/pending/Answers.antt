use Rattle.std.proofs.Common.{◌≡◌, subst}
use Rattle.event_chip.specs.Chip.{pends}
use Rattle.event_chip.proofs.PlaceOrder.{pends_at}
use Rattle.event_chip.proofs.chip.EventChip.pending.Goals as goal

pub returns : goal.returns
returns c =
    let w = c.self.inside.words in
    subst (λ s. c.meets.result ≡ pends s c.args.event) c.self.view_is
    (pends_at c.self.inside.slots.items w.status.words w.enable.words w.summary c.args.event c.place_at.result c.meets.result c.self.invariant c.place_at.ensures.value c.place_at.ensures.bound c.meets.ensures)
