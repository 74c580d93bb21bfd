use Rattle.event_chip.proofs.PlaceOrder.{unknown_shows}
use Rattle.event_chip.proofs.chip.write_known.Goals as goal

pub returns-clause-bits : goal.returns-clause-bits
returns-clause-bits c = c.write_always.ensures.bits (c.write_listed.ensures.bits (unknown_shows c.args.slots.now c.args.enable.now.words c.requires.unknown c.requires.empty))
