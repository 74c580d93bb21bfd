use Rattle.std.proofs.Common.{◌/◌, rules}
use Rattle.event_chip.proofs.PlaceBits.{set_down, set_has, set_up}
use Rattle.event_chip.proofs.places.Places.set.Goals as goal

pub returns-clause-bits : goal.returns-clause-bits
returns-clause-bits c = set_has c.args.self.now.words c.args.place c.with_bit.result c.args.is_in c.requires (search rules) c.with_bit.ensures.bits

pub returns-clause-grows : goal.returns-clause-grows
returns-clause-grows c = λ is. set_up c.args.self.now.words (c.args.place / 16) c.with_bit.result (search rules) (c.with_bit.ensures.grows is)

pub returns-clause-shrinks : goal.returns-clause-shrinks
returns-clause-shrinks c = λ is. set_down c.args.self.now.words (c.args.place / 16) c.with_bit.result (search rules) (c.with_bit.ensures.shrinks is)
