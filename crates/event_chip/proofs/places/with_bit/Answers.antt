use Rattle.std.proofs.Common.{◌^◌, ◌*◌, ◌%◌, w16}
use Rattle.std.specs.Int.{bit_not}
use Rattle.event_chip.proofs.PlaceBits.{and_shrinks, bit_set, bit_cleared, set_grows}
use Rattle.event_chip.proofs.places.with_bit.Goals as goal

pub returns-then-is_in-clause-bits : goal.returns-then-is_in-clause-bits
returns-then-is_in-clause-bits c = λ i l. rw c.if-is_in.true (bit_set c.args.word c.args.bit i c.requires l)

pub returns-then-is_in-clause-grows : goal.returns-then-is_in-clause-grows
returns-then-is_in-clause-grows c = λ is. set_grows c.args.word c.args.bit c.requires

pub returns-else-is_in-clause-bits : goal.returns-else-is_in-clause-bits
returns-else-is_in-clause-bits c = λ i l. rw c.if-is_in.false (bit_cleared c.args.word c.args.bit i c.requires l)

pub returns-else-is_in-clause-shrinks : goal.returns-else-is_in-clause-shrinks
returns-else-is_in-clause-shrinks c = λ is. and_shrinks c.args.word (bit_not w16 (1 * 2 ^ c.args.bit % 2 ^ 16))
