use Rattle.std.proofs.Common.{w32}
use Rattle.std.proofs.lemmas.Nat.Bits.{bit_at-trailing_zeros}
use Rattle.event_chip.proofs.words.lowest_mark.Goals as goal

pub returns-clause-is_set : goal.returns-clause-is_set
returns-clause-is_set c = (bit_at-trailing_zeros w32 c.args.summary c.requires c.ranges.summary.fits).1

pub returns-clause-below : goal.returns-clause-below
returns-clause-below c = (bit_at-trailing_zeros w32 c.args.summary c.requires c.ranges.summary.fits).2
