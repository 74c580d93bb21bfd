use Rattle.field_units.proofs.BitFacts.{or_joined}
use Rattle.std.proofs.Common.{arith}
use Rattle.field_units.proofs.bits.join.Goals as goal

pub returns : goal.returns
returns c = or_joined c.args.piece c.args.so_far c.args.before c.args.count c.requires.small (omega arith) (omega arith)
