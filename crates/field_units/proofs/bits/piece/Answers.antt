use Rattle.field_units.proofs.BitFacts.{low_bits}
use Rattle.std.proofs.Common.{◌-◌, ◌/◌, ◌%◌, ◌^◌, arith, ap, ◌∙◌}
use Rattle.field_units.proofs.bits.piece.Goals as goal

pub returns : goal.returns
returns c =
    low_bits (c.from.result / 2 ^ c.args.low) (c.args.high - c.args.low) (omega arith)
    ∙ ap (λ x. x / 2 ^ c.args.low % 2 ^ (c.args.high - c.args.low)) c.from.ensures
