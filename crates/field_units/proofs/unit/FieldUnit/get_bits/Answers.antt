-- The piece stands behind the bits of the bytes before.
use Rattle.std.proofs.Common.{◌+◌, ◌*◌, ◌%◌, ◌^◌, ap, ◌∙◌}
use Rattle.field_units.proofs.FieldFacts.{Placed, joined_is}
use Rattle.field_units.proofs.unit.FieldUnit.get_bits.Goals as goal

pub returns : goal.returns
returns c =
    let at = c.place-place.ensures in
    let r = c.place-place.result in
    let place : Placed c.args.self.now c.args.k r.low r.high r.before =
    record { low_is = at.low; high_is = at.high; before_is = at.before; order = at.order } in
    c.join.ensures
    ∙ ap (λ x. x * 2 ^ r.before + c.args.so_far % 2 ^ r.before) c.piece-found.ensures
    ∙ joined_is c.args.self.now c.args.k r.low r.high r.before c.args.byte c.args.so_far place
