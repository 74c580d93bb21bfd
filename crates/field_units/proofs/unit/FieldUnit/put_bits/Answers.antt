-- The bits of the field are the value's, and those beside it go by the update rule.
use Rattle.std.proofs.Common.{◌≡◌, ℕ, ◌<◌, ap, ◌∙◌}
use Rattle.std.specs.Int.{bit_at}
use Rattle.field_units.specs.Bits.{outside}
use Rattle.field_units.proofs.FieldFacts.{Merged, Placed, replaced_is}
use Rattle.field_units.proofs.unit.FieldUnit.put_bits.Goals as goal

pub returns : goal.returns
returns c =
    let at = c.place-place.ensures in
    let r = c.place-place.result in
    let place : Placed c.args.self.now c.args.k r.low r.high r.before =
    record { low_is = at.low; high_is = at.high; before_is = at.before; order = at.order } in
    let kept : (j : ℕ) → j < 8 → bit_at c.outside.result j ≡ outside c.args.self.now.update (bit_at c.args.old j) =
    λ j less. c.outside.ensures j less ∙ ap (λ f. outside f.update (bit_at c.args.old j)) c.self.view_is in
    let m = c.merge.ensures in
    let merged : Merged c.merge.result c.moved-inside.result c.outside.result r.low r.high =
    record { below = m.below; here = m.here; above = m.above } in
    replaced_is c.args.self.now c.args.k r.low r.high r.before c.args.old c.args.value c.moved-inside.result c.outside.result c.merge.result
    place c.moved-inside.ensures c.merge.type_inv merged kept
