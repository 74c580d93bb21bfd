use Rattle.field_units.proofs.FieldFacts.{holds_bits}
use Rattle.field_units.proofs.laws.law_holds_bits.Goals as goal

pub returns : goal.returns
returns c = holds_bits
