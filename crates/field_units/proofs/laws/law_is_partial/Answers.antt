use Rattle.field_units.proofs.FieldFacts.{is_partial-is}
use Rattle.field_units.proofs.laws.law_is_partial.Goals as goal

pub returns : goal.returns
returns c = is_partial-is
