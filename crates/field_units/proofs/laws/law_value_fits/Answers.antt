use Rattle.field_units.proofs.FieldFacts.{value_fits}
use Rattle.field_units.proofs.laws.law_value_fits.Goals as goal

pub returns : goal.returns
returns c = value_fits
