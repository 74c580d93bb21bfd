use Rattle.field_units.proofs.FieldFacts.{read_is_value}
use Rattle.field_units.proofs.laws.law_read_is_value.Goals as goal

pub returns : goal.returns
returns c = read_is_value
