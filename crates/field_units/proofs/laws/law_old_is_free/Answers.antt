use Rattle.field_units.proofs.FieldFacts.{old_is_free}
use Rattle.field_units.proofs.laws.law_old_is_free.Goals as goal

pub returns : goal.returns
returns c = old_is_free
