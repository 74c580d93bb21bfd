use Rattle.field_units.proofs.FieldFacts.{nine_bytes}
use Rattle.field_units.proofs.laws.law_nine_bytes.Goals as goal

pub returns : goal.returns
returns c = nine_bytes
