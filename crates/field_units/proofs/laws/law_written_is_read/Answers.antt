use Rattle.field_units.proofs.FieldFacts.{written_is_read}
use Rattle.field_units.proofs.laws.law_written_is_read.Goals as goal

pub returns : goal.returns
returns c = written_is_read
