use Rattle.field_units.proofs.FieldFacts.{written_bits}
use Rattle.field_units.proofs.laws.law_written_bits.Goals as goal

pub returns : goal.returns
returns c = written_bits
