use Rattle.std.proofs.lemmas.Nat.Bits.{bit_at_ones}
use Rattle.field_units.proofs.bits.outside.Goals as goal

pub returns-in-WriteAsOnes : goal.returns-in-WriteAsOnes
returns-in-WriteAsOnes c = rw c.in-WriteAsOnes.is (λ j less. bit_at_ones 8 j less)
