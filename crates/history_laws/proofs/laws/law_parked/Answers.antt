use Rattle.std.proofs.Common.{reverse}
use Rattle.history_laws.proofs.Parking.{parks}
use Rattle.history_laws.proofs.laws.law_parked.Goals as goal

pub returns : goal.returns
returns c = λ m n history. parks m n (reverse history)
