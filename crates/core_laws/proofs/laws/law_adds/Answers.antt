use Rattle.core_laws.proofs.AddTotals.{sums_adds}
use Rattle.core_laws.proofs.laws.law_adds.Goals as goal

pub returns : goal.returns
returns c = sums_adds
