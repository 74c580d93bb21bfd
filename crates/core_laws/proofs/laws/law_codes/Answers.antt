use Rattle.core_laws.proofs.Starting.{started_given}
use Rattle.core_laws.proofs.laws.law_codes.Goals as goal

pub returns : goal.returns
returns c = started_given
