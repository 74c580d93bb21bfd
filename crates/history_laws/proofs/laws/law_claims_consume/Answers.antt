use Rattle.history_laws.proofs.Consuming.{claims_consume}
use Rattle.history_laws.proofs.laws.law_claims_consume.Goals as goal

pub returns : goal.returns
returns c = claims_consume
