use Rattle.handler_script.proofs.Exact.{acts}
use Rattle.handler_script.proofs.laws.law_equality.Goals as goal

pub returns-clause-act : goal.returns-clause-act
returns-clause-act c = acts
