use Rattle.history_laws.proofs.CodeOrder.{codes_in_order, runs_as_given}
use Rattle.history_laws.proofs.laws.law_codes_in_order.Goals as goal

pub returns-clause-pushed : goal.returns-clause-pushed
returns-clause-pushed c = codes_in_order

pub returns-clause-runs : goal.returns-clause-runs
returns-clause-runs c = runs_as_given
