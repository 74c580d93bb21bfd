use Rattle.run_checker.proofs.OneVerdict.{one_verdict}
use Rattle.run_checker.proofs.laws.law_one_verdict.Goals as goal

pub returns : goal.returns
returns c = one_verdict
