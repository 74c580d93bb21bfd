use Rattle.run_checker.proofs.Completing.{completed, none_has}
use Rattle.run_checker.proofs.laws.law_none_unfinished.Goals as goal

pub returns : goal.returns
returns c m history ok legal = (λ whole k a here has. none_has m history whole a has.0 has.1, λ none. completed m ok history legal none)
