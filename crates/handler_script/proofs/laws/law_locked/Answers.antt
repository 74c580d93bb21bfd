use Rattle.std.proofs.Common.{Bool, true, false, refl}
use Rattle.handler_script.specs.Locked.{Locked}
use Rattle.handler_script.specs.Plan.{query_plan}
use Rattle.handler_script.proofs.Locks.{plan_locked}
use Rattle.handler_script.proofs.laws.law_locked.Goals as goal

pub returns-clause-script : goal.returns-clause-script
returns-clause-script c = plan_locked

pub returns-clause-query : goal.returns-clause-query
returns-clause-query c = λ glk. query glk
  where
    query : (glk : Bool) → Locked false (query_plan glk)
    query false = (refl, refl, λ _. refl)
    query true = (refl, refl, λ _. (refl, refl, λ _. (refl, refl, λ _. refl)))
