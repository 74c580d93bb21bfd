use Rattle.std.proofs.Common.{Bool, true, false, List, refl}
use Rattle.field_units.specs.Field.{Field}
use Rattle.handler_script.specs.Marked.{Marked}
use Rattle.handler_script.specs.Plan.{query_plan}
use Rattle.handler_script.proofs.Locks.{plan_marked}
use Rattle.handler_script.proofs.laws.law_marked.Goals as goal

pub returns-clause-script : goal.returns-clause-script
returns-clause-script c = plan_marked

pub returns-clause-query : goal.returns-clause-query
returns-clause-query c = λ glk fields. query glk fields
  where
    query : (glk : Bool) (fields : List Field) → Marked glk fields false (query_plan glk)
    query false fields = (refl, refl, λ _. tt)
    query true fields = (refl, refl, λ _. (refl, refl, λ _. (refl, refl, λ _. tt)))
