use Rattle.std.proofs.Common.{ap, get_or, ◌∙◌}
use Rattle.std.proofs.lemmas.Result.{IfOk-weaker}
use Rattle.machine_core.proofs.Places.{zeros}
use Rattle.machine_core.proofs.events.no_pulses.Goals as goal

pub returns-clause-counts : goal.returns-clause-counts
returns-clause-counts c = IfOk-weaker c.vec.result _ _ (λ v all k. ap (λ l. get_or l k 0) (all (λ y e. e)) ∙ zeros 261 k) c.vec.ensures.items_if_clones_equal
