use Rattle.std.proofs.lemmas.Result.{IfOk-weaker}
use Rattle.event_chip.proofs.Slots.{all_unknown}
use Rattle.event_chip.proofs.chip.unknown_slots.Goals as goal

pub returns-clause-slots : goal.returns-clause-slots
returns-clause-slots c = IfOk-weaker c.vec.result _ _ (λ v all. all_unknown v.items c.fresh.result c.fresh.ensures (all (λ y e. e))) c.vec.ensures.items_if_clones_equal
