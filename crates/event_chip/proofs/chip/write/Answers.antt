use Rattle.event_chip.specs.Kept.{enables}
use Rattle.event_chip.proofs.PlaceOrder.{bit_kept}
use Rattle.event_chip.proofs.chip.write.Goals as goal

pub returns-clause-bits : goal.returns-clause-bits
returns-clause-bits c =
    λ old. bit_kept enables c.args.slots.now c.args.enable.now.words c.set.new.self.words c.args.event c.rank_of.result c.place_at.result c.args.slot c.is_enabled.result c.requires.size c.rank_of.ensures.value c.rank_of.ensures.bound c.place_at.ensures.value c.is_enabled.ensures c.set.ensures.bits old
