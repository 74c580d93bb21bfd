use Rattle.event_chip.proofs.PlaceOrder.{fresh_kept}
use Rattle.event_chip.proofs.chip.EventChip.new.Goals as goal

pub invariant_of-result : goal.invariant_of-result
invariant_of-result c = fresh_kept c.in_ok-slots.slots.items c.new.result.words c.first_slots.new.enable.words c.in_ok-slots.ensures.size c.new.ensures c.in_ok-slots.ensures.quiet c.in_ok-slots.ensures.bits
