use Rattle.event_chip.specs.Chip.{slot_of}
use Rattle.event_chip.proofs.Slots.{listed_back}
use Rattle.event_chip.proofs.chip.write_listed.Goals as goal

pub loop-written-preserved : goal.loop-written-preserved
loop-written-preserved c = (
  λ q. c.write.ensures.quiet (c.loop-written.invariant.0 q),
  λ q. c.write.ensures.bits (c.loop-written.invariant.1 q),
  λ n. listed_back c.args.listed.now c.loop-written.written _ n (slot_of c.args.slots.now n) (slot_of c.loop-written.slots n) c.listed.result (slot_of c.write.new.slots n) c.loop-written-test.true c.listed.ensures (c.write.ensures.slots n) (c.loop-written.invariant.2 n),
)
