use Rattle.os_actors.proofs.Latching.{latch-legal}
use Rattle.os_actors.proofs.latches.add_latch.Goals as goal

pub apply-requires : goal.apply-requires
apply-requires c = latch-legal c.args.board.now.machine c.args.board.now.entries c.args.actor c.args.event c.law_legal.ensures c.requires.host c.requires.pulsed
