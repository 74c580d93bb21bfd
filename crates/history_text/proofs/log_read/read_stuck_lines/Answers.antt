use Rattle.history_text.proofs.Steps.{stuck_step}
use Rattle.history_text.proofs.log_read.read_stuck_lines.Goals as goal

pub loop-event-preserved : goal.loop-event-preserved
loop-event-preserved c =
    stuck_step c.args.bytes.now c.loop-event.left.now c.in-Some.rest.now c.loop-event.events.items c.push.new.self.items c.in-Some.event c.loop-event.invariant c.in-Some.ensures.cases c.in_ok-push.ensures.items
