use Rattle.std.proofs.Common.{sym, ◌∙◌}
use Rattle.machine_core.proofs.Places.{event_found, event_passed}
use Rattle.machine_core.proofs.course.event_place.Goals as goal

pub returns-then-same_event : goal.returns-then-same_event
returns-then-same_event c = event_found c.args.events.now c.args.event c.loop-place.place c.index-events-place.result c.loop-place-test.true c.index-events-place.is (sym c.same_event.ensures ∙ c.if-same_event.true) c.loop-place.invariant

pub loop-place-preserved : goal.loop-place-preserved
loop-place-preserved c = event_passed c.args.events.now c.args.event c.loop-place.place c.index-events-place.result c.loop-place-test.true c.index-events-place.is (sym c.same_event.ensures ∙ c.if-same_event.false) c.loop-place.invariant
