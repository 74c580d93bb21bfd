use Rattle.std.proofs.Common.{◌≡◌, take}
use Rattle.machine_desc.proofs.copy.events_copied.Given as goal

abbrev pub invariant-loop-event : goal.invariant-loop-event
invariant-loop-event l = l.copies.items ≡ take l.event-index l.machine.events
