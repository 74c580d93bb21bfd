use Rattle.std.proofs.Common.{◌≡◌, drop}
use Rattle.machine_history.specs.Machine.{script_in}
use Rattle.machine_core.proofs.course.event_place.Given as goal

abbrev pub invariant-loop-place : goal.invariant-loop-place
invariant-loop-place l = script_in (drop l.place l.events) l.event ≡ script_in l.events l.event
