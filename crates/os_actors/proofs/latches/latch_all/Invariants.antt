use Rattle.world.specs.Duties.{pinned}
use Rattle.os_actors.proofs.Latching.{Latching}
use Rattle.os_actors.proofs.latches.latch_all.Given as goal

abbrev pub invariant-loop-place : goal.invariant-loop-place
invariant-loop-place l = Latching l.initial.board l.actor (pinned l.bits) l.place l.board l.latched
