use Rattle.std.proofs.Common.{◌≡◌}
use Rattle.global_lock.specs.TestSeats.{IsIdle}
use Rattle.global_lock.proofs.tests.threads.run_one.Given as goal

abbrev pub invariant-loop-tries : goal.invariant-loop-tries
invariant-loop-tries g l = (l.at.actor ≡ l.initial.at.actor) × IsIdle l.table.table.shared.table_id l.at.actor l.at.seat
