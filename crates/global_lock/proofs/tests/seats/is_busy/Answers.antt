use Rattle.global_lock.proofs.TestTurns.{seat_seeks}
use Rattle.global_lock.proofs.tests.seats.is_busy.Goals as goal

pub of-seeking-requires : goal.of-seeking-requires
of-seeking-requires g c = seat_seeks _ c.requires.0 c.requires.1 c.args.seat.now c.requires.2

pub acquire-requires-clause-table : goal.acquire-requires-clause-table
acquire-requires-clause-table g c = c.requires.2.0
