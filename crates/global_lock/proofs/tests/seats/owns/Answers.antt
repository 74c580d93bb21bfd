use Rattle.global_lock.proofs.TestTurns.{owns_rests, seat_seeks}
use Rattle.global_lock.proofs.tests.seats.owns.Goals as goal

pub of-seeking-requires : goal.of-seeking-requires
of-seeking-requires g c = seat_seeks _ c.requires.0 c.requires.1 c.args.seat.now c.requires.2

pub acquire-requires-clause-table : goal.acquire-requires-clause-table
acquire-requires-clause-table g c = c.requires.2.0

pub returns : goal.returns
returns g c = λ a k h. owns_rests c.args.table.now.table.shared.table_id a c.of-seeking.result c.in-Owned.field-0 k c.args.seat.now c.acquire.new.seat c.in-Owned.ensures.same.0 c.of-seeking.ensures c.in-Owned.ensures.acquires h
