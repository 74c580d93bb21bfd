use Rattle.acpi_regs.specs.declared.phase.LockPhase.TheVariants as lock
use Rattle.global_lock.proofs.TestTurns.{seat_seeks, tried_rests}
use Rattle.global_lock.proofs.tests.seats.marks.Goals as goal

pub attempt-requires-clause-table : goal.attempt-requires-clause-table
attempt-requires-clause-table g c = c.requires.2.0

pub attempt-requires-clause-seeks : goal.attempt-requires-clause-seeks
attempt-requires-clause-seeks g c = seat_seeks _ c.requires.0 c.requires.1 c.args.seat.now c.requires.2

pub returns : goal.returns
returns g c =
    λ a k h. let is = c.in-Marked.ensures.attempts in tried_rests c.args.table.now.table.shared.table_id a k lock.Marked c.in-Marked.found c.in-Marked.found c.args.seat.now c.attempt.new.seat c.in-Marked.ensures.same.0 is.2 h
