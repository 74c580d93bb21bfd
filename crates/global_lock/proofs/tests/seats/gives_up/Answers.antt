use Rattle.acpi_regs.specs.declared.phase.LockPhase.TheVariants as lock
use Rattle.lock_table.specs.declared.view.SeatPhase.TheVariants as kept
use Rattle.global_lock.proofs.TestTurns.{seat_in}
use Rattle.global_lock.proofs.tests.seats.gives_up.Goals as goal

pub of-quit-requires : goal.of-quit-requires
of-quit-requires c = seat_in _ c.requires.0 (kept.Lock lock.Quit) c.args.seat.now c.requires.1

pub give_up-gone-requires-clause-table : goal.give_up-gone-requires-clause-table
give_up-gone-requires-clause-table c = c.requires.1.0
