use Rattle.std.proofs.Common.{subst}
use Rattle.global_lock.specs.TestSeats.{Rests}
use Rattle.global_lock.proofs.TestTurns.{stays, took_inside}
use Rattle.global_lock.proofs.tests.seats.finds_out.Goals as goal

pub returns-in-Turn : goal.returns-in-Turn
returns-in-Turn c =
    let id = c.args.table.now.table.shared.table_id in
    λ a k rests pass.
    let inside = took_inside id a k c.args.seat.now c.enter.new.seat c.in-Turn.turn.board.entries.items c.in-Turn.ensures.same.0 c.in-Turn.ensures.entered.2 rests in
    subst (λ q. Rests id a q c.passed.new.seat) (stays k pass) (c.passed.ensures a k inside)
