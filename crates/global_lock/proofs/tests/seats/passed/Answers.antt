use Rattle.std.proofs.Common.{[]}
use Rattle.global_lock.proofs.TestTurns.{left, may, nothing, with_none}
use Rattle.global_lock.proofs.tests.seats.passed.Goals as goal

pub leave-requires-clause-adds : goal.leave-requires-clause-adds
leave-requires-clause-adds c =
    let r = c.requires.inside in
    let found = c.args.turn.board.entries.items in
    may c.args.table.now.table.shared.table_id r.0 r.1 found found [] c.args.seat.now r.2 (with_none found) (nothing r.1 r.0 found r.3)

pub returns : goal.returns
returns c =
    let found = c.args.turn.board.entries.items in
    λ a k h. left c.args.table.now.table.shared.table_id a k found found [] c.args.seat.now c.leave.new.seat h (with_none found) c.leave.ensures.same.0 c.leave.ensures.gave
