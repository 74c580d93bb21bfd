use Rattle.std.proofs.Common.{arith}
use Rattle.machine_history.proofs.Whole.{weight_bounds}
use Rattle.machine_core.proofs.board.Board.law_small.Goals as goal

pub returns : goal.returns
returns c =
    let b = c.self.inside in
    let most = weight_bounds b.machine b.journal.items c.law_rules.ensures c.self.invariant.legal in
    let small = c.self.invariant.small in
    rw (← c.self.view_is) (omega (arith, most, small))
