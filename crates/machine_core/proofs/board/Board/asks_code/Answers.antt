use Rattle.std.proofs.Common.{◌∙◌, reverse}
use Rattle.machine_core.proofs.Wires.{told}
use Rattle.machine_core.proofs.board.Board.asks_code.Goals as goal

pub returns : goal.returns
returns c =
    let b = c.self.inside in
    let t = told b.machine (reverse b.journal.items) b.wire c.self.invariant.wire_is in
    rw (← c.self.view_is) (c.asks_code.ensures ∙ t.code)
