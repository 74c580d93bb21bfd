use Rattle.std.proofs.Common.{◌∙◌, reverse}
use Rattle.machine_core.proofs.Wires.{told}
use Rattle.machine_core.proofs.board.Board.taking.Goals as goal

pub taking-requires : goal.taking-requires
taking-requires c = (told c.self.inside.machine (reverse c.self.inside.journal.items) c.self.inside.wire c.self.invariant.wire_is).stands

pub returns : goal.returns
returns c =
    let b = c.self.inside in
    let t = told b.machine (reverse b.journal.items) b.wire c.self.invariant.wire_is in
    rw (← c.self.view_is) (c.taking.ensures ∙ t.taken)
