use Rattle.std.proofs.Common.{◌∙◌, reverse}
use Rattle.machine_core.proofs.Wires.{told}
use Rattle.machine_core.proofs.board.Board.host_move.Goals as goal

pub next_host-requires : goal.next_host-requires
next_host-requires c = (told c.self.inside.machine (reverse c.self.inside.journal.items) c.self.inside.wire c.self.invariant.wire_is).stands

pub returns : goal.returns
returns c =
    let b = c.self.inside in
    let t = told b.machine (reverse b.journal.items) b.wire c.self.invariant.wire_is in
    rw (← c.self.view_is) (c.next_host.ensures ∙ t.host)
