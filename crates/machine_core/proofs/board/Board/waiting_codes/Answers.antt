use Rattle.std.proofs.Common.{◌∙◌, ap, length}
use Rattle.machine_core.proofs.board.Board.waiting_codes.Goals as goal

pub returns : goal.returns
returns c = rw (← c.self.view_is) (c.codes.ensures ∙ ap length c.self.invariant.wire_is.codes_are)
