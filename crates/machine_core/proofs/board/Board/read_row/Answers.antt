use Rattle.std.proofs.Common.{◌∙◌, reverse, sym}
use Rattle.machine_core.proofs.Places.{memory_cell}
use Rattle.machine_core.proofs.WireRows.{reads_memory}
use Rattle.machine_desc.specs.Kept.{IsMachine}
use Rattle.machine_history.specs.Scripts.{next_of}
use Rattle.machine_history.proofs.Fitting.{next_fits}
use Rattle.machine_core.proofs.board.Board.read_row.Goals as goal

pub cell-requires : goal.cell-requires
cell-requires c =
    let m = c.args.self.now.machine in
    let past = reverse c.args.self.now.entries in
    let ok : IsMachine m = rw (← c.self.view_is) c.law_rules.ensures in
    memory_cell m c.args.cell (reads_memory m (next_of m past c.args.actor) c.args.cell c.args.byte (next_fits m ok past c.args.actor) (sym c.is_next.ensures ∙ c.if-not-is_next.false))
