use Rattle.std.proofs.Common.{ℕ, ◌<◌, sym, subst}
use Rattle.machine_history.specs.Cells.{IsCell}
use Rattle.run_summary.specs.Told.{cell_of}
use Rattle.run_summary.proofs.Cells.{is_cell}
use Rattle.run_summary.proofs.summary.tell.Goals as goal

pub push_cells-requires-clause-cells : goal.push_cells-requires-clause-cells
push_cells-requires-clause-cells c = subst (λ m. (k : ℕ) → k < 16 → IsCell m (cell_of k)) (sym c.requires.machine) (λ k less. is_cell c.args.number c.args.size k less)
