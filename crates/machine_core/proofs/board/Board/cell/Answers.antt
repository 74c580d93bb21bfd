use Rattle.std.proofs.Common.{◌≡◌, ◌∙◌, ap, false, reverse, slice_get, sym, true}
use Rattle.machine_core.specs.Cells.{is_controllers}
use Rattle.machine_core.proofs.Places.{own_cell, own_offset, plain_cell}
use Rattle.machine_history.specs.Cells.{IsCell}
use Rattle.machine_history.specs.Values.{value}
use Rattle.machine_core.proofs.board.Board.cell.Goals as goal

pub returns-then-is_controllers : goal.returns-then-is_controllers
returns-then-is_controllers c =
    let b = c.self.inside in
    let within : IsCell b.machine c.args.cell = rw (← c.self.view_is) at c.requires in
    let is : is_controllers (slice_get b.machine.regions c.args.cell.region) ≡ true = sym (rw (← c.self.view_is) at c.is_controllers.ensures) ∙ c.if-is_controllers.true in
    rw (← c.self.view_is) (c.byte.ensures ∙ (c.self.invariant.wire_is.cells_are c.args.cell.offset (own_offset b.machine c.law_rules.ensures c.args.cell within is)
    ∙ ap (value b.machine (reverse b.journal.items)) (own_cell b.machine c.law_rules.ensures c.args.cell is)))

pub returns-else-is_controllers : goal.returns-else-is_controllers
returns-else-is_controllers c =
    let b = c.self.inside in
    let within : IsCell b.machine c.args.cell = rw (← c.self.view_is) at c.requires in
    let is : is_controllers (slice_get b.machine.regions c.args.cell.region) ≡ false = sym (rw (← c.self.view_is) at c.is_controllers.ensures) ∙ c.if-is_controllers.false in
    rw (← c.self.view_is) (c.byte-else-is_controllers.ensures ∙ c.self.invariant.cells_are.are c.args.cell (plain_cell b.machine c.args.cell within is))
