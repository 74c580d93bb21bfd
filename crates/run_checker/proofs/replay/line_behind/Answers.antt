use Rattle.std.proofs.Common.{◌≤◌, length, subst, arith}
use Rattle.machine_desc.specs.Kept.{IsMachine}
use Rattle.machine_desc.specs.Weight.{weight_of}
use Rattle.machine_history.proofs.Whole.{weight_bounds}
use Rattle.run_checker.proofs.replay.line_behind.Goals as goal

pub overflow_add-result : goal.overflow_add-result
overflow_add-result c =
    let m = c.args.board.now.machine in
    let bound = weight_bounds m c.args.board.now.entries (subst IsMachine c.machine.ensures c.law_rules.ensures) c.law_legal.ensures in
    omega (arith, bound, c.requires, c.len.ensures)

pub returns-clause-small : goal.returns-clause-small
returns-clause-small c =
    let m = c.args.board.now.machine in
    let bound = weight_bounds m c.args.board.now.entries (subst IsMachine c.machine.ensures c.law_rules.ensures) c.law_legal.ensures in
    omega (arith, bound, c.requires, c.len.ensures)
