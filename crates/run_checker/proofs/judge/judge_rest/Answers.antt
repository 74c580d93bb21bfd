use Rattle.std.proofs.Common.{◌≤◌, List, length, reverse, ap, subst, arith}
use Rattle.acpi_regs.specs.declared.entry.Entry.{Entry}
use Rattle.machine_desc.specs.Kept.{IsMachine}
use Rattle.machine_history.specs.Legal.{Legal}
use Rattle.machine_history.proofs.Whole.{weight_bounds}
use Rattle.run_checker.specs.Reasons.{NoneUnfinished}
use Rattle.run_checker.proofs.Completing.{completed}
use Rattle.run_checker.proofs.judge.judge_rest.Goals as goal

pub of-ends-requires : goal.of-ends-requires
of-ends-requires c =
    let m = c.args.board.now.machine in
    let bound = weight_bounds m c.args.board.now.entries (subst IsMachine c.machine.ensures c.law_rules.ensures) c.law_legal.ensures in
    let size = ap length c.requires.same in
    omega (arith, bound, size, c.requires.light)

pub returns-in-None : goal.returns-in-None
returns-in-None c =
    let m = c.args.board.now.machine in
    let whole = completed m (subst IsMachine c.machine.ensures c.law_rules.ensures) c.args.entries.now (subst (Legal m) c.requires.same c.law_legal.ensures) (subst (λ (h : List Entry). NoneUnfinished m (reverse h)) c.requires.same c.in-None.ensures) in
    (whole, c.requires.right)
