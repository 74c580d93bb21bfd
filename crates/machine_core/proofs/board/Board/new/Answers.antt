use Rattle.std.proofs.Common.{arith, refl}
use Rattle.machine_core.proofs.Kept.{first_kept, kept_as}
use Rattle.machine_core.proofs.board.Board.new.Goals as goal

pub invariant_of-result : goal.invariant_of-result
invariant_of-result c =
    let m = c.args.machine in
    let exact = c.in_ok-journal.ensures.exact in
    let jobs_exact = c.in_ok-jobs.ensures.room in
    let weight = c.weight-room.ensures.value in
    let small = c.requires in
    kept_as m _ _ c.new-5.result c.in_ok-events.events c.new-6.result c.in_ok-jobs.jobs c.in_ok-wire.wire c.in_ok-cells.cells _ _ _ _ c.in_ok-journal.ensures.items refl refl
    (first_kept m c.new-5.result c.in_ok-events.events c.new-6.result c.in_ok-jobs.jobs c.in_ok-wire.wire c.in_ok-cells.cells _ _ c.law_rules.ensures small c.new-5.ensures c.in_ok-events.ensures c.new-6.ensures c.in_ok-jobs.ensures.made c.in_ok-jobs.ensures.starts c.in_ok-wire.ensures c.in_ok-cells.ensures (omega (arith, exact, weight)) (omega (arith, jobs_exact, weight)))
