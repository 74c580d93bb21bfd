use Rattle.std.proofs.Common.{refl}
use Rattle.handler_script.specs.Accepts.{script_fault}
use Rattle.handler_script.proofs.Runs.{past_op}
use Rattle.handler_script.proofs.accept.first_fault.Goals as goal

pub loop-i-init : goal.loop-i-init
unfolding script_fault
loop-i-init g c = record { left = refl; known = c.run_of-run.ensures }

pub loop-i-preserved : goal.loop-i-preserved
loop-i-preserved g c =
    past_op c.args.ops.now _ c.loop-i.invariant c.loop-i-test.true c.split_at.ensures.back
    c.run_behind-run.ensures c.is_some.ensures c.op_fault-fault.ensures c.if-is_some.ensures c.open_after-hold.ensures
