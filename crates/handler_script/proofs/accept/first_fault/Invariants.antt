use Rattle.std.proofs.Common.{drop}
use Rattle.handler_script.specs.Accepts.{script_fault}
use Rattle.handler_script.proofs.Runs.{At}
use Rattle.handler_script.proofs.accept.first_fault.Given as goal

abbrev pub invariant-loop-i : goal.invariant-loop-i
invariant-loop-i g l =
    let forbids = g.R.EventRules.forbids l.rules in
    At forbids l.side l.count l.hold l.i l.run (drop l.i l.ops) (script_fault forbids l.side l.count l.ops)
