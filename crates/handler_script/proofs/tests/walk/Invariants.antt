use Rattle.std.proofs.Common.{◌≡◌, true}
use Rattle.handler_script.specs.Left.{stands}
use Rattle.handler_script.proofs.tests.walk.Given as goal

abbrev pub invariant-loop : goal.invariant-loop
invariant-loop l = stands l.fields l.script l.cursor ≡ true
