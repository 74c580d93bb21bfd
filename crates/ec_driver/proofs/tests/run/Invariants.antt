use Rattle.ec_driver.specs.Driver.{Stands}
use Rattle.ec_driver.proofs.tests.run.Given as goal

-- the transaction and the controller are in step
abbrev pub invariant-loop-next : goal.invariant-loop-next
invariant-loop-next g l = Stands l.transaction l.chip
