use Rattle.std.proofs.Common.{take}
use Rattle.run_checker.specs.Ends.{AllListsSet}
use Rattle.run_checker.proofs.ends.some_miss.Given as goal

-- The lists so far are in the set.
abbrev pub invariant-loop-list : goal.invariant-loop-list
invariant-loop-list l = AllListsSet l.set (take l.list-index l.lists)
