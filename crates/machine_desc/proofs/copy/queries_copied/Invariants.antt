use Rattle.std.proofs.Common.{◌≡◌, take}
use Rattle.machine_desc.proofs.copy.queries_copied.Given as goal

abbrev pub invariant-loop-query : goal.invariant-loop-query
invariant-loop-query l = l.copies.items ≡ take l.query-index l.queries
