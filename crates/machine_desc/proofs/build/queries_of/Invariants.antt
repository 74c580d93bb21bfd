use Rattle.std.proofs.Common.{◌≡◌, map}
use Rattle.machine_desc.specs.Machine.{query_of}
use Rattle.machine_desc.proofs.build.queries_of.Given as goal

abbrev pub invariant-loop-part : goal.invariant-loop-part
invariant-loop-part l = l.queries.items ≡ map query_of l.yielded
