use Rattle.std.proofs.Common.{◌≡◌}
use Rattle.machine_desc.proofs.build.scripts_of.Given as goal

abbrev pub invariant-loop-part : goal.invariant-loop-part
invariant-loop-part l = l.scripts.items ≡ l.yielded
