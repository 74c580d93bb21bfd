use Rattle.std.proofs.Common.{◌≡◌}
use Rattle.machine_maker.specs.Maker.{byte_field, each_of}
use Rattle.machine_maker.proofs.parts.fields.Given as goal

abbrev pub invariant-loop-k : goal.invariant-loop-k
invariant-loop-k l = l.fields.items ≡ each_of l.k byte_field
