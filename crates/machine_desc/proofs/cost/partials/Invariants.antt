use Rattle.std.proofs.Common.{◌≡◌, ◌≤◌, ◌+◌, ◌-◌}
use Rattle.field_units.specs.Bits.{byte_count}
use Rattle.handler_script.specs.Costs.{partials, partials_from}
use Rattle.machine_desc.proofs.cost.partials.Given as goal

abbrev pub invariant-loop-k : goal.invariant-loop-k
invariant-loop-k l = (l.kept + partials_from l.field l.k (byte_count l.field - l.k) ≡ partials l.field) × (l.kept ≤ l.k)
