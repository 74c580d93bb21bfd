use Rattle.std.proofs.Common.{◌≡◌, map, take}
use Rattle.machine_core.specs.Cells.{kept_bytes}
use Rattle.machine_core.proofs.cells.Cells.new.Given as goal

abbrev pub invariant-loop-region : goal.invariant-loop-region
invariant-loop-region l = l.regions.items ≡ map kept_bytes (take l.region-index l.region-items)
