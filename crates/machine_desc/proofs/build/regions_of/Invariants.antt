use Rattle.std.proofs.Common.{◌≡◌, map}
use Rattle.machine_desc.specs.Machine.{region_of}
use Rattle.machine_desc.proofs.build.regions_of.Given as goal

abbrev pub invariant-loop-part : goal.invariant-loop-part
invariant-loop-part l = l.regions.items ≡ map region_of l.yielded
