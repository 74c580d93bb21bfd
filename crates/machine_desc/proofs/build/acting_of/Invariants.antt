use Rattle.std.proofs.Common.{◌≡◌, map, take}
use Rattle.machine_desc.specs.Machine.{acting}
use Rattle.machine_desc.proofs.build.acting_of.Given as goal

abbrev pub invariant-loop-field : goal.invariant-loop-field
invariant-loop-field l = l.made.items ≡ map (acting l.needs) (take l.field-index l.fields)
