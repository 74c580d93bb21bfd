use Rattle.std.proofs.Common.{◌≡◌, map, take}
use Rattle.machine_desc.specs.Machine.{field_of}
use Rattle.machine_desc.proofs.build.fields_of.Given as goal

abbrev pub invariant-loop-part : goal.invariant-loop-part
invariant-loop-part l = l.fields.items ≡ map (field_of l.regions) (take l.part-index l.parts)
