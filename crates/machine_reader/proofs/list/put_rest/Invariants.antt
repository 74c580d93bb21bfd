use Rattle.std.proofs.Common.{◌≡◌, ◌++◌, map, take}
use Rattle.machine_reader.proofs.Lists.{after_commas}
use Rattle.machine_reader.proofs.list.put_rest.Given as goal

abbrev pub invariant-loop-part : goal.invariant-loop-part
invariant-loop-part g l = l.out.items ≡ l.initial.out.items ++ after_commas (map g.T.Written.json (take l.part-index l.parts))
