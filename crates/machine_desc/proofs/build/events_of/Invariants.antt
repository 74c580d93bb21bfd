use Rattle.std.proofs.Common.{◌≡◌, map}
use Rattle.machine_desc.specs.Machine.{listed_of}
use Rattle.machine_desc.proofs.build.events_of.Given as goal

abbrev pub invariant-loop-part : goal.invariant-loop-part
invariant-loop-part l = l.events.items ≡ map listed_of l.yielded
