use Rattle.std.proofs.Common.{◌≡◌}
use Rattle.machine_maker.specs.Maker.{each_of, quiet_event}
use Rattle.machine_maker.proofs.parts.events.Given as goal

abbrev pub invariant-loop-n : goal.invariant-loop-n
invariant-loop-n l = l.events.items ≡ each_of l.n quiet_event
