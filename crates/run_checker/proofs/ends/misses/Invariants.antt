use Rattle.std.proofs.Common.{take}
use Rattle.run_checker.specs.Ends.{AllSet}
use Rattle.run_checker.proofs.ends.misses.Given as goal

-- The pulses so far are in the set.
abbrev pub invariant-loop-pulse : goal.invariant-loop-pulse
invariant-loop-pulse l = AllSet l.set (take l.pulse-index l.pulses)
