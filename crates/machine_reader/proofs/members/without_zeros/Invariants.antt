use Rattle.std.proofs.Common.{◌≡◌, length}
use Rattle.machine_reader.specs.Canonical.{without_zeros}
use Rattle.machine_reader.proofs.members.without_zeros.Given as goal

abbrev pub invariant-loop-last : goal.invariant-loop-last
invariant-loop-last l = without_zeros l.bytes ≡ without_zeros l.cells

abbrev pub decreases-loop-last : goal.decreases-loop-last
decreases-loop-last l = length l.bytes
