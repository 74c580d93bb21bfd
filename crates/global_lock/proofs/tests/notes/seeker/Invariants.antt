use Rattle.std.proofs.Common.{◌≡◌, reverse, take}
use Rattle.acpi_regs.specs.Lock.{seeker}
use Rattle.global_lock.proofs.tests.notes.seeker.Given as goal

abbrev pub invariant-loop-entry : goal.invariant-loop-entry
invariant-loop-entry l = l.found ≡ seeker l.side (reverse (take l.entry-index l.entries))
