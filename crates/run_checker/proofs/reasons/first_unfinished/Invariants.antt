use Rattle.std.proofs.Common.{ℕ, ◌<◌, ◌≡◌, reverse, Some, slice_get}
use Rattle.acpi_regs.specs.declared.actor.Actor.{Actor}
use Rattle.machine_desc.specs.Actors.{actors_of}
use Rattle.run_checker.specs.Reasons.{HasReason}
use Rattle.run_checker.proofs.reasons.first_unfinished.Given as goal

-- None of the actors so far has a reason.
abbrev pub invariant-loop-k : goal.invariant-loop-k
invariant-loop-k l = (j : ℕ) (a : Actor) → j < l.k → slice_get (actors_of l.board.machine) j ≡ Some a → HasReason l.board.machine (reverse l.board.entries) a → ⊥
