use Rattle.std.proofs.Common.{◌≡◌, ◌≤◌}
use Rattle.acpi_regs.specs.History.{past_of}
use Rattle.run_summary.specs.Told.{tally_of}
use Rattle.run_summary.proofs.tally.count_entries.Given as goal

-- The tally is that of the entries so far.
abbrev pub invariant-loop-i : goal.invariant-loop-i
invariant-loop-i l = record {
  is : l.tally ≡ tally_of (past_of l.board.entries l.i);
  few_adds : l.tally.adds ≤ l.i;
  few_codes : l.tally.codes ≤ l.i;
  few_notifies : l.tally.notifies ≤ l.i;
}
