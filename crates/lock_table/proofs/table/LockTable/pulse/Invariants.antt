use Rattle.lock_table.proofs.table.LockTable.pulse.Given as goal

abbrev pub ghosts-pulse_as : goal.ghosts-pulse_as
ghosts-pulse_as g a = record { event = a.event }
