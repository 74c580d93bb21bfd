use Rattle.lock_table.proofs.table.LockTable.collect.Given as goal

abbrev pub ghosts-collect_as : goal.ghosts-collect_as
ghosts-collect_as g a = record { lists = g.B.Base.PulseLists.lists (g.B.Recorded.base a.self.now.table.shared.key) }
