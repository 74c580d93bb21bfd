use Rattle.std.proofs.Common.{◌≡◌}
use Rattle.lock_table.proofs.table.LockTable.enter.Given as goal

abbrev pub ghosts-enter_as : goal.ghosts-enter_as
ghosts-enter_as g a = record { is = λ b. g.B.Recorded.base b ≡ g.B.Recorded.base a.self.now.table.shared.key }
