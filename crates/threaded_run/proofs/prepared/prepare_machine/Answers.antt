use Rattle.std.proofs.Common.{[], subst, sym}
use Rattle.lock_table.specs.Roots.{HasFreshBut}
use Rattle.lock_table.proofs.Rooting.{fresh_first}
use Rattle.threaded_run.proofs.prepared.prepare_machine.Goals as goal

pub prepare-requires-clause-fresh : goal.prepare-requires-clause-fresh
prepare-requires-clause-fresh c = subst (HasFreshBut []) (sym c.in_ok-table.ensures.view) fresh_first
