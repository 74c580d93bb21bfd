use Rattle.lock_table.proofs.PartLists.{all_fresh, find_other}
use Rattle.lock_table.proofs.laws.law_root.Goals as goal

pub returns-clause-first : goal.returns-clause-first
returns-clause-first c = all_fresh

pub returns-clause-stays : goal.returns-clause-stays
returns-clause-stays c = find_other
