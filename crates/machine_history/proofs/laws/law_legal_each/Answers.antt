use Rattle.machine_history.proofs.Places.{each-legal, legal-each}
use Rattle.machine_history.proofs.laws.law_legal_each.Goals as goal

pub returns : goal.returns
returns c = λ m history. (legal-each m history, each-legal m history)
