use Rattle.history_laws.proofs.LastEntries.{burst_last, due_last, opener_last}
use Rattle.history_laws.proofs.laws.law_wire_last.Goals as goal

pub returns-clause-opener : goal.returns-clause-opener
returns-clause-opener c = opener_last

pub returns-clause-burst : goal.returns-clause-burst
returns-clause-burst c = burst_last

pub returns-clause-due : goal.returns-clause-due
returns-clause-due c = due_last
