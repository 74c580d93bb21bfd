use Rattle.history_laws.proofs.LastEntries.{held_last, line_last, status_last}
use Rattle.history_laws.proofs.laws.law_events_last.Goals as goal

pub returns-clause-line : goal.returns-clause-line
returns-clause-line c = line_last

pub returns-clause-held : goal.returns-clause-held
returns-clause-held c = held_last

pub returns-clause-status : goal.returns-clause-status
returns-clause-status c = status_last
