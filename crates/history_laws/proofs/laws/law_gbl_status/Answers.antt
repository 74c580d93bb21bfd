use Rattle.history_laws.proofs.LastEntries.{gbl_is_status}
use Rattle.history_laws.proofs.laws.law_gbl_status.Goals as goal

pub returns : goal.returns
returns c = gbl_is_status
