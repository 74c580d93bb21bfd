use Rattle.core_laws.proofs.Upgrade.{same_complete, same_gives, same_legal, same_played, same_refusal, same_stuck, same_weight, upgrades_once}
use Rattle.core_laws.proofs.laws.law_upgrade.Goals as goal

pub returns-clause-refusal : goal.returns-clause-refusal
returns-clause-refusal c = same_refusal

pub returns-clause-gives : goal.returns-clause-gives
returns-clause-gives c = same_gives

pub returns-clause-legal : goal.returns-clause-legal
returns-clause-legal c = same_legal

pub returns-clause-complete : goal.returns-clause-complete
returns-clause-complete c = same_complete

pub returns-clause-played : goal.returns-clause-played
returns-clause-played c = same_played

pub returns-clause-stuck : goal.returns-clause-stuck
returns-clause-stuck c = same_stuck

pub returns-clause-weight : goal.returns-clause-weight
returns-clause-weight c = same_weight

pub returns-clause-once : goal.returns-clause-once
returns-clause-once c = upgrades_once
