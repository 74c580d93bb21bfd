use Rattle.os_actors.proofs.Giving.{host-gives, host-stays}
use Rattle.os_actors.proofs.laws.law_host.Goals as goal

pub returns-clause-gives : goal.returns-clause-gives
returns-clause-gives c = host-gives

pub returns-clause-stays : goal.returns-clause-stays
returns-clause-stays c = host-stays
