use Rattle.fw_actors.proofs.Giving.{ctl-gives, ctl-stays}
use Rattle.fw_actors.proofs.laws.law_controller.Goals as goal

pub returns-clause-gives : goal.returns-clause-gives
returns-clause-gives c = ctl-gives

pub returns-clause-stays : goal.returns-clause-stays
returns-clause-stays c = ctl-stays
