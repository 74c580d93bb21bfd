use Rattle.fw_actors.proofs.Giving.{device-gives, device-stays}
use Rattle.fw_actors.proofs.laws.law_device.Goals as goal

pub returns-clause-gives : goal.returns-clause-gives
returns-clause-gives c = device-gives

pub returns-clause-stays : goal.returns-clause-stays
returns-clause-stays c = device-stays
