use Rattle.machine_maker.proofs.Faultless.{breaks_no_rule}
use Rattle.machine_maker.proofs.Light.{is_light}
use Rattle.machine_maker.proofs.laws.law_made.Goals as goal

pub returns : goal.returns
returns c = record { rules = breaks_no_rule; weight = is_light }
