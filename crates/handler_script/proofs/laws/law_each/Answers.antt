use Rattle.handler_script.proofs.Each.{each}
use Rattle.handler_script.proofs.laws.law_each.Goals as goal

pub returns : goal.returns
returns c = each
