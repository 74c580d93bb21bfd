use Rattle.history_text.proofs.Described.{read_back}
use Rattle.history_text.proofs.laws.law_canonical.Goals as goal

pub returns : goal.returns
returns c = read_back c.args.machine.now c.requires c.law_read_back.ensures.json c.law_read_back.ensures.machine
