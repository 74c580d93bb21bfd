use Rattle.machine_reader.proofs.RoundTrip.{one_text}
use Rattle.machine_reader.proofs.laws.law_one_text.Goals as goal

pub returns : goal.returns
returns c = one_text c.args.one.now c.args.other.now c.law_machine_ranges.ensures c.law_rules.ensures c.law_described.ensures c.law_machine_ranges-2.ensures c.law_rules-2.ensures c.law_described-2.ensures
