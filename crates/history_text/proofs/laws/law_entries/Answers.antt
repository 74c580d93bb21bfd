use Rattle.std.proofs.Common.{subst}
use Rattle.machine_desc.specs.Kept.{IsMachine}
use Rattle.history_text.proofs.Names.{all_entries}
use Rattle.history_text.proofs.laws.law_entries.Goals as goal

pub returns : goal.returns
returns c =
    all_entries c.args.board.now.machine c.args.board.now.entries c.len-i-end.result c.loop-i.i (subst IsMachine c.machine.ensures c.law_rules.ensures) c.law_legal.ensures c.len-i-end.ensures c.loop-i-test.false c.loop-i.invariant
