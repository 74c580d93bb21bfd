use Rattle.std.proofs.Common.{reverse, ap, ◌∙◌, subst}
use Rattle.machine_desc.specs.Kept.{IsMachine}
use Rattle.machine_history.specs.Complete.{Complete}
use Rattle.machine_maker.specs.Maker.{made}
use Rattle.run_summary.specs.Told.{told}
use Rattle.run_summary.proofs.summary.summarize.Goals as goal

pub returns-clause-summary : goal.returns-clause-summary
returns-clause-summary c =
    let number = c.args.number in
    let size = c.args.size in
    let history = c.args.board.now.entries in
    let ok : IsMachine (made number size) = subst IsMachine (c.machine.ensures ∙ c.requires.machine) c.law_rules.ensures in
    let complete : Complete (made number size) history = subst (λ m. Complete m history) c.requires.machine c.requires.complete in
    c.tell.ensures
    ∙ (ap (λ m. told number size m (reverse history)) c.requires.machine
    ∙ c.law_summary.ensures.lines number size history ok complete)
