use Rattle.std.proofs.Common.{◌/◌, sym, subst}
use Rattle.event_chip.specs.Places.{IsSummary}
use Rattle.event_chip.proofs.PlaceBits.{summary_kept}
use Rattle.event_chip.proofs.words.Words.put.Goals as goal

pub returns-clause-summary : goal.returns-clause-summary
returns-clause-summary c = λ old.
    let s = c.set.new.self.words in
    let e = c.set-2.new.self.words in
    let kept = summary_kept c.args.self.now.status.words c.args.self.now.enable.words s e c.args.self.now.summary c.sum_up.new.self.summary (c.args.place / 16) c.set.ensures.others c.set-2.ensures.others c.sum_up.ensures.marks old in
    subst (λ x. IsSummary x c.sum_up.new.self.enable.words c.sum_up.new.self.summary) (sym c.sum_up.ensures.status)
    (subst (λ x. IsSummary s x c.sum_up.new.self.summary) (sym c.sum_up.ensures.enable) kept)
