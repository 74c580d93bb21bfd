use Rattle.std.proofs.Common.{◌/◌, refl, sym, subst}
use Rattle.event_chip.specs.Places.{IsSummary}
use Rattle.event_chip.proofs.PlaceBits.{still_shares, summary_shrunk}
use Rattle.event_chip.proofs.words.Words.clear.Goals as goal

pub returns-clause-summary : goal.returns-clause-summary
returns-clause-summary c = λ old.
    let k = c.args.place / 16 in
    let s = c.args.self.now.status.words in
    let e = c.args.self.now.enable.words in
    let s' = c.set.new.self.words in
    let e' = c.set-2.new.self.words in
    let m = c.drop_mark.new.self.summary in
    let shrinks = still_shares s' e' s e k (c.set.ensures.shrinks refl k) (c.set-2.ensures.shrinks refl k) in
    let shrunk = summary_shrunk s e s' e' c.args.self.now.summary m k c.set.ensures.others c.set-2.ensures.others shrinks c.drop_mark.ensures.marks old in
    subst (λ x. IsSummary x c.drop_mark.new.self.enable.words m) (sym c.drop_mark.ensures.status)
    (subst (λ x. IsSummary s' x m) (sym c.drop_mark.ensures.enable) shrunk)
