use Rattle.std.proofs.Common.{◌/◌, refl, sym, subst}
use Rattle.event_chip.specs.Places.{IsSummary}
use Rattle.event_chip.proofs.PlaceBits.{stays_within, still_shares, summary_grown}
use Rattle.event_chip.proofs.words.Words.set_enable.Goals as goal

pub returns-then-is-clause-summary : goal.returns-then-is-clause-summary
returns-then-is-clause-summary c = λ old.
    let k = c.args.place / 16 in
    let s = c.args.self.now.status.words in
    let e = c.args.self.now.enable.words in
    let e' = c.set.new.self.words in
    let m = c.add_mark.new.self.summary in
    let grows = still_shares s e s e' k (stays_within _) (c.set.ensures.grows refl k) in
    let grown = summary_grown s e s e' c.args.self.now.summary m k (λ j d. refl) c.set.ensures.others grows c.add_mark.ensures.marks old in
    subst (λ x. IsSummary x c.add_mark.new.self.enable.words m) (sym c.add_mark.ensures.status)
    (subst (λ x. IsSummary s x m) (sym c.add_mark.ensures.enable) grown)
