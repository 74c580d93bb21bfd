use Rattle.std.proofs.Common.{◌≡◌, get_or, refl, subst, sym, ap}
use Rattle.event_chip.specs.Kept.{enables, is_set}
use Rattle.event_chip.specs.Words.{IsWord}
use Rattle.event_chip.proofs.PlaceOrder.{word_is}
use Rattle.event_chip.proofs.chip.EventChip.words.Goals as goal

pub returns-clause-status : goal.returns-clause-status
returns-clause-status c =
    let words = c.self.inside.words.status.words in
    let same : c.from.result ≡ c.args.k = c.from.ensures in
    subst (IsWord is_set c.args.self.now c.args.k) (ap (λ j. get_or words j 0) (sym same))
    (subst (λ s. IsWord is_set s c.args.k (get_or words c.args.k 0)) c.self.view_is (word_is is_set c.self.inside.slots.items words c.args.k c.requires c.self.invariant.size refl c.self.invariant.status_bits))

pub returns-clause-enable : goal.returns-clause-enable
returns-clause-enable c =
    let words = c.self.inside.words.enable.words in
    let same : c.from-2.result ≡ c.args.k = c.from-2.ensures in
    subst (IsWord enables c.args.self.now c.args.k) (ap (λ j. get_or words j 0) (sym same))
    (subst (λ s. IsWord enables s c.args.k (get_or words c.args.k 0)) c.self.view_is (word_is enables c.self.inside.slots.items words c.args.k c.requires c.self.invariant.size refl c.self.invariant.enable_bits))
