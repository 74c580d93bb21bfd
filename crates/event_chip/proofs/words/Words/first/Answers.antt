use Rattle.std.proofs.Common.{rules}
use Rattle.event_chip.proofs.PlaceBits.{mark_within, no_first, some_first}
use Rattle.event_chip.proofs.words.Words.first.Goals as goal

pub returns-then-self-eq0 : goal.returns-then-self-eq0
returns-then-self-eq0 c = no_first c.args.self.now.status.words c.args.self.now.enable.words c.args.self.now.summary c.requires (search rules)

pub returns : goal.returns
returns c =
    let s = c.args.self.now.status.words in
    let e = c.args.self.now.enable.words in
    let m = c.args.self.now.summary in
    let k = c.lowest_mark-word.result in
    let within = mark_within s e m k (search rules) c.requires c.lowest_mark-word.ensures.within c.lowest_mark-word.ensures.is_set in
    some_first s e m k c.lowest_bit.result c.requires within c.lowest_mark-word.ensures.below c.lowest_bit.ensures.within c.lowest_bit.ensures.is_set c.lowest_bit.ensures.below
