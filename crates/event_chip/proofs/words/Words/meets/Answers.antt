use Rattle.std.proofs.Common.{◌==◌, ◌/◌, ◌%◌, bit_and, get_or, ap, sym, ◌∙◌}
use Rattle.std.proofs.lemmas.Nat.Bits.{shr_and_one}
use Rattle.event_chip.proofs.PlaceBits.{meet_bit}
use Rattle.event_chip.proofs.words.Words.meets.Goals as goal

pub returns : goal.returns
returns c =
    let s = c.args.self.now.status.words in
    let e = c.args.self.now.enable.words in
    let p = c.args.place in
    ap (λ x. x == 1) (shr_and_one (bit_and (get_or s (p / 16) 0) (get_or e (p / 16) 0)) (p % 16)) ∙ sym (meet_bit s e p)
