use Rattle.std.proofs.Common.{refl, not, ◌∙◌, ap}
use Rattle.ec_chip.proofs.Status.{one_by_one-sum, set_bit}
use Rattle.ec_chip.proofs.chip.EcChip.status.Goals as goal

pub returns : goal.returns
returns c =
    let obf = c.is_some.result in
    let ibf = c.is_some-2.result in
    let cmd = c.self.inside.command in
    let burst = c.self.inside.burst in
    let s1 = c.set.ensures tt ∙ ap (λ n. set_bit obf n 1) (c.empty-status.ensures tt) in
    let s2 = c.set-2.ensures tt ∙ ap (λ n. set_bit ibf n 2) s1 in
    let s3 = c.set-3.ensures tt ∙ ap (λ n. set_bit cmd n 8) s2 in
    let s4 = c.set-4.ensures tt ∙ ap (λ n. set_bit burst n 16) s3 in
    let s5 = c.set-5.ensures tt ∙ ap (λ n. set_bit (not c.is_empty.result) n 32) s4 in
    rw (← c.self.view_is) (s5 ∙ one_by_one-sum obf ibf cmd burst (not c.is_empty.result) ∙ rw (c.is_some.ensures, c.is_some-2.ensures, c.is_empty.ensures, c.self.inside.codes.ok.0) refl)
