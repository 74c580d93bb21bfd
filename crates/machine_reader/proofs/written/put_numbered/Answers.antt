use Rattle.std.proofs.Common.{[], ◌∷◌, ◌++◌, decimal, ap, ◌∙◌, arith}
use Rattle.machine_reader.proofs.Lists.{behind}
use Rattle.machine_reader.proofs.Quotes.{quoted_numbered}
use Rattle.machine_reader.proofs.written.put_numbered.Goals as goal

pub returns : goal.returns
returns c =
    let r = c.put_byte.result in
    let old = c.args.out.now.items in
    let mid = c.put.new.out.items in
    let last = c.put_byte.new.out.items in
    let digits = decimal c.args.number in
    let number = c.in_ok-put_number.ensures ∙ ap (λ n. mid ++ decimal n) c.from.ensures in
    let t1 = behind mid c.put_number.new.out.items last digits (34 ∷ []) r number c.put_byte.ensures in
    let t0 = behind old mid last (34 ∷ c.args.letter ∷ []) (digits ++ 34 ∷ []) r c.in_ok-put.ensures t1 in
    rw (quoted_numbered c.args.letter c.args.number c.requires.low c.requires.high (omega (arith, c.ranges.number.fits))) t0
