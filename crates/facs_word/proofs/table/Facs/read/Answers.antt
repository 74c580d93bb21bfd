-- The first 64 bytes are an array, and where they are accepted they read as themselves.
use Rattle.std.proofs.Common.{◌≡◌, Ok, rules}
use Rattle.std.proofs.lemmas.List.{length-take-le}
use Rattle.facs_word.specs.Table.{reads}
use Rattle.facs_word.proofs.Tables.{reads_again}
use Rattle.facs_word.proofs.table.Facs.read.Goals as goal

pub returns-in_default : goal.returns-in_default
returns-in_default c = let h = c.in_default.ensures in absurd (h.1 (length-take-le 64 c.args.bytes.now c.if-bytes-lt64.false))

pub invariant_of-result : goal.invariant_of-result
invariant_of-result c =
    let accepted : reads c.args.bytes.now ≡ Ok c.in-Ok.table.now = search rules in
    reads_again c.args.bytes.now c.in-Ok.table.now accepted
