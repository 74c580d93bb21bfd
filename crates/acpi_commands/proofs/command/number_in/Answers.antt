use Rattle.std.proofs.Common.{◌≡◌, ◌∙◌, true, sym, ap}
use Rattle.std.specs.Fmt.{decimal}
use Rattle.acpi_commands.proofs.Places.{parsed}
use Rattle.acpi_commands.proofs.command.number_in.Goals as goal

pub returns-in_default : goal.returns-in_default
returns-in_default c = λ n small is.
    let read = parsed n c.args.word.now c.parse.result small is c.parse.ensures.value.0 in
    let same : c.in-Ok.number ≡ n = let at = c.in-Ok.is in cc in
    let yes : c.is_decimal.result ≡ true = c.is_decimal.ensures.1 (is ∙ ap decimal (sym same)) in
    let no = c.if-is_decimal.false in
    absurd cc

pub returns-in_default-2 : goal.returns-in_default-2
returns-in_default-2 c = λ n small is.
    let read = parsed n c.args.word.now c.parse.result small is c.parse.ensures.value.0 in
    let at = c.in_default.is in
    absurd cc
