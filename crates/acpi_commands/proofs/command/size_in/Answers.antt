use Rattle.std.proofs.Common.{◌≡◌, ◌∙◌, sym, arith}
use Rattle.std.proofs.lemmas.Fmt.{decimal_injective}
use Rattle.acpi_commands.proofs.command.size_in.Goals as goal

pub returns-in_default : goal.returns-in_default
returns-in_default c = λ n least most is.
    let small = c.in-Some.ensures.1 in
    let same : c.in-Some.number ≡ n = decimal_injective c.in-Some.number n (omega arith) (omega arith) (sym c.in-Some.ensures.0 ∙ is) in
    let no = c.if-number-le64.false in
    absurd (omega arith)

pub returns-in_default-2 : goal.returns-in_default-2
returns-in_default-2 c = λ n least most is.
    let small = c.in-Some.ensures.1 in
    let same : c.in-Some.number ≡ n = decimal_injective c.in-Some.number n (omega arith) (omega arith) (sym c.in-Some.ensures.0 ∙ is) in
    let no = c.if-number-ge1.false in
    absurd (omega arith)
