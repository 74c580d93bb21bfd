use Rattle.std.proofs.Common.{◌∙◌, sym, ap, subst}
use Rattle.acpi_commands.specs.CommandLine.{text_of}
use Rattle.acpi_commands.specs.Words.{AreWords}
use Rattle.acpi_commands.proofs.Places.{one_text, three_texts}
use Rattle.acpi_commands.proofs.command.command_in.Goals as goal

pub returns-in-None-None : goal.returns-in-None-None
returns-in-None-None c = λ texts at.
    subst (λ l. AreWords l c.command_named.result)
    (sym (one_text texts c.in_ok-command.command.now (sym at.command ∙ ap text_of c.in_ok-command.was) (sym at.number ∙ ap text_of c.in-None-None.is-0)))
    c.command_named.ensures

pub returns-in-Some-Some : goal.returns-in-Some-Some
returns-in-Some-Some c = λ texts at.
    subst (λ l. AreWords l c.command_with.result)
    (sym (three_texts texts c.in_ok-command.command.now c.in-Some-Some.number.now c.in-Some-Some.size.now (sym at.command ∙ ap text_of c.in_ok-command.was) (sym at.number ∙ ap text_of c.in-Some-Some.is-0)
    (sym at.size ∙ ap text_of c.in-Some-Some.is-1) at.few)) c.command_with.ensures
