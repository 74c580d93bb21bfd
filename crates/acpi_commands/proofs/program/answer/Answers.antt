use Rattle.acpi_commands.proofs.RunLemmas.{answered}
use Rattle.acpi_commands.proofs.program.answer.Goals as goal

pub returns-in-Ok-clause-answers : goal.returns-in-Ok-clause-answers
returns-in-Ok-clause-answers g c = answered c.args.words.now _ _ _ _ _ _ c.in-Ok.command c.obey.result c.in-Ok.ensures c.obey.ensures.answers
