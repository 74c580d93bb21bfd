use Rattle.acpi_commands.proofs.RunLemmas.{completes}
use Rattle.acpi_commands.proofs.program.acpi_events.Goals as goal

pub returns-clause-completes : goal.returns-clause-completes
returns-clause-completes g c =
    completes c.args.words.now _ _ _ _ _ _ _ _ c.answer.result c.answer.ensures.answers c.answer.ensures.read_fault c.answer.ensures.write_fault
