use Rattle.acpi_commands.proofs.RunLemmas.{complete_log, ran}
use Rattle.acpi_commands.proofs.log.law_log.Goals as goal

pub returns-clause-ran : goal.returns-clause-ran
returns-clause-ran c = λ bytes m h describes rules complete.
    (let legal = c.law_complete_legal.ensures m h complete in
    ran bytes m h describes complete (c.law_scripts_once.ensures.firmware m h complete) (c.law_scripts_once.ensures.jobs m h legal) (c.law_jobs_in_order.ensures.complete m h complete) (c.law_reads_last.ensures m h legal) (c.law_exclusion.ensures.owner m h rules legal) (c.law_codes_in_order.ensures.pushed m h rules legal) (c.law_codes_in_order.ensures.runs m h legal) (c.law_claims_consume.ensures m h legal))

pub returns-clause-log : goal.returns-clause-log
returns-clause-log c = λ m h read_back named complete. complete_log m h read_back named complete
