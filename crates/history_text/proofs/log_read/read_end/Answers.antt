use Rattle.std.proofs.Common.{arith}
use Rattle.history_text.proofs.Steps.{end_other}
use Rattle.history_text.proofs.log_read.read_end.Goals as goal

pub returns-in-None-read_rest-clause-bad : goal.returns-in-None-read_rest-clause-bad
returns-in-None-read_rest-clause-bad c =
    (omega arith, end_other c.args.bytes.now c.in-Some.line.now c.in-Some.rest.now c.requires c.in-Some.ensures.cases c.in-None-read_rest.ensures)
