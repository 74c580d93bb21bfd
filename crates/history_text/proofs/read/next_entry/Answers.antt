use Rattle.std.proofs.Common.{subst}
use Rattle.history_text.specs.Lines.{IsEntryText}
use Rattle.history_text.proofs.FirstLine.{begins_once}
use Rattle.history_text.proofs.read.next_entry.Goals as goal

pub returns-in-None-read_entry-clause-cases : goal.returns-in-None-read_entry-clause-cases
returns-in-None-read_entry-clause-cases c line rest begins is =
    c.in-None-read_entry.ensures (subst IsEntryText (begins_once c.args.bytes.now line rest c.in-Some.line.now c.in-Some.rest.now begins c.in-Some.ensures.cases).0 is)
