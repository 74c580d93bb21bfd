use Rattle.std.proofs.Common.{subst}
use Rattle.history_text.specs.Lines.{IsStuckText}
use Rattle.history_text.proofs.FirstLine.{begins_once}
use Rattle.history_text.proofs.read.next_stuck.Goals as goal

pub returns-in-None-read_stuck-clause-cases : goal.returns-in-None-read_stuck-clause-cases
returns-in-None-read_stuck-clause-cases c line rest begins is =
    c.in-None-read_stuck.ensures (subst IsStuckText (begins_once c.args.bytes.now line rest c.in-Some.line.now c.in-Some.rest.now begins c.in-Some.ensures.cases).0 is)
