use Rattle.std.proofs.Common.{◌≡◌, ◌++◌, ◌∷◌, []}
use Rattle.history_text.proofs.Steps.{entries_step}
use Rattle.history_text.proofs.log_read.read_entries.Goals as goal

pub loop-entry-preserved : goal.loop-entry-preserved
loop-entry-preserved c =
    entries_step c.args.bytes.now c.loop-entry.left.now c.in-Some.rest.now c.loop-entry.entries.items c.push.new.self.items c.in-Some.entry c.loop-entry.invariant c.in-Some.ensures.cases c.in_ok-push.ensures.items
