use Rattle.event_chip.proofs.PlaceBits.{mark_set, mark_cleared}
use Rattle.event_chip.proofs.words.marked.Goals as goal

pub returns-then-is_in : goal.returns-then-is_in
returns-then-is_in c = λ i l. rw c.if-is_in.true (mark_set c.args.summary c.args.bit i c.requires l)

pub returns-else-is_in : goal.returns-else-is_in
returns-else-is_in c = λ i l. rw c.if-is_in.false (mark_cleared c.args.summary c.args.bit i c.requires l)
