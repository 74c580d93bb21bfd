use Rattle.history_text.proofs.Names.{NumbersBelow}
use Rattle.history_text.proofs.laws.law_entries.Given as goal

-- The first entries were looked at.
abbrev pub invariant-loop-i : goal.invariant-loop-i
invariant-loop-i l = NumbersBelow l.board.entries l.i
