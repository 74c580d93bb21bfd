use Rattle.core_laws.proofs.Giving.{fewer_latches, sweep_legal}
use Rattle.core_laws.proofs.laws.law_latches.Goals as goal

pub returns-clause-fewer : goal.returns-clause-fewer
returns-clause-fewer c = λ m core n h set. fewer_latches m core n h.core.pinned set

pub returns-clause-sweep : goal.returns-clause-sweep
returns-clause-sweep c = λ m core a h host. sweep_legal m core a h.core.pinned host
