use Rattle.std.proofs.lemmas.Bool.{ne_eqb}
use Rattle.machine_reader.proofs.parts.controller_in.Goals as goal

pub returns-in-Err-clause-reads : goal.returns-in-Err-clause-reads
returns-in-Err-clause-reads c = rw c.if-version-eq1.true c.in-Err.ensures.reads

pub returns-in-Err-member-clause-reads : goal.returns-in-Err-member-clause-reads
returns-in-Err-member-clause-reads c = rw (ne_eqb c.args.version 1 c.if-version-eq1.false) c.in-Err-member.ensures.reads
