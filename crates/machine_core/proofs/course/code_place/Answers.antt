use Rattle.std.proofs.Common.{eq-eqb}
use Rattle.std.proofs.lemmas.Bool.{ne_eqb}
use Rattle.machine_core.proofs.Places.{code_found, code_passed}
use Rattle.machine_core.proofs.course.code_place.Goals as goal

pub returns-then-query-code : goal.returns-then-query-code
returns-then-query-code c = code_found c.args.queries.now c.args.code c.loop-place.place c.index-queries-place.result c.loop-place-test.true c.index-queries-place.is (eq-eqb c.index-queries-place.result.code c.args.code c.if-query-code.true) c.loop-place.invariant

pub loop-place-preserved : goal.loop-place-preserved
loop-place-preserved c = code_passed c.args.queries.now c.args.code c.loop-place.place c.index-queries-place.result c.loop-place-test.true c.index-queries-place.is (ne_eqb c.index-queries-place.result.code c.args.code c.if-query-code.false) c.loop-place.invariant
