use Rattle.std.proofs.Common.{◌≡◌, drop}
use Rattle.machine_history.specs.Machine.{query_in}
use Rattle.machine_core.proofs.course.code_place.Given as goal

abbrev pub invariant-loop-place : goal.invariant-loop-place
invariant-loop-place l = query_in (drop l.place l.queries) l.code ≡ query_in l.queries l.code
