use Rattle.machine_core.proofs.Queries.{begun-stands}
use Rattle.machine_core.proofs.course.Course.begun.Goals as goal

pub returns-clause-stands : goal.returns-clause-stands
returns-clause-stands c = λ m. begun-stands m c.args.place c.new.result c.new.ensures.left c.new.ensures.stands
