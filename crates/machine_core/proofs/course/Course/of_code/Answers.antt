use Rattle.machine_core.proofs.course.Course.of_code.Goals as goal

pub returns-in-Some-place-clause-stands : goal.returns-in-Some-place-clause-stands
returns-in-Some-place-clause-stands c = c.begun.ensures.stands c.args.machine.now
