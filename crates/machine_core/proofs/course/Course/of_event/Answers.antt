use Rattle.machine_core.proofs.course.Course.of_event.Goals as goal

pub returns-in-Some-clause-stands : goal.returns-in-Some-clause-stands
returns-in-Some-clause-stands c = c.begun.ensures.stands c.args.machine.now
