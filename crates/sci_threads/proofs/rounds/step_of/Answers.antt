use Rattle.sci_threads.proofs.rounds.step_of.Goals as goal

pub returns-clause-step : goal.returns-clause-step
returns-clause-step c = c.step_at.ensures.step c.args.name c.place_of-k.ensures
