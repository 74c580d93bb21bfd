use Rattle.core_laws.proofs.Giving.{gives_events, gives_sound, nobody_first, settles_sound, stepped_sound, steps_sound}
use Rattle.core_laws.proofs.laws.law_gives.Goals as goal

pub returns-clause-events : goal.returns-clause-events
returns-clause-events c = gives_events

pub returns-clause-step : goal.returns-clause-step
returns-clause-step c = gives_sound

pub returns-clause-stepped : goal.returns-clause-stepped
returns-clause-stepped c = stepped_sound

pub returns-clause-schedule : goal.returns-clause-schedule
returns-clause-schedule c = λ m names core. steps_sound m names core

pub returns-clause-rounds : goal.returns-clause-rounds
returns-clause-rounds c = settles_sound

pub returns-clause-first : goal.returns-clause-first
returns-clause-first c = nobody_first
