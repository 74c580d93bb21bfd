use Rattle.sci_threads.proofs.laws.law_start.Goals as goal

pub returns-clause-first : goal.returns-clause-first
returns-clause-first c = λ w actors none free clear start. (λ i. record { word = free i; pins = clear i; history = none i; phases = start i })

pub returns-clause-sound : goal.returns-clause-sound
returns-clause-sound c = λ m. record { sound = c.law_sound.ensures.first m; nobody = c.law_gives.ensures.first }
