use Rattle.event_chip.proofs.chip.write_always.Goals as goal

pub returns-in-Some-clause-bits : goal.returns-in-Some-clause-bits
returns-in-Some-clause-bits c = λ old. c.write-in-Some.ensures.bits (c.write.ensures.bits old)
