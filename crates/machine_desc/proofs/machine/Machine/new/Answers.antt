use Rattle.std.proofs.Common.{sym, ◌∙◌}
use Rattle.machine_desc.proofs.Facts.{sound}
use Rattle.machine_desc.proofs.machine.Machine.new.Goals as goal

pub machine_of-requires-clause-sound : goal.machine_of-requires-clause-sound
machine_of-requires-clause-sound c = sound c.args.parts c.requires (sym c.first_fault.ensures ∙ c.in-None.is)
