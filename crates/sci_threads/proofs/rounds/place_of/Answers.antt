use Rattle.std.proofs.Common.{Some, refl, sym, ap, ◌∙◌}
use Rattle.machine_desc.proofs.Order.{int_at, poll_at}
use Rattle.sci_threads.proofs.rounds.place_of.Goals as goal

pub returns-in-Int : goal.returns-in-Int
returns-in-Int c = int_at c.args.machine.now 0 refl ∙ ap Some (sym c.in-Int.is)

pub returns-in-Poll : goal.returns-in-Poll
returns-in-Poll c = poll_at c.args.machine.now 1 refl ∙ ap Some (sym c.in-Poll.is)
