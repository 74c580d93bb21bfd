use Rattle.std.proofs.Common.{◌↔◌, IsTrue, reverse, sym, subst}
use Rattle.acpi_regs.specs.declared.actor.Actor.{Actor}
use Rattle.run_checker.specs.Ends.{HasOwn}
use Rattle.run_checker.proofs.reasons.has_own.Goals as goal

pub returns-in-Int : goal.returns-in-Int
returns-in-Int c =
    subst (λ (a : Actor). IsTrue c.int_has.result ↔ HasOwn c.args.board.now.machine (reverse c.args.board.now.entries) a) (sym c.in-Int.is) c.int_has.ensures
