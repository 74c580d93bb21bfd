use Rattle.std.proofs.Common.{Some, sym, ap, ◌∙◌}
use Rattle.ec_driver.proofs.Places.{host_stands}
use Rattle.ec_driver.proofs.transaction.Transaction.advance.Goals as goal

pub returns-in-Some-Host-clause-stands : goal.returns-in-Some-Host-clause-stands
returns-in-Some-Host-clause-stands c =
    rw (c.make.ensures.transaction, c.make.ensures.chip) (host_stands _ _ c.in-Some-Host.step c.requires (sym c.next_move.ensures ∙ (c.in-Some-Host.is ∙ ap Some c.in-Some-Host.field-0-is)))
