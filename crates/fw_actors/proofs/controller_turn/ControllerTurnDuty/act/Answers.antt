use Rattle.std.proofs.Common.{None, ap, reverse, subst, sym, refl}
use Rattle.acpi_regs.specs.declared.actor.Actor.TheVariants as actor
use Rattle.world.specs.Duties.{IsAllowed}
use Rattle.world.proofs.Entries.{Each}
use Rattle.world.proofs.FreeTurns.{Plain, plain-allowed, plain-turn}
use Rattle.world.proofs.Turns.{turn-as}
use Rattle.fw_actors.proofs.CtlEntries.{ctl_entry-plain}
use Rattle.fw_actors.proofs.controller_turn.ControllerTurnDuty.act.Goals as goal

pub add-requires : goal.add-requires
add-requires c =
    let b = c.args.board.now in
    subst (IsAllowed b.machine (reverse b.entries) actor.Ec) (sym c.ctl_entry-made.ensures) (plain-allowed b.machine (reverse b.entries) actor.Ec _ (ctl_entry-plain b.machine (reverse b.entries) actor.Ec))

pub returns-clause-rules : goal.returns-clause-rules
returns-clause-rules c =
    let b = c.args.board.now in
    let past = reverse b.entries in
    turn-as actor.Ec None b.entries _ _ _ _ _ _ (ap (λ x. x.entries) c.add.ensures.board) (c.requires.alone refl) c.add.ensures.answer
    (plain-turn b.machine past actor.Ec b.entries c.ctl_entry-made.result (subst (Each (Plain b.machine past actor.Ec)) (sym c.ctl_entry-made.ensures) (ctl_entry-plain b.machine past actor.Ec)))
