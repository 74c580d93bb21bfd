use Rattle.std.proofs.Common.{◌≡◌, Some, ap, reverse, subst, ◌∙◌}
use Rattle.handler_script.specs.declared.act.Act.TheVariants as act
use Rattle.machine_core.proofs.Places.{memory_cell}
use Rattle.machine_desc.specs.Kept.{IsMachine}
use Rattle.machine_history.proofs.Fitting.{SomeFits, next_fits}
use Rattle.machine_history.specs.Scripts.{next_of}
use Rattle.world.proofs.script.at_act.Goals as goal

pub cell-requires : goal.cell-requires
cell-requires c =
    let m = c.args.board.now.machine in
    let ok : IsMachine m = rw (← c.machine.ensures) c.law_rules.ensures in
    let next : next_of m (reverse c.args.board.now.entries) c.args.actor ≡ Some (act.Read c.in-Read.cell) = c.requires ∙ ap Some c.in-Read.is in
    memory_cell m c.in-Read.cell (subst (SomeFits m) next (next_fits m ok (reverse c.args.board.now.entries) c.args.actor)).1
