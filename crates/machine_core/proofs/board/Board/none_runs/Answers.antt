use Rattle.std.proofs.Common.{◌∙◌, reverse, sym}
use Rattle.acpi_regs.specs.declared.actor.Actor.TheVariants as actor
use Rattle.machine_desc.specs.Kept.{IsMachine}
use Rattle.machine_core.proofs.Resting.{none_run}
use Rattle.machine_core.proofs.board.Board.none_runs.Goals as goal

pub returns : goal.returns
returns c =
    let m = c.args.self.now.machine in
    let past = reverse c.args.self.now.entries in
    let ok : IsMachine m = rw (← c.self.view_is) c.law_rules.ensures in (
      λ is. let all = c.all_none.ensures.0 is in
          none_run m ok past c.law_legal.ensures (sym c.running.ensures ∙ all.0) (sym c.running-2.ensures ∙ all.1) (sym c.running-3.ensures ∙ all.2) (sym c.running-4.ensures ∙ all.3),
      λ all. c.all_none.ensures.1 (c.running.ensures ∙ all (actor.Worker 0), c.running-2.ensures ∙ all (actor.Worker 1), c.running-3.ensures ∙ all (actor.Worker 2), c.running-4.ensures ∙ all (actor.Worker 3)),
    )
