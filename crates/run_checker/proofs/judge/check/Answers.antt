use Rattle.std.proofs.Common.{List, ap, ◌∙◌, subst}
use Rattle.acpi_regs.specs.declared.entry.Entry.{Entry}
use Rattle.acpi_regs.specs.declared.event.Event.{Event}
use Rattle.machine_desc.specs.Machine.{MachineData}
use Rattle.machine_core.specs.Board.{BoardData}
use Rattle.run_checker.specs.Verdict.{Judges}
use Rattle.run_checker.proofs.judge.check.Goals as goal

pub returns : goal.returns
returns c =
    let log = c.args.log.now in
    let machine = c.replay.ensures.machine ∙ (ap (λ (b : BoardData). b.machine) c.in_ok-board.ensures ∙ c.in_ok-machine.ensures) in
    subst (λ (m : MachineData). Judges m log.entries.items log.stuck.items log.rest c.judge_end.result) machine
    (subst (λ (es : List Entry). Judges c.replay.new.board.machine es log.stuck.items log.rest c.judge_end.result) c.deref-in-None.ensures.value
    (subst (λ (told : List Event). Judges c.replay.new.board.machine c.deref-in-None.result.now told log.rest c.judge_end.result) c.deref-in-None-2.ensures.value c.judge_end.ensures))
