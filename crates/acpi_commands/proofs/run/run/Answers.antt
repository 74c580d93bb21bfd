use Rattle.std.proofs.Common.{Ok, subst, sym}
use Rattle.history_text.specs.Lines.{IsReadBack}
use Rattle.machine_desc.specs.Kept.{IsMachine}
use Rattle.machine_desc.specs.Machine.{MachineData}
use Rattle.machine_reader.specs.Description.{Describes}
use Rattle.acpi_commands.proofs.run.run.Goals as goal

pub returns-in-Ok-carry_out-clause-ends : goal.returns-in-Ok-carry_out-clause-ends
returns-in-Ok-carry_out-clause-ends g c =
    let m : MachineData = c.race-raced.result.machine in
    let back = sym c.race-raced.ensures in
    let ends = c.in-Ok-carry_out.ensures.ends in
    let h = ends.0 in
    (m, h, c.law_log.ensures.ran c.args.bytes.now m h (subst (λ x. Describes c.args.bytes.now (Ok x)) back c.in-Ok.ensures.answers) (subst IsMachine c.machine.ensures c.law_rules.ensures) ends.1, tt, c.law_log.ensures.log m h (subst IsReadBack back c.in-Ok.ensures.read_back) ends.3 ends.1, ends.4)

pub returns-in-Err-carry_out-clause-ends : goal.returns-in-Err-carry_out-clause-ends
returns-in-Err-carry_out-clause-ends g c =
    let m : MachineData = c.race-raced.result.machine in
    let back = sym c.race-raced.ensures in
    let ends = c.in-Err-carry_out.ensures.ends in
    let h = ends.0 in
    (m, h, c.law_log.ensures.ran c.args.bytes.now m h (subst (λ x. Describes c.args.bytes.now (Ok x)) back c.in-Ok.ensures.answers) (subst IsMachine c.machine.ensures c.law_rules.ensures) ends.1, tt, c.law_log.ensures.log m h (subst IsReadBack back c.in-Ok.ensures.read_back) ends.3 ends.1, ends.4)
