use Rattle.acpi_commands.proofs.replay.replay.Goals as goal

pub returns-in-Ok-carry_out-clause-ends : goal.returns-in-Ok-carry_out-clause-ends
returns-in-Ok-carry_out-clause-ends g c =
    let m = c.in-Ok.staged.machine in
    let ends = c.in-Ok-carry_out.ensures.ends in
    let h = ends.0 in
    (m, h, c.law_log.ensures.ran c.args.bytes.now m h c.in-Ok.ensures.ok c.law_rules.ensures ends.1, ends.2, c.law_log.ensures.log m h c.in-Ok.ensures.read_back ends.3 ends.1, ends.4)

pub returns-in-Err-carry_out-clause-ends : goal.returns-in-Err-carry_out-clause-ends
returns-in-Err-carry_out-clause-ends g c =
    let m = c.in-Ok.staged.machine in
    let ends = c.in-Err-carry_out.ensures.ends in
    let h = ends.0 in
    (m, h, c.law_log.ensures.ran c.args.bytes.now m h c.in-Ok.ensures.ok c.law_rules.ensures ends.1, ends.2, c.law_log.ensures.log m h c.in-Ok.ensures.read_back ends.3 ends.1, ends.4)
