use Rattle.std.proofs.Common.{◌≡◌, ◌++◌, ◌∙◌, OnOk, subst}
use Rattle.machine_reader.specs.Texts.{first_text, next_text, last_text}
use Rattle.machine_reader.proofs.Lists.{behind}
use Rattle.machine_reader.proofs.Pieces.{description_pieces}
use Rattle.machine_reader.proofs.members.put_description.Goals as goal

pub returns : goal.returns
returns c =
    let r = c.put_last_members.result in
    let m = c.args.machine.now in
    let old = c.args.out.now.items in
    let mid = c.put_first_members.new.out.items in
    let after = c.put_next_members.new.out.items in
    let last = c.put_last_members.new.out.items in
    let first = c.in_ok-put_first_members.ensures ∙ (λ i. old ++ first_text (c.version.ensures i) (c.controller.ensures i) (c.devices.ensures i) (c.events.ensures i) (c.fields.ensures i)) in
    let next = c.in_ok-put_next_members.ensures ∙ (λ i. mid ++ next_text (c.firmware.ensures i) (c.gpe0.ensures i) (c.base1.ensures i) (c.gpe1.ensures i) (c.regions.ensures i)) in
    let end = subst (λ t. OnOk r (last ≡ after ++ t)) (λ i. last_text (c.schedule.ensures i) (c.version-2.ensures i) (c.workers.ensures i)) c.put_last_members.ensures in
    let x1 = first_text m.version m.controller m.devices m.events m.fields in
    let x2 = next_text m.firmware m.gpe0 m.base1 m.gpe1 m.regions in
    let x3 = last_text m.schedule m.version m.workers in
    rw (description_pieces m) (behind old mid last x1 (x2 ++ x3) r first (behind mid after last x2 x3 r next end))
