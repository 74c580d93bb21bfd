use Rattle.std.proofs.Common.{◌++◌, ◌∷◌, [], refl, ap, ◌∙◌}
use Rattle.acpi_regs.specs.declared.entry.Deed.TheVariants as deed
use Rattle.acpi_regs.specs.CoreEvents.{entry}
use Rattle.global_lock.specs.declared.tests.notes.Notes.{Notes}
use Rattle.global_lock.proofs.TestTurns.{left_idle, may_made}
use Rattle.global_lock.proofs.tests.threads.started.Goals as goal

pub leave-requires-clause-adds : goal.leave-requires-clause-adds
leave-requires-clause-adds c =
    let a = c.args.actor in
    let d = deed.Start c.args.number in
    let found = c.args.turn.board.entries.items in
    let same = c.board.ensures.value in
    may_made c.args.table.now.table.shared.table_id a d found c.note-made.new.self.entries.items c.note-made.result c.args.seat.now c.requires.inside (refl, refl, refl) tt
    (λ is. c.note-made.ensures.noted is ∙ ap (λ (n : Notes). n.entries.items ++ entry a d ∷ []) same) (λ is. c.note-made.ensures.full is ∙ ap (λ (n : Notes). n.entries.items) same)

pub returns : goal.returns
returns c =
    let a = c.args.actor in
    let d = deed.Start c.args.number in
    let found = c.args.turn.board.entries.items in
    let same = c.board.ensures.value in
    left_idle c.args.table.now.table.shared.table_id a d found c.note-made.new.self.entries.items c.note-made.result c.args.seat.now c.leave.new.seat c.requires.inside refl
    (λ is. c.note-made.ensures.noted is ∙ ap (λ (n : Notes). n.entries.items ++ entry a d ∷ []) same) (λ is. c.note-made.ensures.full is ∙ ap (λ (n : Notes). n.entries.items) same) c.leave.ensures.same.0 c.leave.ensures.gave
