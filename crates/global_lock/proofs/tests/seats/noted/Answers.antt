use Rattle.std.proofs.Common.{◌≡◌, ◌++◌, ◌∷◌, [], true, reverse, ap, subst, ◌∙◌}
use Rattle.acpi_regs.specs.CoreEvents.{IsUnsought, entry}
use Rattle.global_lock.specs.declared.tests.notes.Notes.{Notes}
use Rattle.global_lock.proofs.TestTurns.{left, may, one_entry}
use Rattle.global_lock.proofs.tests.seats.noted.Goals as goal

pub leave-requires-clause-table : goal.leave-requires-clause-table
leave-requires-clause-table g c = (c.taken-turn.ensures.inside c.args.actor c.requires.0 c.requires.1).0

pub leave-requires-clause-inside : goal.leave-requires-clause-inside
leave-requires-clause-inside g c = (c.taken-turn.ensures.inside c.args.actor c.requires.0 c.requires.1).1

pub leave-requires-clause-adds : goal.leave-requires-clause-adds
leave-requires-clause-adds g c =
    let a = c.args.actor in
    let d = c.args.deed in
    let k = c.requires.0 in
    let found = c.taken-turn.result.board.entries.items in
    let inside = c.taken-turn.ensures.inside a k c.requires.1 in
    let lets : c.lets.result ≡ true = cc in
    let noted : c.note.result ≡ true = cc in
    let same = c.board.ensures.value in
    let unsought = subst (λ (n : Notes). IsUnsought (reverse n.entries.items) a d) same (c.lets.ensures lets) in
    let adds = c.note.ensures.noted noted ∙ ap (λ (n : Notes). n.entries.items ++ entry a d ∷ []) (c.board-2.ensures.value ∙ same) in
    may c.args.table.now.table.shared.table_id a k found c.note.new.self.entries.items (d ∷ []) c.taken-turn.new.seat inside adds (one_entry k a d found c.requires.2 unsought)

pub returns : goal.returns
returns g c =
    let a = c.args.actor in
    let d = c.args.deed in
    let found = c.taken-turn.result.board.entries.items in
    let noted : c.note.result ≡ true = cc in
    let adds = c.note.ensures.noted noted ∙ ap (λ (n : Notes). n.entries.items ++ entry a d ∷ []) (c.board-2.ensures.value ∙ c.board.ensures.value) in
    λ k h. left c.args.table.now.table.shared.table_id a k found c.note.new.self.entries.items (d ∷ []) c.taken-turn.new.seat c.leave.new.seat (c.taken-turn.ensures.inside a k h) adds c.leave.ensures.same.0 c.leave.ensures.gave
