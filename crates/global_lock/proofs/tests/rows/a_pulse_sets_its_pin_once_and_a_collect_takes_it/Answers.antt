use Rattle.std.proofs.Common.{◌≡◌, ◌++◌, ◌∷◌, [], true, refl, sym, ap, ◌∙◌}
use Rattle.acpi_regs.specs.declared.actor.Actor.TheVariants as actor
use Rattle.acpi_regs.specs.declared.entry.Deed.TheVariants as deed
use Rattle.acpi_regs.specs.declared.event.Event.TheVariants as event
use Rattle.lock_table.specs.declared.view.SeatPhase.TheVariants as kept
use Rattle.lock_table.specs.Views.{holding, with_one}
use Rattle.lock_table.proofs.Rooting.{fresh_has, has_all}
use Rattle.global_lock.specs.declared.tests.notes.Notes.{Notes}
use Rattle.lock_table.specs.declared.seat.Turn.{Turn}
use Rattle.global_lock.proofs.TestTurns.{collected_inside, free_host, left, may, one_latch, seat_one}
use Rattle.global_lock.proofs.tests.rows.a_pulse_sets_its_pin_once_and_a_collect_takes_it.Goals as goal

pub seated-d0-requires-clause-fresh : goal.seated-d0-requires-clause-fresh
seated-d0-requires-clause-fresh g c =
    c.seated-int.ensures.fresh [] c.in_ok-table.ensures.fresh (actor.Device 0) refl refl

pub collect-bits-requires-clause-table : goal.collect-bits-requires-clause-table
collect-bits-requires-clause-table g c =
    let inside = c.taken-turn.ensures.inside actor.Int kept.Free c.seated-int.ensures.seat in
    inside.0

pub collect-bits-requires-clause-inside : goal.collect-bits-requires-clause-inside
collect-bits-requires-clause-inside g c =
    let inside = c.taken-turn.ensures.inside actor.Int kept.Free c.seated-int.ensures.seat in
    inside.1

pub collect-bits-requires-clause-may : goal.collect-bits-requires-clause-may
collect-bits-requires-clause-may g c =
    let inside = c.taken-turn.ensures.inside actor.Int kept.Free c.seated-int.ensures.seat in
    let found = c.taken-turn.result.board.entries.items in
    free_host c.in_ok-table.table.table.shared.table_id found c.taken-turn.new.seat inside

pub collect-bits-requires-clause-entered : goal.collect-bits-requires-clause-entered
collect-bits-requires-clause-entered g c =
    let inside = c.taken-turn.ensures.inside actor.Int kept.Free c.seated-int.ensures.seat in
    sym inside.2

pub leave-requires-clause-table : goal.leave-requires-clause-table
leave-requires-clause-table g c =
    let inside = c.taken-turn.ensures.inside actor.Int kept.Free c.seated-int.ensures.seat in
    let found = c.taken-turn.result.board.entries.items in
    let view = c.collect-bits.ensures.collects ∙ ap (λ h. with_one (holding h) c.taken-turn.new.seat.view) c.assert_one_gpe.ensures in
    let held = collected_inside c.in_ok-table.table.table.shared.table_id actor.Int kept.Free (0 ∷ 8 ∷ 0 ∷ 0 ∷ 0 ∷ []) found c.taken-turn.new.seat c.collect-bits.new.seat c.collect-bits.ensures.same.0 view inside in
    held.0

pub leave-requires-clause-inside : goal.leave-requires-clause-inside
leave-requires-clause-inside g c =
    let inside = c.taken-turn.ensures.inside actor.Int kept.Free c.seated-int.ensures.seat in
    let found = c.taken-turn.result.board.entries.items in
    let view = c.collect-bits.ensures.collects ∙ ap (λ h. with_one (holding h) c.taken-turn.new.seat.view) c.assert_one_gpe.ensures in
    let held = collected_inside c.in_ok-table.table.table.shared.table_id actor.Int kept.Free (0 ∷ 8 ∷ 0 ∷ 0 ∷ 0 ∷ []) found c.taken-turn.new.seat c.collect-bits.new.seat c.collect-bits.ensures.same.0 view inside in
    held.1

pub leave-requires-clause-adds : goal.leave-requires-clause-adds
leave-requires-clause-adds g c =
    let inside = c.taken-turn.ensures.inside actor.Int kept.Free c.seated-int.ensures.seat in
    let found = c.taken-turn.result.board.entries.items in
    let view = c.collect-bits.ensures.collects ∙ ap (λ h. with_one (holding h) c.taken-turn.new.seat.view) c.assert_one_gpe.ensures in
    let held = collected_inside c.in_ok-table.table.table.shared.table_id actor.Int kept.Free (0 ∷ 8 ∷ 0 ∷ 0 ∷ 0 ∷ []) found c.taken-turn.new.seat c.collect-bits.new.seat c.collect-bits.ensures.same.0 view inside in
    let noted : c.note.result ≡ true = cc in
    let adds = c.note.ensures.noted noted ∙ ap (λ (n : Notes). n.entries.items ++ record { actor = actor.Int; deed = deed.Latch (event.Gpe 3) } ∷ []) (c.board.ensures.value ∙ ap (λ (t : Turn Notes). t.board) c.collect-bits.ensures.turn) in
    may c.in_ok-table.table.table.shared.table_id actor.Int (kept.Holding (0 ∷ 8 ∷ 0 ∷ 0 ∷ 0 ∷ [])) found c.note.new.self.entries.items (deed.Latch (event.Gpe 3) ∷ []) c.collect-bits.new.seat held adds (one_latch _)

pub back-requires-2-clause-seat : goal.back-requires-2-clause-seat
back-requires-2-clause-seat g c =
    let inside = c.taken-turn.ensures.inside actor.Int kept.Free c.seated-int.ensures.seat in
    let found = c.taken-turn.result.board.entries.items in
    let view = c.collect-bits.ensures.collects ∙ ap (λ h. with_one (holding h) c.taken-turn.new.seat.view) c.assert_one_gpe.ensures in
    let held = collected_inside c.in_ok-table.table.table.shared.table_id actor.Int kept.Free (0 ∷ 8 ∷ 0 ∷ 0 ∷ 0 ∷ []) found c.taken-turn.new.seat c.collect-bits.new.seat c.collect-bits.ensures.same.0 view inside in
    let noted : c.note.result ≡ true = cc in
    let adds = c.note.ensures.noted noted ∙ ap (λ (n : Notes). n.entries.items ++ record { actor = actor.Int; deed = deed.Latch (event.Gpe 3) } ∷ []) (c.board.ensures.value ∙ ap (λ (t : Turn Notes). t.board) c.collect-bits.ensures.turn) in
    let rest = left c.in_ok-table.table.table.shared.table_id actor.Int (kept.Holding (0 ∷ 8 ∷ 0 ∷ 0 ∷ 0 ∷ [])) found c.note.new.self.entries.items (deed.Latch (event.Gpe 3) ∷ []) c.collect-bits.new.seat c.leave.new.seat held adds c.leave.ensures.same.0 c.leave.ensures.gave in
    ((rest.0, rest.1), seat_one _ actor.Int kept.Free c.leave.new.seat rest)

pub close-board-requires-clause-joined : goal.close-board-requires-clause-joined
close-board-requires-clause-joined g c =
    let fresh = c.seated-d0.ensures.fresh (actor.Int ∷ []) (c.seated-int.ensures.fresh [] c.in_ok-table.ensures.fresh) in
    has_all c.back-2.new.root.view (c.back-2.ensures.has [] (c.back.ensures.has (actor.Int ∷ []) (fresh_has (actor.Device 0 ∷ actor.Int ∷ []) c.seated-d0.new.root.view fresh)))
