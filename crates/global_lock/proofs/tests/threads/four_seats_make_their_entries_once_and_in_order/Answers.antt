use Rattle.std.proofs.Common.{◌∷◌, [], refl}
use Rattle.acpi_regs.specs.declared.actor.Actor.TheVariants as actor
use Rattle.lock_table.proofs.Rooting.{fresh_has, has_all}
use Rattle.global_lock.proofs.tests.threads.four_seats_make_their_entries_once_and_in_order.Goals as goal

pub idle-requires-2-clause-fresh : goal.idle-requires-2-clause-fresh
idle-requires-2-clause-fresh g c = c.idle.ensures.fresh [] c.in_ok-table.ensures.fresh (actor.Worker 1) refl refl

pub idle-requires-3-clause-fresh : goal.idle-requires-3-clause-fresh
idle-requires-3-clause-fresh g c = c.idle-2.ensures.fresh (actor.Worker 0 ∷ []) (c.idle.ensures.fresh [] c.in_ok-table.ensures.fresh) (actor.Firmware 0) refl refl

pub idle-requires-4-clause-fresh : goal.idle-requires-4-clause-fresh
idle-requires-4-clause-fresh g c =
    let two = c.idle-2.ensures.fresh (actor.Worker 0 ∷ []) (c.idle.ensures.fresh [] c.in_ok-table.ensures.fresh) in
    c.idle-3.ensures.fresh (actor.Worker 1 ∷ actor.Worker 0 ∷ []) two (actor.Firmware 1) refl refl

pub close-board-requires-clause-joined : goal.close-board-requires-clause-joined
close-board-requires-clause-joined g c =
    let w0 = actor.Worker 0 in
    let w1 = actor.Worker 1 in
    let f0 = actor.Firmware 0 in
    let f1 = actor.Firmware 1 in
    let two = c.idle-2.ensures.fresh (w0 ∷ []) (c.idle.ensures.fresh [] c.in_ok-table.ensures.fresh) in
    let fresh = c.idle-4.ensures.fresh (f0 ∷ w1 ∷ w0 ∷ []) (c.idle-3.ensures.fresh (w1 ∷ w0 ∷ []) two) in
    let all = c.back.ensures.has (f0 ∷ w1 ∷ w0 ∷ []) (fresh_has (f1 ∷ f0 ∷ w1 ∷ w0 ∷ []) c.idle-4.new.root.view fresh) in
    has_all c.back-4.new.root.view (c.back-4.ensures.has [] (c.back-3.ensures.has (w0 ∷ []) (c.back-2.ensures.has (w1 ∷ w0 ∷ []) all)))
