use Rattle.std.proofs.Common.{◌∷◌, [], refl, None}
use Rattle.acpi_regs.specs.declared.actor.Actor.TheVariants as actor
use Rattle.acpi_regs.specs.declared.phase.LockPhase.TheVariants as lock
use Rattle.lock_table.specs.declared.view.SeatPhase.TheVariants as kept
use Rattle.lock_table.proofs.Rooting.{fresh_has, has_all}
use Rattle.global_lock.proofs.TestTurns.{seat_one}
use Rattle.global_lock.proofs.tests.rows.an_attempt_takes_a_free_word_and_marks_an_owned_one.Goals as goal

pub seated-f0-requires-clause-fresh : goal.seated-f0-requires-clause-fresh
seated-f0-requires-clause-fresh g c =
    c.seated-int.ensures.fresh [] c.in_ok-table.ensures.fresh (actor.Firmware 0) refl refl

pub seated-w0-requires-clause-fresh : goal.seated-w0-requires-clause-fresh
seated-w0-requires-clause-fresh g c =
    c.seated-f0.ensures.fresh (actor.Int ∷ []) (c.seated-int.ensures.fresh [] c.in_ok-table.ensures.fresh) (actor.Worker 0) refl refl

pub wins-requires : goal.wins-requires
wins-requires g c =
    let f1 = c.noted.ensures (kept.Lock lock.Idle) c.seated-f0.ensures.seat in
    ((actor.Firmware 0), None, f1)

pub marks-requires : goal.marks-requires
marks-requires g c =
    let v1 = c.noted-2.ensures (kept.Lock lock.Idle) c.seated-w0.ensures.seat in
    ((actor.Worker 0), None, v1)

pub noted-requires-3 : goal.noted-requires-3
noted-requires-3 g c =
    let v1 = c.noted-2.ensures (kept.Lock lock.Idle) c.seated-w0.ensures.seat in
    let v2 = c.marks.ensures (actor.Worker 0) (kept.Lock (lock.Seeking None)) v1 in
    ((kept.Lock lock.Marked), v2, (refl, refl, refl))

pub noted-requires-4 : goal.noted-requires-4
noted-requires-4 g c =
    let f1 = c.noted.ensures (kept.Lock lock.Idle) c.seated-f0.ensures.seat in
    let f2 = c.wins.ensures (actor.Firmware 0) (kept.Lock (lock.Seeking None)) f1 in
    ((kept.Lock lock.Won), f2, (refl, refl, refl))

pub noted-requires-6 : goal.noted-requires-6
noted-requires-6 g c =
    let v1 = c.noted-2.ensures (kept.Lock lock.Idle) c.seated-w0.ensures.seat in
    let v2 = c.marks.ensures (actor.Worker 0) (kept.Lock (lock.Seeking None)) v1 in
    let v3 = c.noted-3.ensures (kept.Lock lock.Marked) v2 in
    ((kept.Lock lock.Waiting), v3, (refl, refl, refl))

pub marks-requires-2 : goal.marks-requires-2
marks-requires-2 g c =
    let v1 = c.noted-2.ensures (kept.Lock lock.Idle) c.seated-w0.ensures.seat in
    let v2 = c.marks.ensures (actor.Worker 0) (kept.Lock (lock.Seeking None)) v1 in
    let v3 = c.noted-3.ensures (kept.Lock lock.Marked) v2 in
    let v4 = c.noted-6.ensures (kept.Lock lock.Waiting) v3 in
    ((actor.Worker 0), None, v4)

pub back-requires-clause-seat : goal.back-requires-clause-seat
back-requires-clause-seat g c =
    let v1 = c.noted-2.ensures (kept.Lock lock.Idle) c.seated-w0.ensures.seat in
    let v2 = c.marks.ensures (actor.Worker 0) (kept.Lock (lock.Seeking None)) v1 in
    let v3 = c.noted-3.ensures (kept.Lock lock.Marked) v2 in
    let v4 = c.noted-6.ensures (kept.Lock lock.Waiting) v3 in
    let v5 = c.marks-2.ensures (actor.Worker 0) (kept.Lock (lock.Seeking None)) v4 in
    ((v5.0, v5.1), seat_one _ (actor.Worker 0) (kept.Lock lock.Marked) c.marks-2.new.seat v5)

pub back-requires-2-clause-seat : goal.back-requires-2-clause-seat
back-requires-2-clause-seat g c =
    let f1 = c.noted.ensures (kept.Lock lock.Idle) c.seated-f0.ensures.seat in
    let f2 = c.wins.ensures (actor.Firmware 0) (kept.Lock (lock.Seeking None)) f1 in
    let f3 = c.noted-4.ensures (kept.Lock lock.Won) f2 in
    ((f3.0, f3.1), seat_one _ (actor.Firmware 0) (kept.Lock lock.Won) c.noted-4.new.seat f3)

pub back-requires-3-clause-seat : goal.back-requires-3-clause-seat
back-requires-3-clause-seat g c =
    let i1 = c.noted-5.ensures kept.Free c.seated-int.ensures.seat in
    ((i1.0, i1.1), seat_one _ actor.Int kept.Free c.noted-5.new.seat i1)

pub close-board-requires-clause-joined : goal.close-board-requires-clause-joined
close-board-requires-clause-joined g c =
    let fresh = c.seated-w0.ensures.fresh ((actor.Firmware 0) ∷ actor.Int ∷ []) (c.seated-f0.ensures.fresh (actor.Int ∷ []) (c.seated-int.ensures.fresh [] c.in_ok-table.ensures.fresh)) in
    has_all c.back-3.new.root.view (c.back-3.ensures.has [] (c.back-2.ensures.has (actor.Int ∷ []) (c.back.ensures.has ((actor.Firmware 0) ∷ actor.Int ∷ []) (fresh_has ((actor.Worker 0) ∷ (actor.Firmware 0) ∷ actor.Int ∷ []) c.seated-w0.new.root.view fresh))))
