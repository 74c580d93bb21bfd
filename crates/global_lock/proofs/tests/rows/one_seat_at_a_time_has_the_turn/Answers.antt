use Rattle.std.proofs.Common.{◌∷◌, [], refl}
use Rattle.acpi_regs.specs.declared.actor.Actor.TheVariants as actor
use Rattle.acpi_regs.specs.declared.phase.LockPhase.TheVariants as lock
use Rattle.lock_table.specs.declared.view.SeatPhase.TheVariants as kept
use Rattle.lock_table.proofs.Rooting.{fresh_has, has_all}
use Rattle.global_lock.proofs.TestTurns.{seat_one}
use Rattle.global_lock.proofs.tests.rows.one_seat_at_a_time_has_the_turn.Goals as goal

pub seated-second-requires-clause-fresh : goal.seated-second-requires-clause-fresh
seated-second-requires-clause-fresh g c = c.seated-first.ensures.fresh [] c.in_ok-table.ensures.fresh (actor.Worker 0) refl refl

pub passed-requires-clause-inside : goal.passed-requires-clause-inside
passed-requires-clause-inside g c = (actor.Firmware 0, kept.Lock lock.Idle, c.taken-turn.ensures.inside (actor.Firmware 0) (kept.Lock lock.Idle) c.seated-first.ensures.seat, refl)

pub taken-turn-requires-2 : goal.taken-turn-requires-2
taken-turn-requires-2 g c = let r = c.finds_out.ensures (actor.Worker 0) (kept.Lock lock.Idle) c.seated-second.ensures.seat refl in (r.0, r.1)

pub passed-requires-2-clause-inside : goal.passed-requires-2-clause-inside
passed-requires-2-clause-inside g c =
    let r = c.finds_out.ensures (actor.Worker 0) (kept.Lock lock.Idle) c.seated-second.ensures.seat refl in
    (actor.Worker 0, kept.Lock lock.Idle, c.taken-turn-2.ensures.inside (actor.Worker 0) (kept.Lock lock.Idle) r, refl)

pub back-requires-clause-seat : goal.back-requires-clause-seat
back-requires-clause-seat g c =
    let r = c.finds_out.ensures (actor.Worker 0) (kept.Lock lock.Idle) c.seated-second.ensures.seat refl in
    let p = c.passed-2.ensures (actor.Worker 0) (kept.Lock lock.Idle) (c.taken-turn-2.ensures.inside (actor.Worker 0) (kept.Lock lock.Idle) r) in
    ((p.0, p.1), seat_one _ (actor.Worker 0) (kept.Lock lock.Idle) c.passed-2.new.seat p)

pub back-requires-2-clause-seat : goal.back-requires-2-clause-seat
back-requires-2-clause-seat g c =
    let p = c.passed.ensures (actor.Firmware 0) (kept.Lock lock.Idle) (c.taken-turn.ensures.inside (actor.Firmware 0) (kept.Lock lock.Idle) c.seated-first.ensures.seat) in
    ((p.0, p.1), seat_one _ (actor.Firmware 0) (kept.Lock lock.Idle) c.passed.new.seat p)

pub close-board-requires-clause-joined : goal.close-board-requires-clause-joined
close-board-requires-clause-joined g c =
    let f0 = actor.Firmware 0 in
    let w0 = actor.Worker 0 in
    let fresh = c.seated-second.ensures.fresh (f0 ∷ []) (c.seated-first.ensures.fresh [] c.in_ok-table.ensures.fresh) in
    has_all c.back-2.new.root.view (c.back-2.ensures.has [] (c.back.ensures.has (f0 ∷ []) (fresh_has (w0 ∷ f0 ∷ []) c.seated-second.new.root.view fresh)))
