use Rattle.std.proofs.Common.{[], refl, None}
use Rattle.acpi_regs.specs.declared.actor.Actor.TheVariants as actor
use Rattle.acpi_regs.specs.declared.phase.LockPhase.TheVariants as lock
use Rattle.lock_table.specs.declared.view.SeatPhase.TheVariants as kept
use Rattle.global_lock.proofs.tests.rows.a_lock_is_acquired_found_busy_and_given_up.Goals as goal

pub seated-w0-requires-clause-fresh : goal.seated-w0-requires-clause-fresh
seated-w0-requires-clause-fresh g c =
    c.seated-f0.ensures.fresh [] c.in_ok-table.ensures.fresh (actor.Worker 0) refl refl

pub owns-requires : goal.owns-requires
owns-requires g c =
    let f1 = c.noted.ensures (kept.Lock lock.Idle) c.seated-f0.ensures.seat in
    ((actor.Firmware 0), None, f1)

pub is_busy-requires : goal.is_busy-requires
is_busy-requires g c =
    let v1 = c.noted-2.ensures (kept.Lock lock.Idle) c.seated-w0.ensures.seat in
    ((actor.Worker 0), None, v1)

pub noted-requires-3 : goal.noted-requires-3
noted-requires-3 g c =
    let f1 = c.noted.ensures (kept.Lock lock.Idle) c.seated-f0.ensures.seat in
    let f2 = c.owns.ensures (actor.Firmware 0) (kept.Lock (lock.Seeking None)) f1 in
    ((kept.Lock lock.Won), f2, (refl, refl, refl))

pub noted-requires-4 : goal.noted-requires-4
noted-requires-4 g c =
    let f1 = c.noted.ensures (kept.Lock lock.Idle) c.seated-f0.ensures.seat in
    let f2 = c.owns.ensures (actor.Firmware 0) (kept.Lock (lock.Seeking None)) f1 in
    let f3 = c.noted-3.ensures (kept.Lock lock.Won) f2 in
    ((kept.Lock lock.Owning), f3, (refl, refl, refl))

pub gives_up-requires : goal.gives_up-requires
gives_up-requires g c =
    let f1 = c.noted.ensures (kept.Lock lock.Idle) c.seated-f0.ensures.seat in
    let f2 = c.owns.ensures (actor.Firmware 0) (kept.Lock (lock.Seeking None)) f1 in
    let f3 = c.noted-3.ensures (kept.Lock lock.Won) f2 in
    let f4 = c.noted-4.ensures (kept.Lock lock.Owning) f3 in
    ((actor.Firmware 0), f4)
