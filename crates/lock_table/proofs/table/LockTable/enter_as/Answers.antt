use Rattle.std.proofs.Common.{rules, refl}
use Rattle.lock_table.proofs.SeatFacts.{has_slot, seat_me, seat_somebody, swapped_me, took_me}
use Rattle.lock_table.proofs.TurnSteps.{puts_in, takes_turn}
use Rattle.lock_table.proofs.table.LockTable.enter_as.Goals as goal

pub compare_exchange-found-requires : goal.compare_exchange-found-requires
compare_exchange-found-requires g c = (search rules, search rules, takes_turn _ _ _ _ _ _ _ _ _ (seat_me c.seat.inside.badge _ _ c.taken-inner.ensures.2 c.seat.view_is) c.requires.away (seat_somebody _ _ _ _ c.seat.view_is c.seat.invariant) c.requires.base)

pub exchange-requires : goal.exchange-requires
exchange-requires g c =
    let t = c.compare_exchange-found.ensures.2.0 c.if-found-ne0.false in
    (search rules, has_slot _ _ _ (took_me _ _ _ _ _ (seat_me c.seat.inside.badge _ _ c.taken-inner.ensures.2 c.seat.view_is) t.3))

pub load-requires : goal.load-requires
load-requires g c =
    let t = c.compare_exchange-found.ensures.2.0 c.if-found-ne0.false in (
      search rules,
      search rules,
      puts_in _ _ _ _ _ _ _ _ (swapped_me _ _ _ _ _ (took_me _ _ _ _ _ (seat_me c.seat.inside.badge _ _ c.taken-inner.ensures.2 c.seat.view_is) t.3) c.exchange.ensures.3) refl,
    )
