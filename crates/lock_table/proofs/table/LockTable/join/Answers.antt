use Rattle.std.proofs.Common.{rules, ap, ◌∙◌, ◌∷◌, []}
use Rattle.lock_table.specs.Views.{rejoined}
use Rattle.lock_table.proofs.SeatFacts.{learned_me, rejoined_me, seat_me, seat_rejoined}
use Rattle.lock_table.proofs.Joining.{joins_here, looks}
use Rattle.lock_table.proofs.table.LockTable.join.Goals as goal

pub join_seat-requires : goal.join_seat-requires
join_seat-requires g c =
    let me = seat_me c.root.inside.badge _ _ c.taken-inner.ensures.2 c.root.view_is in
    let its = seat_me c.seat.inside.badge _ _ c.risen.ensures.2 c.seat.view_is in
    (search rules, search rules, search rules, search rules, joins_here _ _ _ _ _ _ c.args.root.now.view c.args.seat.view _ _ _ _ me its c.requires.root.1 c.requires.seat.0.1 c.requires.seat.1)

pub load-requires : goal.load-requires
load-requires g c =
    let me = seat_me c.root.inside.badge _ _ c.taken-inner.ensures.2 c.root.view_is in
    let its = seat_me c.seat.inside.badge _ _ c.risen.ensures.2 c.seat.view_is in
    (search rules, search rules, looks _ _ _ _ _ _ (rejoined c.args.root.now.view c.args.seat.view) _ (rejoined_me c.args.root.now.view c.args.seat.view _ _ _ me its c.join_seat.ensures.2))

pub invariant_of-root : goal.invariant_of-root
invariant_of-root g c =
    let me = seat_me c.root.inside.badge _ _ c.taken-inner.ensures.2 c.root.view_is in
    let its = seat_me c.seat.inside.badge _ _ c.risen.ensures.2 c.seat.view_is in
    let joined = rejoined_me c.args.root.now.view c.args.seat.view _ _ _ me its c.join_seat.ensures.2 in
    seat_rejoined c.root.inside.badge c.seat.inside.badge c.into_badge.result c.args.root.now c.args.seat _ _ _ _ c.root.view_is c.root.invariant c.seat.view_is c.seat.invariant c.requires.root c.requires.seat.0 c.requires.seat.1
    (c.into_badge.ensures.2 ∙ ap (λ x. x.0 ∷ []) (learned_me _ _ _ joined c.load.ensures.2.0))
