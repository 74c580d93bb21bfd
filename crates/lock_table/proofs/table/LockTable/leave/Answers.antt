use Rattle.std.proofs.Common.{rules, refl, ap, ◌∙◌, ◌∷◌, [], subst}
use Rattle.lock_table.specs.declared.view.Stage.TheVariants as stage
use Rattle.lock_table.specs.Views.{IsOwn, staged}
use Rattle.lock_table.proofs.SeatFacts.{gave_me, lifted_me, seat_gave, seat_me, swapped_me}
use Rattle.lock_table.proofs.TurnSteps.{gives_turn, lifts}
use Rattle.lock_table.proofs.table.LockTable.leave.Goals as goal

pub load-requires : goal.load-requires
load-requires g c = (search rules, search rules, lifts _ _ _ _ _ _ _ _ (seat_me c.seat.inside.badge _ _ c.taken-inner.ensures.2 c.seat.view_is) c.requires.inside)

pub store-requires : goal.store-requires
store-requires g c = (
  search rules,
  search rules,
  gives_turn _ _ _ _ _ _ (staged stage.Carrying c.args.seat.now.view) _ _ (swapped_me _ _ _ _ _ (lifted_me _ _ _ (seat_me c.seat.inside.badge _ _ c.taken-inner.ensures.2 c.seat.view_is) c.load.ensures.2) c.exchange-empty.ensures.3) refl c.requires.base c.requires.adds,
)

pub invariant_of-seat : goal.invariant_of-seat
invariant_of-seat g c =
    let h = g.B.Recorded.entries c.args.turn.board in
    let lifted = lifted_me _ _ _ (seat_me c.seat.inside.badge _ _ c.taken-inner.ensures.2 c.seat.view_is) c.load.ensures.2 in
    let given = gave_me g.B.Recorded.entries c.args.turn.board c.args.seat.now.view _ _ (swapped_me _ _ _ _ _ lifted c.exchange-empty.ensures.3) c.store.ensures.2.0 in
    seat_gave c.seat.inside.badge c.into_badge.result c.args.seat.now _ _ h c.seat.view_is c.seat.invariant (c.into_badge.ensures.2 ∙ ap (λ x. x.0 ∷ []) given) (subst (λ x. IsOwn x.0) given c.store.ensures.2.1)
