use Rattle.std.proofs.Common.{rules, ap, ◌∙◌, ◌∷◌, []}
use Rattle.lock_table.specs.Views.{seated, without}
use Rattle.lock_table.proofs.SeatFacts.{seat_fresh, seat_me, seat_without}
use Rattle.lock_table.proofs.Splitting.{splits_here}
use Rattle.lock_table.proofs.table.LockTable.split_as.Goals as goal

pub split_seat-other-requires : goal.split_seat-other-requires
split_seat-other-requires g c = (search rules, search rules, splits_here _ _ _ _ _ c.args.root.now.view _ _ (seat_me c.root.inside.badge _ _ c.taken-inner.ensures.2 c.root.view_is) c.requires.fresh)

pub invariant_of-root : goal.invariant_of-root
invariant_of-root g c =
    let me = seat_me c.root.inside.badge _ _ c.taken-inner.ensures.2 c.root.view_is in
    seat_without c.root.inside.badge c.into_badge.result c.args.root.now _ _ g.W.Named.actor c.root.view_is c.root.invariant (c.into_badge.ensures.2 ∙ ap (λ x. x.0 ∷ []) c.split_seat-other.ensures.2 ∙ ap (λ x. without g.W.Named.actor x.0 ∷ []) me)

pub invariant_of-result : goal.invariant_of-result
invariant_of-result g c =
    let me = seat_me c.root.inside.badge _ _ c.taken-inner.ensures.2 c.root.view_is in
    seat_fresh c.into_badge-2.result c.args.root.now.view g.W.Named.actor c.args.actor c.requires.fresh c.requires.named (c.into_badge-2.ensures.2 ∙ ap (λ x. x.0 ∷ []) c.split_seat-other.ensures.4 ∙ ap (λ x. seated g.W.Named.actor x.0 ∷ []) me)
