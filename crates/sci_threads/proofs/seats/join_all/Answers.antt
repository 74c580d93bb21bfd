use Rattle.std.proofs.Common.{◌≡◌, ◌++◌, ◌∷◌, [], length, sym, ap, subst, ◌∙◌, append-nil, vec_capacity, vec_len, arith}
use Rattle.std.specs.List.{All}
use Rattle.std.specs.Vec.Iter.{into_iter_items, into_iter_len}
use Rattle.lock_table.specs.Views.{StartsWith}
use Rattle.sci_threads.specs.declared.shared.ActorSeat.{ActorSeat}
use Rattle.sci_threads.proofs.SeatsBack.{nothing_left, rejoins_more}
use Rattle.sci_threads.proofs.seats.join_all.Goals as goal

pub loop-seat-preserved : goal.loop-seat-preserved
loop-seat-preserved c =
    let at = c.loop-seat in
    let x = c.in-Some.seat in
    let left = into_iter_items c.next.new.self in
    let steps : into_iter_items at.seat-iterator ≡ x ∷ left = c.in-Some.ensures.steps.0 in
    let gone = c.in-Some.ensures.steps.1 in
    let was = at.invariant.counted in
    let short = ap length steps in
    let counted : into_iter_len c.next.new.self ≡ length left = omega arith in
    rejoins_more c.args.table.now.table.shared.table_id c.args.root.now at.root c.join.new.root c.args.seats.items at.yielded (into_iter_items at.seat-iterator) left (into_iter_len at.seat-iterator) (into_iter_len c.next.new.self)
    c.args.actors.now.items at.actors.items c.push_reserved.new.self.items (vec_capacity at.actors) (vec_len at.actors) (vec_capacity c.push_reserved.new.self) (vec_len c.push_reserved.new.self) x
    at.invariant c.requires.agree steps counted c.join.ensures.same.0 c.join.ensures.view c.join.ensures.seen.0 c.join.ensures.seen.1 c.push_reserved.ensures.items c.push_reserved.ensures.len c.push_reserved.ensures.capacity

pub returns-clause-told : goal.returns-clause-told
returns-clause-told c =
    let at = c.loop-seat in
    let none = c.in-None.ensures.steps in
    let empty : into_iter_items at.seat-iterator ≡ [] = nothing_left _ (sym at.invariant.counted ∙ none.0) in
    let all = sym (append-nil at.yielded) ∙ ap (λ l. at.yielded ++ l) (sym empty) ∙ at.invariant.split in
    subst (All (λ (y : ActorSeat). StartsWith at.root.view.seen y.seat.view.seen)) all at.invariant.joining.told
