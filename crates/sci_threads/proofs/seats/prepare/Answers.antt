use Rattle.std.proofs.Common.{◌≡◌, ◌∷◌, ◌++◌, [], rules}
use Rattle.machine_desc.specs.Actors.{actors_of}
use Rattle.sci_threads.specs.declared.shared.ActorSeat.{ActorSeat}
use Rattle.sci_threads.proofs.Seating.{actor_known, actor_new, prepares, prepares_more, root_more}
use Rattle.sci_threads.proofs.seats.prepare.Goals as goal

pub loop-k-init : goal.loop-k-init
loop-k-init c = prepares c.args.table.now.table.shared.table_id (actors_of c.args.machine.now) c.actors-count.result c.args.root.now c.in_ok-seats.seats.items c.in_ok-seats.ensures.items c.actors-count.ensures.value c.requires.root c.requires.fresh

pub split-seat-requires-clause-table : goal.split-seat-requires-clause-table
split-seat-requires-clause-table c = c.loop-k.invariant.here.table

pub split-seat-requires-clause-fresh : goal.split-seat-requires-clause-fresh
split-seat-requires-clause-fresh c =
    let m = c.args.machine.now in
    let at = c.actor-name.ensures in
    c.loop-k.invariant.fresh c.actor-name.result (actor_known m c.loop-k.k c.actor-name.result c.law_rules.ensures at) (actor_new m c.loop-k.k c.actor-name.result at)

pub returns-in_err-push-clause-root : goal.returns-in_err-push-clause-root
returns-in_err-push-clause-root c = root_more c.args.table.now.table.shared.table_id c.actor-name.result c.loop-k.root c.split-seat.new.root c.split-seat.ensures.same.0.0 c.split-seat.ensures.views.0 c.loop-k.invariant.here

pub loop-k-preserved : goal.loop-k-preserved
loop-k-preserved c =
    let m = c.args.machine.now in
    let k = c.loop-k.k in
    let a = c.actor-name.result in
    let at = c.actor-name.ensures in
    let old = c.loop-k.seats.items in
    let x : ActorSeat = record { actor = c.new-actor.result; seat = c.split-seat.result } in
    let items : c.push.new.self.items ≡ old ++ x ∷ [] = search rules in
    let there = c.loop-k.invariant.fresh a (actor_known m k a c.law_rules.ensures at) (actor_new m k a at) in
    prepares_more c.args.table.now.table.shared.table_id (actors_of m) k c.actors-count.result a c.loop-k.root c.split-seat.new.root old c.push.new.self.items x c.loop-k.invariant at there
    c.split-seat.ensures.same.0.0 c.split-seat.ensures.same.1 c.split-seat.ensures.views.0 c.split-seat.ensures.views.1 c.new-actor.ensures.who c.new-actor.ensures.stands items
