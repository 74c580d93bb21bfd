use Rattle.std.proofs.Common.{◌≡◌, ◌∷◌, ◌++◌, [], reverse, ap, ◌∙◌, subst, arith}
use Rattle.event_chip.specs.Chip.{slot_of}
use Rattle.machine_core.specs.Actors.{Moves, state_of}
use Rattle.machine_core.specs.Cells.{byte_in}
use Rattle.machine_core.proofs.Kept.{kept_after, kept_as, newest_allowed, ready}
use Rattle.machine_core.proofs.Steps.{actors_step, cells_step, events_step}
use Rattle.machine_history.specs.Events.{slot_after, touched}
use Rattle.machine_history.specs.Jobs.{and_job, jobs, made}
use Rattle.machine_history.specs.Legal.{Legal}
use Rattle.machine_history.specs.Values.{value_after}
use Rattle.machine_core.proofs.board.Board.apply.Goals as goal

pub go_on-requires : goal.go_on-requires
go_on-requires c =
    let b = c.self.inside in
    let legal = rw (← c.self.view_is) at c.requires in
    record {
      stands = (c.self.invariant.actors_are.each c.args.entry.actor).stands;
      fits = (ready b.machine b.journal.items c.args.entry b.lock b.events b.actors b.jobs b.wire b.cells _ _ c.law_rules.ensures c.self.invariant legal).fits;
    }

pub touch-requires : goal.touch-requires
touch-requires c = c.self.invariant.events_are.size

pub add-requires : goal.add-requires
add-requires c =
    let b = c.self.inside in
    let legal = rw (← c.self.view_is) at c.requires in
    let r = ready b.machine b.journal.items c.args.entry b.lock b.events b.actors b.jobs b.wire b.cells _ _ c.law_rules.ensures c.self.invariant legal in
    record {
      room = r.jobs_left;
      starts = let few = r.starts_left in omega (arith, few);
    }

pub after-requires : goal.after-requires
after-requires c =
    let b = c.self.inside in
    let legal = rw (← c.self.view_is) at c.requires in
    (ready b.machine b.journal.items c.args.entry b.lock b.events b.actors b.jobs b.wire b.cells _ _ c.law_rules.ensures c.self.invariant legal).wire_takes

pub push_reserved-requires : goal.push_reserved-requires
push_reserved-requires c =
    let b = c.self.inside in
    let legal = rw (← c.self.view_is) at c.requires in
    let r = ready b.machine b.journal.items c.args.entry b.lock b.events b.actors b.jobs b.wire b.cells _ _ c.law_rules.ensures c.self.invariant legal in
    let room = r.room_left in
    omega (arith, b.journal.ok.0, room)

pub invariant_of-self : goal.invariant_of-self
invariant_of-self c =
    let b = c.self.inside in
    let m = b.machine in
    let e = c.args.entry in
    let past = reverse b.journal.items in
    let kept = c.self.invariant in
    let legal : Legal m (b.journal.items ++ e ∷ []) = rw (← c.self.view_is) at c.requires in
    let touches : c.touched-touched.result ≡ touched m past e = rw (← c.self.view_is) at c.touched-touched.ensures in
    let makes : c.made-made.result ≡ made m past e = rw (← c.self.view_is) at c.made-made.ensures in
    let before : c.as_slice.result.now ≡ jobs m past = c.as_slice.ensures.value ∙ kept.jobs_are.made_are in
    let next = kept_after m b.journal.items e b.lock c.after-self-inside.result b.events c.touch.new.self b.actors c.go_on.new.self b.jobs c.add.new.self b.wire c.after.new.self b.cells c.make.new.self _ _ c.law_rules.ensures kept legal
    c.after-self-inside.ensures
    (events_step m past e.actor e.deed b.events c.touch.new.self kept.events_are c.touch.ensures.size
    (λ n. subst (λ t. slot_of c.touch.new.self.chip n ≡ slot_after n t (slot_of b.events.chip n)) touches (c.touch.ensures.slots n))
    c.touch.ensures.unlatched)
    (actors_step m c.law_rules.ensures past e.actor e.deed b.actors c.go_on.new.self kept.actors_are (newest_allowed m b.journal.items e legal) c.go_on.ensures.size
    (λ below. subst (λ w. Moves m w e.deed (state_of b.actors.states e.actor) (state_of c.go_on.new.self.states e.actor)) before (c.go_on.ensures.own below))
    c.go_on.ensures.others c.go_on.ensures.outside)
    (c.add.ensures.made ∙ ap (λ j. and_job b.jobs.made.items j) makes)
    c.add.ensures.starts
    c.after.ensures
    (cells_step m past e.actor e.deed b.cells c.make.new.self kept.cells_are
    (λ x within. subst (λ a. byte_in c.make.new.self x ≡ value_after x a (byte_in b.cells x)) (c.access_of.ensures m) (c.make.ensures.values x within))
    c.make.ensures.kept) in
    kept_as m _ _ c.after-self-inside.result c.touch.new.self c.go_on.new.self c.add.new.self c.after.new.self c.make.new.self _ _ _ _ c.push_reserved.ensures.items c.push_reserved.ensures.capacity c.add.ensures.room next
