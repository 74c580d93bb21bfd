use Rattle.machine_desc.specs.Actors.{actors_of}
use Rattle.sci_threads.specs.Actors.{core_in}
use Rattle.sci_threads.proofs.Rows.{rounded-more, settled-begins, settles}
use Rattle.sci_threads.proofs.rounds.drain.Goals as goal

pub loop-preserved : goal.loop-preserved
loop-preserved c = record {
  machine = c.round.ensures.machine;
  actors = c.round.ensures.actors;
  sound = c.round.ensures.sound;
  rounds = rounded-more c.args.machine.now (core_in c.args.world.now c.args.actors.now.items) (core_in c.loop.world c.loop.actors.items) (core_in c.round.new.world c.round.new.actors.items) c.round.result c.loop.invariant.rounds c.round.ensures.round;
}

pub returns-clause-settles : goal.returns-clause-settles
returns-clause-settles c = settles c.args.machine.now (core_in c.args.world.now c.args.actors.now.items) (core_in c.loop.world c.loop.actors.items) (core_in c.round.new.world c.round.new.actors.items) c.round.result c.loop.invariant.rounds c.round.ensures.round c.loop-test.false

pub returns-clause-begins : goal.returns-clause-begins
returns-clause-begins c =
    let m = c.args.machine.now in
    let old = core_in c.args.world.now c.args.actors.now.items in
    let new = core_in c.round.new.world c.round.new.actors.items in
    settled-begins m (actors_of m) old new (settles m old (core_in c.loop.world c.loop.actors.items) new c.round.result c.loop.invariant.rounds c.round.ensures.round c.loop-test.false)

pub returns-clause-complete : goal.returns-clause-complete
returns-clause-complete c =
    let m = c.args.machine.now in
    let old = core_in c.args.world.now c.args.actors.now.items in
    let new = core_in c.round.new.world c.round.new.actors.items in
    c.law_no_deadlock.ensures.settled m old new c.law_rules.ensures c.requires.sound.sound c.requires.sound.nobody (settles m old (core_in c.loop.world c.loop.actors.items) new c.round.result c.loop.invariant.rounds c.round.ensures.round c.loop-test.false)
