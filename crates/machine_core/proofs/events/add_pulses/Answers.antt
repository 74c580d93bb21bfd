use Rattle.std.proofs.Common.{◌<◌, length, arith}
use Rattle.machine_core.proofs.Places.{pulse_step, rises}
use Rattle.machine_core.proofs.events.add_pulses.Goals as goal

pub loop-event-preserved : goal.loop-event-preserved
loop-event-preserved c =
    let bound = c.rank_of.ensures.bound in
    let size = c.loop-event.auto.counts in
    let whole = c.requires.size in
    let within : c.rank_of.result < length c.loop-event.counts = omega arith in
    record {
      counts = λ n is. pulse_step c.loop-event.counts c.args.pulses.now c.loop-event.event-index c.rank_of.result _ _ n within c.rank_of.ensures.value c.loop-event-test.true (c.loop-event.invariant.counts n is);
      most = λ k.
          let one = rises c.loop-event.counts c.rank_of.result k within in
          let before = c.loop-event.invariant.most k in
          omega (arith, one, before);
    }
