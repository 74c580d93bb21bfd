use Rattle.std.proofs.Common.{◌≡◌, sym, ◌∙◌, arith}
use Rattle.sci_threads.proofs.Running.{all_told, at_last, once_more, same_on}
use Rattle.sci_threads.proofs.parallel.run_one.Goals as goal

pub step-requires-clause-ready : goal.step-requires-clause-ready
step-requires-clause-ready g c = c.loop-made.invariant.agrees

pub returns-then-is_end : goal.returns-then-is_end
returns-then-is_end g c = record {
  same_actor = c.step.ensures.who ∙ c.loop-made.invariant.same_actor;
  same_seat = same_on c.args.at.now.seat c.loop-made.at.seat c.step.new.self.seat c.loop-made.invariant.same_seat c.step.ensures.same;
  agrees = c.step.ensures.ready;
  ran = at_last c.args.machine.now c.args.turns _ c.args.at.now.seat.view.who c.loop-made.at.seat.view.who c.step.new.self.seat.view.who c.step.ensures.rises (sym c.is_end.ensures ∙ c.if-is_end.true);
}

pub loop-made-preserved : goal.loop-made-preserved
loop-made-preserved g c = record {
  same_actor = c.step.ensures.who ∙ c.loop-made.invariant.same_actor;
  same_seat = same_on c.args.at.now.seat c.loop-made.at.seat c.step.new.self.seat c.loop-made.invariant.same_seat c.step.ensures.same;
  agrees = c.step.ensures.ready;
  told = once_more c.args.machine.now c.loop-made._made _ c.args.at.now.seat.view.who c.loop-made.at.seat.view.who c.step.new.self.seat.view.who c.step.ensures.rises (sym c.is_end.ensures ∙ c.if-is_end.false) c.loop-made.invariant.told;
}

pub returns : goal.returns
returns g c =
    let all : c.loop-made._made ≡ c.args.turns = omega arith in
    record {
      same_actor = c.loop-made.invariant.same_actor;
      same_seat = c.loop-made.invariant.same_seat;
      agrees = c.loop-made.invariant.agrees;
      ran = all_told c.args.machine.now c.args.turns c.loop-made._made c.args.at.now.seat.view.who c.loop-made.at.seat.view.who all c.loop-made.invariant.told;
    }
