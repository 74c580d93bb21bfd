use Rattle.std.proofs.Common.{List, Bool, false, subst, ◌∙◌}
use Rattle.std.specs.Bool.{MatchBool}
use Rattle.acpi_regs.specs.declared.event.Event.{Event}
use Rattle.run_checker.specs.Ends.{AllListsSet, AllSet, Misses}
use Rattle.run_checker.proofs.Lists.{all_more, all_taken}
use Rattle.run_checker.proofs.ends.some_miss.Goals as goal

pub loop-list-preserved : goal.loop-list-preserved
loop-list-preserved c =
    let set = c.args.set.now in
    let pulses = c.as_slice.result.now in
    let all = subst (λ (b : Bool). MatchBool b (Misses set pulses) (AllSet set pulses)) c.if-misses.false c.misses.ensures in
    all_more (AllSet set) c.args.lists.now c.loop-list.list-index c.list-item.result c.loop-list-test.true c.list-item.is c.loop-list.invariant (subst (AllSet set) c.as_slice.ensures all)

pub returns : goal.returns
returns c = subst (AllListsSet c.args.set.now) (all_taken c.args.lists.now c.loop-list.list-index c.loop-list-test.false) c.loop-list.invariant
