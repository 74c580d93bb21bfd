use Rattle.field_units.proofs.BitFacts.{mask_order, merged_above, merged_below, merged_here}
use Rattle.field_units.proofs.bits.merge.Goals as goal

pub overflow_sub-mask : goal.overflow_sub-mask
overflow_sub-mask c = mask_order c.args.low c.args.high c.requires.order c.requires.within

pub returns-clause-below : goal.returns-clause-below
returns-clause-below c = λ j to. merged_below c.args.rest c.args.inside c.args.low c.args.high j c.requires.order c.requires.within to

pub returns-clause-here : goal.returns-clause-here
returns-clause-here c = λ j from to. merged_here c.args.rest c.args.inside c.args.low c.args.high j c.requires.order c.requires.within from to

pub returns-clause-above : goal.returns-clause-above
returns-clause-above c = λ j from less. merged_above c.args.rest c.args.inside c.args.low c.args.high j c.requires.order c.requires.within from less
