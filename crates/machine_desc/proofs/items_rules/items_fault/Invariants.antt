use Rattle.std.proofs.Common.{◌≡◌, drop}
use Rattle.machine_desc.specs.Faults.{items_from}
use Rattle.machine_desc.proofs.items_rules.items_fault.Given as goal

abbrev pub invariant-loop-i : goal.invariant-loop-i
invariant-loop-i g l =
    items_from l.part (g.R.ItemRules.fault l.rules) l.items l.i (drop l.i l.items)
    ≡ items_from l.part (g.R.ItemRules.fault l.rules) l.items 0 l.items
