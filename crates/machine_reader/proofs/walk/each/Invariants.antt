use Rattle.std.proofs.Common.{◌≡◌, All, Ok, take}
use Rattle.serde_json.specs.View.{items_view}
use Rattle.machine_reader.specs.Reading.{each_from}
use Rattle.machine_reader.proofs.walk.each.Given as goal

abbrev pub invariant-loop-number : goal.invariant-loop-number
invariant-loop-number g l = record {
  read : each_from 0 g.T.Shaped.shape (items_view (take l.number l.items)) ≡ Ok l.parts.items;
  given : All g.T.Shaped.Given l.parts.items;
}
