use Rattle.std.proofs.Common.{◌≡◌, ◌-◌, ◌≤◌, true, List, length}
use Rattle.field_units.specs.Field.{Field}
use Rattle.handler_script.specs.Left.{is_placed, left}
use Rattle.handler_script.proofs.cursor.Cursor.past_skips.Given as goal

abbrev pub invariant-loop-value : goal.invariant-loop-value
invariant-loop-value l = record {
  placed : (any : List Field) → is_placed any l.ops l.self ≡ true → is_placed any l.ops l.cursor ≡ true;
  same : (any : List Field) → left any l.ops l.cursor ≡ left any l.ops l.self;
  place : l.cursor.place ≡ l.self.place;
  held : l.cursor.held ≡ l.self.held;
  within : l.cursor.op ≤ length l.ops;
}

abbrev pub decreases-loop-value : goal.decreases-loop-value
decreases-loop-value l = length l.ops - l.cursor.op
