use Rattle.std.proofs.Common.{refl}
use Rattle.handler_script.proofs.Lefts.{stands_within}
use Rattle.handler_script.proofs.cursor.Cursor.past_skips.Goals as goal

pub loop-value-init : goal.loop-value-init
loop-value-init c = record {
  placed = λ any placed. placed;
  same = λ any. refl;
  place = refl;
  held = refl;
  within = stands_within c.requires.placed.0 c.args.ops.now c.args.self.now c.requires.placed.1;
}
