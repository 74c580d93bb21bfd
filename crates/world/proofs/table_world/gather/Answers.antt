use Rattle.std.proofs.Common.{subst, sym}
use Rattle.lock_table.specs.Bits.{words_of}
use Rattle.lock_table.specs.WordPlays.{AreFewer}
use Rattle.world.proofs.SharedTurns.{fewer_latchable, none_latchable, nothing_set}
use Rattle.world.proofs.table_world.gather.Goals as goal

pub returns-then-collect-clause-latchable : goal.returns-then-collect-clause-latchable
returns-then-collect-clause-latchable c =
    let fewer = subst (λ t. AreFewer c.args.table.now.table.shared.key.machine.devices t.board.entries (words_of c.collect.result)) c.collect.ensures.turn c.collect.ensures.fewer in
    fewer_latchable c.args.turn.now.board.machine c.args.turn.now.board.entries c.collect.result (subst (λ m. AreFewer m.devices c.args.turn.now.board.entries (words_of c.collect.result)) (sym c.requires.base) fewer)

pub returns-else-collect-clause-nothing : goal.returns-else-collect-clause-nothing
returns-else-collect-clause-nothing c = λ _. nothing_set _ c.none.ensures

pub returns-else-collect-clause-latchable : goal.returns-else-collect-clause-latchable
returns-else-collect-clause-latchable c = none_latchable c.args.turn.now.board.machine c.args.turn.now.board.entries _ c.none.ensures
