use Rattle.std.proofs.Common.{◌==◌, refl, arith}
use Rattle.handler_script.specs.declared.op.Op.TheVariants as op
use Rattle.handler_script.proofs.Lefts.{skip_step, skipped_most, stands_from, stands_plain}
use Rattle.handler_script.proofs.Sounds.{skip_within}
use Rattle.handler_script.proofs.cursor.Cursor.past_skip.Goals as goal

pub overflow_add-result-2 : goal.overflow_add-result-2
overflow_add-result-2 c =
    let most = skipped_most (c.args.self.now.place.last == c.args.value) c.skipped-passed.result c.args.count c.skipped-passed.ensures in
    let within = skip_within c.requires.script.0 c.args.ops.now c.args.self.now.op c.args.value c.args.count c.requires.script.1 c.requires.at in
    omega (arith, c.requires.script.1.short)

pub returns-clause-within : goal.returns-clause-within
returns-clause-within c =
    let most = skipped_most (c.args.self.now.place.last == c.args.value) c.skipped-passed.result c.args.count c.skipped-passed.ensures in
    let within = skip_within c.requires.script.0 c.args.ops.now c.args.self.now.op c.args.value c.args.count c.requires.script.1 c.requires.at in
    omega arith

pub returns-clause-placed : goal.returns-clause-placed
returns-clause-placed c =
    let most = skipped_most (c.args.self.now.place.last == c.args.value) c.skipped-passed.result c.args.count c.skipped-passed.ensures in
    let within = skip_within c.requires.script.0 c.args.ops.now c.args.self.now.op c.args.value c.args.count c.requires.script.1 c.requires.at in
    λ any placed. stands_from any c.args.ops.now _ (omega arith)
    (stands_plain any c.args.ops.now c.args.self.now (op.Skip c.args.value c.args.count) c.requires.at refl placed)

pub returns-clause-left : goal.returns-clause-left
returns-clause-left c =
    let ops = c.args.ops.now in
    let self = c.args.self.now in
    λ any. skip_step any ops self _ c.args.value c.args.count c.skipped-passed.result c.requires.at
    (stands_plain c.requires.placed.0 ops self (op.Skip c.args.value c.args.count) c.requires.at refl c.requires.placed.1)
    c.skipped-passed.ensures refl refl refl
