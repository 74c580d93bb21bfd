use Rattle.std.proofs.Common.{◌≡◌, ◌<◌, ◌+◌, arith}
use Rattle.lock_table.proofs.Collecting.{collects_keep_as}
use Rattle.lock_table.proofs.table.LockTable.sweep.Goals as goal

pub swap-requires : goal.swap-requires
swap-requires g c =
    let shared = c.args.self.now.table.shared in
    let words = c.args.self.now.sized.0 in
    let within : 2 + c.args.word < shared.table_id.words = omega arith in
    let place : 2 + c.args.word ≡ c.args.word + 2 = omega arith in
    (c.requires.table, within, collects_keep_as g.B.Base.PulseLists.lists g.B.Recorded.base g.B.Recorded.entries shared.key shared.table_id.slots c.args.inner.now.id (2 + c.args.word) c.args.word c.args.inner.now.me g.W.Limits.lists c.requires.lists place c.requires.word c.requires.inside c.requires.may)
