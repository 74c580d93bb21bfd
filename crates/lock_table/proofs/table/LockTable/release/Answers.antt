use Rattle.std.proofs.Common.{◌≡◌, ◌<◌, sym, subst, arith}
use Rattle.lock_table.specs.declared.view.View.{View}
use Rattle.lock_table.specs.Views.{ForOne, IsQuit}
use Rattle.lock_table.proofs.LockWord.{releases_keep}
use Rattle.lock_table.proofs.table.LockTable.release.Goals as goal

pub swap-requires : goal.swap-requires
swap-requires g c =
    let shared = c.args.self.now.table.shared in
    let words = c.args.self.now.sized.0 in
    let there : c.taken-inner.result.table_id ≡ shared.table_id = cc in
    let view : c.taken-inner.result.me.0 ≡ c.args.seat.now.view = cc in
    let within : 1 < shared.table_id.words = omega arith in
    let quits = subst (λ (v : View). ForOne IsQuit v.who) (sym view) c.requires.quits in
    (there, within, releases_keep g.B.Base.PulseLists.lists g.B.Recorded.base g.B.Recorded.entries shared.key shared.table_id.slots c.taken-inner.result.id c.taken-inner.result.me quits)
