use Rattle.std.proofs.Common.{◌≡◌, ◌<◌, true, sym, subst, ap, ◌∙◌, arith}
use Rattle.acpi_regs.specs.CoreSound.{is_word}
use Rattle.lock_table.specs.declared.view.View.{View}
use Rattle.lock_table.specs.Views.{ForOne, HasLoaded, IsSeeking, loads, tries}
use Rattle.facs_word.specs.Word.{acquired}
use Rattle.lock_table.specs.Calls.{view_in}
use Rattle.lock_table.specs.WordCalls.{Attempts}
use Rattle.lock_table.proofs.Attempts.{has_loaded, marked, moved, won}
use Rattle.lock_table.proofs.LockWord.{exchanges_keep, loads_keep}
use Rattle.lock_table.proofs.table.LockTable.attempt.Goals as goal
use Rattle.lock_table.proofs.table.LockTable.attempt.Goals.{then-found-loaded, else-found-loaded+then-owned, else-found-loaded+else-owned}

pub load-requires : goal.load-requires
load-requires g c =
    let shared = c.args.self.now.table.shared in
    let words = c.args.self.now.sized.0 in
    let there : c.taken-inner.result.table_id ≡ shared.table_id = cc in
    let view : c.taken-inner.result.me.0 ≡ c.args.seat.now.view = cc in
    let within : 1 < shared.table_id.words = omega arith in
    let seeks = subst (λ (v : View). ForOne IsSeeking v.who) (sym view) c.requires.seeks in
    (there, within, loads_keep g.B.Base.PulseLists.lists g.B.Recorded.base g.B.Recorded.entries shared.key shared.table_id.slots c.taken-inner.result.id c.taken-inner.result.me seeks)

pub compare_exchange-requires : goal.compare_exchange-requires
compare_exchange-requires g c =
    let shared = c.args.self.now.table.shared in
    let words = c.args.self.now.sized.0 in
    let there : c.load.new.seat.table_id ≡ shared.table_id = cc in
    let view : c.taken-inner.result.me.0 ≡ c.args.seat.now.view = cc in
    let within : 1 < shared.table_id.words = omega arith in
    let seeks = subst (λ (v : View). ForOne IsSeeking v.who) (sym view) c.requires.seeks in
    let n = c.load.result in
    let after : loads n c.taken-inner.result.me.0 ≡ c.load.new.seat.me.0 = cc (c.load.ensures.2.1) in
    let old : n ≡ c.from.result = cc in
    let loaded = subst (λ l. ForOne (HasLoaded l) c.load.new.seat.me.0.who) old (subst (λ (v : View). ForOne (HasLoaded n) v.who) after (has_loaded n c.taken-inner.result.me.0 seeks)) in
    let new : c.from-2.result ≡ acquired c.from.result = cc in
    (there, within, exchanges_keep g.B.Base.PulseLists.lists g.B.Recorded.base g.B.Recorded.entries shared.key shared.table_id.slots c.load.new.seat.id c.from.result c.from-2.result c.load.new.seat.me new loaded)

pub returns-clause-attempts : goal.returns-clause-attempts
returns-clause-attempts g c =
    let v = c.args.seat.now.view in
    let w = view_in c.into_badge.result.views in
    let l = c.lock_word-loaded.result in
    let n = c.lock_word-found.result in
    let start : c.taken-inner.result.me.0 ≡ v = cc in
    let first : c.load.new.seat.me.0 ≡ loads l v = cc (c.load.ensures.2.1, start) in
    let second : c.compare_exchange.new.seat.me.0 ≡ tries l n c.load.new.seat.me.0 = cc (c.compare_exchange.ensures.2.1) in
    let is : w ≡ tries l n (loads l v) = ap view_in c.into_badge.ensures.2 ∙ second ∙ ap (tries l n) first in
    let good_l : is_word l ≡ true = ap is_word c.lock_word-loaded.ensures.same ∙ c.load.ensures.2.0 in
    let good_n : is_word n ≡ true = ap is_word c.lock_word-found.ensures.same ∙ c.compare_exchange.ensures.2.0 in
    elim c.if-found-loaded.branch [
      | then-found-loaded b ↦ subst (λ r. Attempts v r w) (sym b.result-is) (good_l, good_n, (λ e. b.if-found-loaded.true (sym e)), moved l n v w is (λ e. b.if-found-loaded.true (sym e)))
      | else-found-loaded+then-owned b ↦ subst (λ r. Attempts v r w) (sym b.result-is) (good_n, (sym b.owned.ensures ∙ b.if-owned.true), marked l n v w is (sym b.if-found-loaded.false) (sym b.owned.ensures ∙ b.if-owned.true))
      | else-found-loaded+else-owned b ↦ subst (λ r. Attempts v r w) (sym b.result-is) (n, good_n, (sym b.owned.ensures ∙ b.if-owned.false), won l n v w is (sym b.if-found-loaded.false) (sym b.owned.ensures ∙ b.if-owned.false))
    ]
