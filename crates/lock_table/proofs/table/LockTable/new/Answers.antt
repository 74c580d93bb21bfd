use Rattle.std.proofs.Common.{◌≡◌, ℕ, [], ◌∷◌, None, sym, ap, subst, ◌∙◌}
use Rattle.atomic_table.specs.Table.{opening}
use Rattle.facs_word.specs.Table.{lock_of}
use Rattle.lock_table.specs.Rule.{Kept}
use Rattle.lock_table.specs.Views.{first_view}
use Rattle.lock_table.proofs.Opening.{opens}
use Rattle.lock_table.proofs.table.LockTable.new.Goals as goal

pub vacant-requires : goal.vacant-requires
vacant-requires g c =
    let free : c.from-lock.result ≡ 0 = c.from-lock.ensures ∙ c.lock.ensures ∙ ap lock_of c.fresh.ensures in
    subst (λ (n : ℕ). Kept g.B.Base.PulseLists.lists g.B.Recorded.base g.B.Recorded.entries c.args.board (opening (1 ∷ n ∷ 0 ∷ 0 ∷ 0 ∷ 0 ∷ 0 ∷ []) (None ∷ []) first_view)) (sym free) (opens _ _ _ _)
