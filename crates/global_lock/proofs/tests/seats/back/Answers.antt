use Rattle.std.proofs.Common.{sym, ap, subst, ◌∙◌}
use Rattle.lock_table.specs.declared.view.View.{View}
use Rattle.lock_table.specs.Views.{IsRoot}
use Rattle.lock_table.proofs.Rooting.{still_root}
use Rattle.global_lock.proofs.tests.seats.back.Goals as goal

pub returns-clause-root : goal.returns-clause-root
returns-clause-root c =
    let view = c.join.ensures.view in (
      c.join.ensures.same.0 ∙ c.requires.root.0,
      ap (λ (v : View). v.stage) view ∙ c.requires.root.1,
      subst (λ (v : View). IsRoot v.who) (sym view) (still_root c.args.root.now.view c.args.seat.view c.requires.root.2),
    )
