use Rattle.std.proofs.Common.{ap, sym, ◌∙◌, arith}
use lib.ListN.{get_elem?}
use Rattle.std.specs.Slots.{slots_items}
use mathlib.Core.Option.{some-injective}
use Rattle.lock_table.proofs.Closing.{closes_here, leaves_there}
use Rattle.lock_table.proofs.SeatFacts.{seat_me}
use Rattle.lock_table.proofs.table.LockTable.close.Goals as goal

pub unreachable-requires : goal.unreachable-requires
unreachable-requires g c =
    let h = closes_here _ _ _ _ _ _ _ c.args.root.view _ (seat_me c.root.inside.badge _ _ c.risen.ensures.2 c.root.view_is) c.requires.root.0 c.requires.root.1 c.requires.joined c.close_with-closed.ensures.values.2 in
    c.in_default.not-Some h.board (some-injective _ _ (sym c.take.ensures.value ∙ h.there))

pub returns : goal.returns
returns g c =
    let h = closes_here _ _ _ _ _ _ _ c.args.root.view _ (seat_me c.root.inside.badge _ _ c.risen.ensures.2 c.root.view_is) c.requires.root.0 c.requires.root.1 c.requires.joined c.close_with-closed.ensures.values.2 in
    let same = c.take.ensures.others.3 in
    leaves_there _ _ _ _ _ _ _ h c.take.result c.in-Some.board c.take.ensures.value c.in-Some.is _ _ _ _ _ _
    (ap (λ w. get_elem? (slots_items w) 1) (sym same) ∙ c.word-facs.ensures)
    (ap (λ w. get_elem? (slots_items w) 2) (sym same) ∙ c.word-fixed.ensures)
    (ap (λ w. get_elem? (slots_items w) 3) (sym same) ∙ c.word.ensures)
    (ap (λ w. get_elem? (slots_items w) 4) (sym same) ∙ c.word-2.ensures)
    (ap (λ w. get_elem? (slots_items w) 5) (sym same) ∙ c.word-3.ensures)
    (ap (λ w. get_elem? (slots_items w) 6) (sym same) ∙ c.word-4.ensures)

pub overflow_cast-facs : goal.overflow_cast-facs
overflow_cast-facs g c =
    let h = closes_here _ _ _ _ _ _ _ c.args.root.view _ (seat_me c.root.inside.badge _ _ c.risen.ensures.2 c.root.view_is) c.requires.root.0 c.requires.root.1 c.requires.joined c.close_with-closed.ensures.values.2 in
    let small = h.small _ (ap (λ w. get_elem? (slots_items w) 1) (sym c.take.ensures.others.3) ∙ c.word-facs.ensures) in
    omega (arith, small)
