use Rattle.std.proofs.Common.{◌≡◌, subst, sym, Some, None, rules}
use Rattle.event_chip.specs.Chip.{IsFirst}
use Rattle.event_chip.proofs.PlaceOrder.{first_none, first_some}
use Rattle.event_chip.proofs.chip.EventChip.first_pending.Goals as goal

pub returns-in_err-first : goal.returns-in_err-first
returns-in_err-first c =
    let w = c.self.inside.words in
    let none : c.from_residual.result ≡ None = search rules in
    subst (IsFirst c.args.self.now) (sym none)
    (subst (λ s. IsFirst s None) c.self.view_is (first_none c.self.inside.slots.items w.status.words w.enable.words w.summary c.self.invariant c.in_err-first.ensures))

pub returns : goal.returns
returns c =
    let w = c.self.inside.words in
    subst (λ s. IsFirst s (Some c.event_in.result)) c.self.view_is
    (first_some c.self.inside.slots.items w.status.words w.enable.words w.summary c.in_ok-first.field-0 c.event_in.result c.self.invariant c.event_in.ensures c.in_ok-first.ensures)
