use Rattle.std.proofs.Common.{◌≡◌, ◌↔◌, IsTrue, sym, subst}
use Rattle.acpi_commands.proofs.Exact.{statuses}
use Rattle.acpi_commands.proofs.laws.law_statuses_equal.Goals as goal

pub returns : goal.returns
returns c =
    let one = c.args.one.now in
    let other = c.args.other.now in
    subst (λ b. IsTrue b ↔ (one ≡ other)) (sym c.eq.ensures) (statuses c.law_equality.ensures.bad_machine c.law_equality-2.ensures.actor one other)
