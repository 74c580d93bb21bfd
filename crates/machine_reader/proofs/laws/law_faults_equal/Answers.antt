use Rattle.std.proofs.Common.{◌≡◌, ◌↔◌, IsTrue, sym, subst}
use Rattle.machine_reader.proofs.Exact.{faults}
use Rattle.machine_reader.proofs.laws.law_faults_equal.Goals as goal

pub returns : goal.returns
returns c =
    let one = c.args.one.now in
    let other = c.args.other.now in
    subst (λ b. IsTrue b ↔ (one ≡ other)) (sym c.eq.ensures) (faults c.law_equality.ensures.bad_machine one other)
