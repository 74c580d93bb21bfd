use Rattle.std.proofs.Common.{ℕ, ◌≡◌, ◌≤◌, sym, ap, ◌∙◌, subst}
use Rattle.machine_desc.specs.declared.parts.MachineParts.{MachineParts}
use Rattle.machine_desc.specs.Given.{IsGiven}
use Rattle.machine_desc.specs.Machine.{MachineData, described}
use Rattle.machine_desc.specs.Weight.{weight_of}
use Rattle.machine_maker.specs.Maker.{made, parts_of}
use Rattle.machine_maker.proofs.Form.{formed}
use Rattle.machine_maker.proofs.making.make.Goals as goal

is_made : (p : MachineParts) (number size : ℕ) (m : MachineData) → p ≡ parts_of number size → described p ≡ m → m ≡ made number size
unfolding made
is_made p number size m parts same = sym same ∙ ap described parts

pub new-requires : goal.new-requires
new-requires c = subst IsGiven (sym c.in_ok-machine_parts.ensures) (formed c.args.number c.args.size)

pub returns-in-Ok-clause-exact : goal.returns-in-Ok-clause-exact
returns-in-Ok-clause-exact c = is_made c.in_ok-machine_parts.field-0 c.args.number c.args.size c.in-Ok.machine c.in_ok-machine_parts.ensures c.in-Ok.ensures.1

pub returns-in-Ok-clause-weight : goal.returns-in-Ok-clause-weight
returns-in-Ok-clause-weight c =
    let exact : c.in-Ok.machine ≡ made c.args.number c.args.size = is_made c.in_ok-machine_parts.field-0 c.args.number c.args.size c.in-Ok.machine c.in_ok-machine_parts.ensures c.in-Ok.ensures.1 in
    subst (λ m. weight_of m ≤ 1048576) (sym exact) (c.law_made.ensures.weight c.args.number c.args.size c.requires.few)
