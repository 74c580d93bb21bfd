use Rattle.std.proofs.Common.{◌≡◌, ap, sym, ◌∙◌, refl, true, false, [], ◌∷◌, Option, is_some}
use Rattle.acpi_regs.specs.GeometryParts.{blocks_of}
use Rattle.machine_desc.specs.declared.fault.BadMachine.{BadMachine}
use Rattle.machine_desc.specs.Faults.{first_of}
use Rattle.machine_desc.specs.Groups.{actors_fault, handlers_fault, space_fault}
use Rattle.machine_desc.specs.Rules.{blocks}
use Rattle.machine_desc.proofs.Groups.{behind_blocks, goes_on, in_groups, stops}
use Rattle.machine_desc.proofs.rules.first_fault.Goals as goal

pub returns-in-Err : goal.returns-in-Err
returns-in-Err c =
    let p = c.args.parts.now in
    sym (in_groups p (blocks p) refl ∙ ap (λ (o : Option BadMachine). first_of (o ∷ space_fault p ∷ handlers_fault (blocks p) p ∷ actors_fault p ∷ [])) c.in-Err.ensures)

pub returns-then-is_some : goal.returns-then-is_some
returns-then-is_some c =
    let p = c.args.parts.now in
    let b = blocks_of c.in-Ok.geometry in
    let there : is_some (space_fault p) ≡ true = ap is_some (sym c.space_fault-fault.ensures) ∙ sym c.is_some.ensures ∙ c.if-is_some.true in
    c.space_fault-fault.ensures ∙ sym (behind_blocks p b c.in-Ok.ensures.0 c.in-Ok.ensures.1 ∙ stops (space_fault p) (handlers_fault b p) (actors_fault p ∷ []) there)

pub returns-then-is_some-2 : goal.returns-then-is_some-2
returns-then-is_some-2 c =
    let p = c.args.parts.now in
    let b = blocks_of c.in-Ok.geometry in
    let absent : is_some (space_fault p) ≡ false = ap is_some (sym c.space_fault-fault.ensures) ∙ sym c.is_some.ensures ∙ c.if-is_some.false in
    let there : is_some (handlers_fault b p) ≡ true = ap is_some (sym c.handlers_fault-fault.ensures) ∙ sym c.is_some-2.ensures ∙ c.if-is_some-2.true in
    c.handlers_fault-fault.ensures ∙ sym (behind_blocks p b c.in-Ok.ensures.0 c.in-Ok.ensures.1
    ∙ goes_on (space_fault p) (handlers_fault b p) (actors_fault p ∷ []) absent
    ∙ stops (handlers_fault b p) (actors_fault p) [] there)

pub returns : goal.returns
returns c =
    let p = c.args.parts.now in
    let b = blocks_of c.in-Ok.geometry in
    let absent : is_some (space_fault p) ≡ false = ap is_some (sym c.space_fault-fault.ensures) ∙ sym c.is_some.ensures ∙ c.if-is_some.false in
    let gone : is_some (handlers_fault b p) ≡ false = ap is_some (sym c.handlers_fault-fault.ensures) ∙ sym c.is_some-2.ensures ∙ c.if-is_some-2.false in
    c.actors_fault.ensures ∙ sym (behind_blocks p b c.in-Ok.ensures.0 c.in-Ok.ensures.1
    ∙ goes_on (space_fault p) (handlers_fault b p) (actors_fault p ∷ []) absent
    ∙ goes_on (handlers_fault b p) (actors_fault p) [] gone)
