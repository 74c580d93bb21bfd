use Rattle.std.proofs.Common.{◌≡◌, ◌≤◌, ◌∷◌, ◌++◌, [], length, map, take, ap, sym, ◌∙◌, rules}
use Rattle.std.proofs.lemmas.List.{take_all}
use Rattle.acpi_regs.specs.Phases.{first_phase}
use Rattle.machine_desc.specs.Actors.{actors_of}
use Rattle.sci_threads.specs.Actors.{stands, who}
use Rattle.sci_threads.proofs.Rows.{take-next}
use Rattle.sci_threads.proofs.Served.{phases-first, push-first, push-names, push-stands}
use Rattle.sci_threads.proofs.actors.all_actors.Goals as goal

pub loop-k-preserved : goal.loop-k-preserved
loop-k-preserved c =
    let names = actors_of c.args.machine.now in
    let k = c.loop-k.k in
    let inv = c.loop-k.invariant in
    let old = c.loop-k.actors.items in
    let x = c.new.result in
    let a = c.actor.result in
    let items : c.push.new.self.items ≡ old ++ x ∷ [] = search rules in
    let next = take-next names k a c.actor.ensures in
    record {
      count = inv.count;
      names = ap (map who) items ∙ (push-names old x ∙ ((λ i. inv.names i ++ c.new.ensures.who i ∷ []) ∙ sym next));
      first = ap (map stands) items ∙ (push-stands old x ∙ ((λ i. inv.first i ++ c.new.ensures.stands i ∷ []) ∙ (sym (push-first (take k names) a) ∙ ap (map first_phase) (sym next))));
    }

pub returns-clause-first : goal.returns-clause-first
returns-clause-first c =
    let names = actors_of c.args.machine.now in
    let inv = c.loop-k.invariant in
    let all : length names ≤ c.loop-k.k = search rules in
    let whole = take_all c.loop-k.k names all in
    λ i b. phases-first c.loop-k.actors.items names (inv.names ∙ whole) (inv.first ∙ ap (map first_phase) whole) b i
