use Rattle.std.proofs.Common.{◌≡◌, ◌+◌, ◌++◌, map, ap, subst, ◌∙◌}
use Rattle.std.proofs.lemmas.List.Elements.{All-weaker}
use Rattle.sci_threads.specs.declared.shared.ActorSeat.{ActorSeat}
use Rattle.sci_threads.specs.Seats.{IsFirst}
use Rattle.sci_threads.specs.Shared.{Agrees}
use Rattle.sci_threads.proofs.Once.{actors-once}
use Rattle.threaded_run.specs.Raced.{turns_of}
use Rattle.threaded_run.proofs.Back.{HaveRun, first_agrees, have_run, is_back}
use Rattle.threaded_run.proofs.racing.race.Goals as goal

pub run_parallel-requires-clause-agree : goal.run_parallel-requires-clause-agree
run_parallel-requires-clause-agree g c =
    let p = c.prepared.inside in
    let id = p.table.table.shared.table_id in
    λ lifetimes live. All-weaker (IsFirst id) (Agrees id) (λ x first. first_agrees id x first) p.seats.items c.prepared.invariant.first

pub invariant_of-result : goal.invariant_of-result
invariant_of-result g c =
    let p = c.prepared.inside in
    let kept = c.prepared.invariant in
    let m = p.machine in
    let id = p.table.table.shared.table_id in
    let news = c.run_parallel.new.seats.items in
    let turns : c.weight-turns.result + 64 ≡ turns_of m = ap (λ n. n + 64) c.weight-turns.ensures.value in
    let ran = subst (λ n. HaveRun m id n p.seats.items news) turns (have_run m id (c.weight-turns.result + 64) p.seats.items news c.run_parallel.ensures.count c.run_parallel.ensures.each) in
    record {
      are_back = is_back m p.table.table.shared.key.machine id p.root c.join_all.new.root p.seats.items news c.join_all.new.actors.items (actors-once m) kept.same kept.whole kept.others ran
          c.join_all.ensures.root c.join_all.ensures.parts c.join_all.ensures.back (c.join_all.ensures.actors ∙ ap (λ l. l ++ map (λ (x : ActorSeat). x.actor) news) kept.none_back);
      canonical_text = kept.canonical_text;
    }
