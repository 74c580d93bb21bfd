use Rattle.std.proofs.Common.{◌≡◌, ◌<◌, length, Some, slice_get, reverse, subst, arith}
use Rattle.std.proofs.lemmas.Bool.{iff_false}
use Rattle.machine_desc.specs.Actors.{actors_of}
use Rattle.machine_desc.specs.Machine.{MachineData}
use Rattle.run_checker.specs.Reasons.{HasReason}
use Rattle.run_checker.proofs.Given.{none_left, none_more}
use Rattle.run_checker.proofs.reasons.first_unfinished.Goals as goal

pub loop-k-preserved : goal.loop-k-preserved
loop-k-preserved c =
    let m = c.args.board.now.machine in
    let past = reverse c.args.board.now.entries in
    let here = subst (λ (x : MachineData). slice_get (actors_of x) c.loop-k.k ≡ Some c.actor-actor.result) c.machine-in-loop-k.ensures c.actor-actor.ensures in
    none_more (HasReason m past) (actors_of m) c.loop-k.k c.actor-actor.result here (iff_false c.has_reason.ensures c.if-has_reason.false) c.loop-k.invariant

pub returns : goal.returns
returns c =
    let m = c.args.board.now.machine in
    let past = reverse c.args.board.now.entries in
    let size = subst (λ (x : MachineData). c.actors-k-end.result ≡ length (actors_of x)) c.machine.ensures c.actors-k-end.ensures.value in
    none_left (HasReason m past) (actors_of m) c.loop-k.k (omega (arith, size, c.loop-k-test.false)) c.loop-k.invariant
