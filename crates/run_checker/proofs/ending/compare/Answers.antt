use Rattle.std.proofs.Common.{◌≡◌, ◌+◌, ℕ, reverse, slice_get, Some, ap, sym, subst, ◌∙◌, arith}
use Rattle.std.proofs.lemmas.Bool.{iff_false}
use Rattle.machine_history.specs.Events.{parked}
use Rattle.run_checker.specs.Verdict.{DiffersAt}
use Rattle.history_text.specs.Text.{stuck}
use Rattle.run_checker.proofs.Told.{Agree, agree_more, agree_none, agree_skip, more_told, one_missing, other_told}
use Rattle.run_checker.proofs.ending.compare.Goals as goal
use Rattle.run_checker.proofs.ending.compare.Goals.{then-parked+in-Some+else-not-same, else-parked}

pub loop-place-init : goal.loop-place-init
loop-place-init c = agree_none (parked c.args.board.now.machine (reverse c.args.board.now.entries)) c.args.told.now

pub returns-then-not-same-clause-tells : goal.returns-then-not-same-clause-tells
returns-then-not-same-clause-tells c =
    let set = parked c.args.board.now.machine (reverse c.args.board.now.entries) in
    let given = stuck c.args.board.now.machine c.args.board.now.entries in
    let found = other_told set c.args.told.now c.loop-place.count c.loop-place.place c.event_at-event.result c.in-Some.next c.loop-place-test.true c.event_at-event.ensures (sym c.parked.ensures ∙ c.if-parked.true) (sym c.told_at.ensures ∙ c.in-Some.is) (iff_false c.same.ensures c.if-not-same.true) c.loop-place.invariant in
    subst (λ (j : ℕ). DiffersAt c.args.told.now given j) (sym c.from.ensures) found

pub returns-in-None-clause-tells : goal.returns-in-None-clause-tells
returns-in-None-clause-tells c =
    let set = parked c.args.board.now.machine (reverse c.args.board.now.entries) in
    let found = one_missing set c.args.told.now c.loop-place.count c.loop-place.place c.event_at-event.result c.loop-place-test.true c.event_at-event.ensures (sym c.parked.ensures ∙ c.if-parked.true) (sym c.told_at.ensures ∙ c.in-None.is) c.loop-place.invariant in
    (found.0, found.1, found.2, c.from-in-None.ensures ∙ found.3)

pub loop-place-preserved : goal.loop-place-preserved
loop-place-preserved c =
    let set = parked c.args.board.now.machine (reverse c.args.board.now.entries) in
    let told = c.args.told.now in
    elim c.if-parked.branch [
      | then-parked+in-Some+else-not-same w ↦
          let next = w.same.ensures.0 w.if-not-same.false in
          subst (λ (j : ℕ). Agree set told j (c.loop-place.place + 1)) (sym w.count-is) (agree_more set told c.loop-place.count c.loop-place.place c.event_at-event.result c.event_at-event.ensures (sym c.parked.ensures ∙ w.if-parked.true) (sym w.told_at.ensures ∙ (w.in-Some.is ∙ ap Some next)) c.loop-place.invariant)
      | else-parked w ↦ subst (λ (j : ℕ). Agree set told j (c.loop-place.place + 1)) (sym w.count-is) (agree_skip set told c.loop-place.count c.loop-place.place c.event_at-event.result c.event_at-event.ensures (sym c.parked.ensures ∙ w.if-parked.false) c.loop-place.invariant)
    ]

pub returns-then-from-told-clause-tells : goal.returns-then-from-told-clause-tells
returns-then-from-told-clause-tells c =
    let set = parked c.args.board.now.machine (reverse c.args.board.now.entries) in
    let given = stuck c.args.board.now.machine c.args.board.now.entries in
    let last : c.loop-place.place ≡ 261 = omega (arith, c.loop-place-test.false, c.loop-place.auto.place-end) in
    let agree = subst (λ (n : ℕ). Agree set c.args.told.now c.loop-place.count n) last c.loop-place.invariant in
    subst (λ (j : ℕ). DiffersAt c.args.told.now given j) (sym c.from-then-from-told.ensures) (more_told set c.args.told.now c.loop-place.count agree (omega (arith, c.if-from-told.true, c.from-2.ensures)))
