use Rattle.std.proofs.Common.{◌+◌, ◌<◌, ◌++◌, append-nil, map, not, true, sym, ap, ◌∙◌, subst, arith}
use Rattle.acpi_regs.specs.Core.{events_of}
use Rattle.acpi_regs.specs.Event.{event_rank}
use Rattle.machine_history.specs.Steps.{is_empty, latch}
use Rattle.world.specs.Duties.{pinned}
use Rattle.world.proofs.Events.{no_events}
use Rattle.world.proofs.PinSets.{pinned_at}
use Rattle.os_actors.proofs.Latching.{Latching, latching-clear, latching-first, latching-pinned}
use Rattle.os_actors.proofs.latches.latch_all.Goals as goal
use Rattle.os_actors.proofs.latches.latch_all.Goals.{then-has, else-has}

pub returns-then-is_clear-clause-board : goal.returns-then-is_clear-clause-board
returns-then-is_clear-clause-board c =
    let b = c.args.board.now in
    let none = ap events_of (c.is_clear.ensures c.if-is_clear.true) ∙ no_events in
    λ i. record b { entries = sym (ap (λ l. b.entries ++ map (latch c.args.actor) l) none ∙ append-nil b.entries) i }

pub returns-then-is_clear-clause-answer : goal.returns-then-is_clear-clause-answer
returns-then-is_clear-clause-answer c = ap (λ l. not (is_empty l)) (sym (ap events_of (c.is_clear.ensures c.if-is_clear.true) ∙ no_events))

pub loop-place-init : goal.loop-place-init
loop-place-init c = latching-first c.args.board.now c.args.actor (pinned c.args.bits) c.requires.latchable

pub loop-place-preserved : goal.loop-place-preserved
loop-place-preserved c =
    let old = c.args.board.now in
    let a = c.args.actor in
    let set = pinned c.args.bits in
    let k = c.loop-place.place in
    let x = c.event_at-event.result in
    let at = c.event_at-event.ensures in
    let rank = at.place in
    let below = c.loop-place-test.true in
    let within : event_rank x < 261 = omega (arith, rank, below) in
    let is = pinned_at c.args.bits x within ∙ sym c.has.ensures in
    elim c.if-has.branch [
      | then-has w ↦ let next = latching-pinned old a set k c.loop-place.board w.add_latch.new.board c.loop-place.latched x c.loop-place.invariant at.is at.place (is ∙ w.if-has.true) w.add_latch.ensures in
          subst (λ l. Latching old a set (k + 1) c.if-has.board l) (sym w.latched-is) (subst (λ b. Latching old a set (k + 1) b true) (sym w.board-is) next)
      | else-has w ↦ let next = latching-clear old a set k c.loop-place.board c.loop-place.latched x c.loop-place.invariant at.is (is ∙ w.if-has.false) in
          subst (λ l. Latching old a set (k + 1) c.if-has.board l) (sym w.latched-is) (subst (λ b. Latching old a set (k + 1) b c.loop-place.latched) (sym w.board-is) next)
    ]
