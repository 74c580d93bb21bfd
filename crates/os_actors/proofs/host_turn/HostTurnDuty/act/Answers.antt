use Rattle.std.proofs.Common.{◌++◌, append-nil, None, map, reverse, ap, subst, sym, ◌∙◌}
use Rattle.acpi_regs.specs.Core.{events_of}
use Rattle.machine_history.specs.Steps.{latch}
use Rattle.world.specs.Duties.{IsAllowed, added, pinned}
use Rattle.world.proofs.Entries.{Each}
use Rattle.world.proofs.Turns.{turn-as}
use Rattle.world.proofs.FreeTurns.{Plain, plain-allowed, plain-turn}
use Rattle.os_actors.proofs.HostEntries.{host_entry-plain, none_in}
use Rattle.os_actors.proofs.host_turn.HostTurnDuty.act.Goals as goal

pub add-requires : goal.add-requires
add-requires c =
    let b = c.latch_all.new.board in
    let a = c.args.self.now.actor in
    subst (IsAllowed b.machine (reverse b.entries) a) (sym c.host_entry-made.ensures) (plain-allowed b.machine (reverse b.entries) a _ (host_entry-plain b.machine (reverse b.entries) a))

pub returns-clause-rules : goal.returns-clause-rules
returns-clause-rules c =
    let b = c.latch_all.new.board in
    let a = c.args.self.now.actor in
    let before = c.args.board.now.entries in
    let made = c.host_entry-made.result in
    let none = none_in (events_of (pinned c.args.bits)) (sym c.latch_all.ensures.answer ∙ c.if-latch_all.false) in
    let same = ap (λ x. x.entries) c.latch_all.ensures.board ∙ (ap (λ l. before ++ map (latch a) l) none ∙ append-nil before) in
    turn-as a None before _ _ _ _ _ _ (ap (λ x. x.entries) c.add.ensures.board ∙ ap (λ l. l ++ added a made) same) none c.add.ensures.answer
    (plain-turn b.machine (reverse b.entries) a before made (subst (Each (Plain b.machine (reverse b.entries) a)) (sym c.host_entry-made.ensures) (host_entry-plain b.machine (reverse b.entries) a)))
