use Rattle.std.proofs.Common.{◌≡◌, false, ap, reverse, subst, sym, rules}
use Rattle.acpi_regs.specs.Phases.{lock_deed}
use Rattle.machine_history.specs.Legal.{is_host}
use Rattle.world.specs.Duties.{IsAllowed}
use Rattle.world.proofs.Entries.{Each, Suits, script_entry-suits, suits-allowed, suits-turn}
use Rattle.world.proofs.Turns.{turn-as}
use Rattle.world.proofs.script_turn.ScriptTurnDuty.act.Goals as goal

pub add-requires : goal.add-requires
add-requires c =
    let m = c.args.board.now.machine in
    let past = reverse c.args.board.now.entries in
    let d = c.args.self.now in
    subst (IsAllowed m past d.actor) (sym c.script_entry-self.ensures) (suits-allowed m past d.actor d.phase _ (script_entry-suits m past d.actor d.phase))

pub returns-clause-rules : goal.returns-clause-rules
returns-clause-rules c =
    let m = c.args.board.now.machine in
    let before = c.args.board.now.entries in
    let past = reverse before in
    let d = c.args.self.now in
    let runs : is_host d.actor ≡ false = search rules in
    turn-as d.actor (lock_deed d.phase) before _ _ _ _ _ _ (ap (λ b. b.entries) c.add.ensures.board) (c.requires.alone runs) c.add.ensures.answer
    (suits-turn m past d.actor d.phase before c.script_entry-self.result (subst (Each (Suits m past d.actor d.phase)) (sym c.script_entry-self.ensures) (script_entry-suits m past d.actor d.phase)))
