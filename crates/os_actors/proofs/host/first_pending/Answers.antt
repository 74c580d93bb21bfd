use Rattle.std.proofs.Common.{Some, None, ap, reverse, sym, subst}
use Rattle.acpi_regs.specs.Core.{all_events}
use Rattle.machine_core.specs.Board.{IsFirstPending}
use Rattle.machine_history.specs.Events.{pending}
use Rattle.machine_history.specs.Steps.{first}
use Rattle.os_actors.proofs.Pending.{first-below, none-below}
use Rattle.os_actors.proofs.host.first_pending.Goals as goal

pub returns-in-Some : goal.returns-in-Some
returns-in-Some c =
    let m = c.args.board.now.machine in
    let past = reverse c.args.board.now.entries in
    let found : IsFirstPending m past (Some c.in-Some.event) = subst (IsFirstPending m past) c.in-Some.is c.pending.ensures in
    sym (first-below (pending m past) all_events c.in-Some.event c.law_event.ensures found.0 found.1)

pub returns-in-None : goal.returns-in-None
returns-in-None c =
    let m = c.args.board.now.machine in
    let past = reverse c.args.board.now.entries in
    let none : IsFirstPending m past None = subst (IsFirstPending m past) c.in-None.is c.pending.ensures in
    sym (ap first (none-below (pending m past) all_events (λ n within. none n)))
