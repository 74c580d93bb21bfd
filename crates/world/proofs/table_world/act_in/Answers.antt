use Rattle.std.proofs.Common.{ap, sym, ◌∙◌, subst, List}
use Rattle.acpi_regs.specs.Core.{events_of}
use Rattle.acpi_regs.specs.declared.entry.Entry.{Entry}
use Rattle.lock_table.specs.Bits.{words_of}
use Rattle.lock_table.specs.Views.{gave}
use Rattle.machine_core.specs.Board.{BoardData}
use Rattle.machine_desc.specs.Machine.{MachineData}
use Rattle.world.specs.Duties.{IsTurn, pinned}
use Rattle.world.proofs.SharedTurns.{is_finished, may_add_turn}
use Rattle.world.proofs.table_world.act_in.Goals as goal

pub leave-requires-clause-adds : goal.leave-requires-clause-adds
leave-requires-clause-adds g c =
    let found = ap (λ (b : BoardData). b.entries) c.board.ensures.value ∙ ap (λ t. t.board.entries) c.gather-bits.ensures.turn ∙ ap (λ (b : BoardData). b.entries) c.board-found.ensures.value ∙ c.requires.found in
    let left = ap (λ (b : BoardData). b.entries) c.board-left.ensures.value in
    let a = g.D.Duty.actor_of c.args.duty.now in
    let lock = g.D.Duty.lock c.args.duty.now in
    let events = events_of (pinned c.gather-bits.result) in
    let turn = subst (λ (l : List Entry). IsTurn a lock l c.board-left.result.now.entries events c.act-acted.result) found (subst (λ (l : List Entry). IsTurn a lock c.board.result.now.entries l events c.act-acted.result) (sym left) c.act-acted.ensures.rules) in
    may_add_turn c.board-left.result.now.machine a lock c.args.collect c.args.seat.now.view c.gather-bits.new.seat.view c.board-left.result.now.entries c.gather-bits.result c.act-acted.result c.gather-bits.ensures.gathers c.requires.may c.gather-bits.ensures.nothing turn c.law_legal-2.ensures

pub returns-clause-acts : goal.returns-clause-acts
returns-clause-acts g c =
    let found = ap (λ (b : BoardData). b.entries) c.board.ensures.value ∙ ap (λ t. t.board.entries) c.gather-bits.ensures.turn ∙ ap (λ (b : BoardData). b.entries) c.board-found.ensures.value ∙ c.requires.found in
    let machine = ap (λ (b : BoardData). b.machine) c.board.ensures.value ∙ ap (λ t. t.board.machine) c.gather-bits.ensures.turn ∙ ap (λ (b : BoardData). b.machine) c.board-found.ensures.value ∙ c.requires.base in
    let left = ap (λ (b : BoardData). b.entries) c.board-left.ensures.value in
    let a = g.D.Duty.actor_of c.args.duty.now in
    let lock = g.D.Duty.lock c.args.duty.now in
    let events = events_of (pinned c.gather-bits.result) in
    let after = c.act-acted.new.board.entries in (
      after,
      events,
      c.gather-bits.ensures.nothing,
      is_finished a lock c.args.collect (words_of c.gather-bits.result) c.args.seat.now.view c.gather-bits.new.seat.view c.leave.new.seat.view after c.gather-bits.ensures.gathers (c.leave.ensures.gave ∙ ap (λ (l : List Entry). gave l c.gather-bits.new.seat.view) left) c.requires.may,
      subst (λ (l : List Entry). g.D.Duty.does c.args.table.now.table.shared.key.machine c.args.duty.now c.act-acted.new.self l after events c.act-acted.result) found
          (subst (λ (m : MachineData). g.D.Duty.does m c.args.duty.now c.act-acted.new.self c.board.result.now.entries after events c.act-acted.result) machine c.act-acted.ensures.does),
    )
