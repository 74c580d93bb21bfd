use Rattle.std.proofs.Common.{ap, subst, ◌∙◌, All}
use Rattle.acpi_io.specs.Sink.{WritesAll}
use Rattle.history_text.specs.Named.{IsEntry}
use Rattle.history_text.specs.Text.{log_text}
use Rattle.acpi_commands.proofs.replay.carry_out.Goals as goal

pub returns-clause-ends : goal.returns-clause-ends
returns-clause-ends c d =
    let board = d.play.new.world.board in
    let machine = d.args.staged.machine in
    let text = ap (λ b. log_text b.machine d.deref.result.now b.entries) d.board-2.ensures
    ∙ ap (λ m. log_text m d.deref.result.now board.entries) d.play.ensures.machine
    ∙ ap (λ t. log_text machine t board.entries) (d.deref.ensures.value ∙ d.args.staged.canonical_text) in (
      board.entries,
      d.play.ensures.complete,
      d.play.ensures.played,
      subst (λ b. All IsEntry b.entries) d.board.ensures d.law_entries.ensures,
      subst (λ t. WritesAll (c.K.Sink.held d.args.sink.now) (c.K.Sink.held d.write_log.new.sink) t d.write_log.result) text d.write_log.ensures.ends,
    )
