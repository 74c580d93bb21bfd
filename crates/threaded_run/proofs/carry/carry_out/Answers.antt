use Rattle.std.proofs.Common.{◌≡◌, List, ap, subst, ℕ}
use Rattle.acpi_io.specs.Sink.{WritesAll}
use Rattle.lock_table.specs.declared.view.View.{View}
use Rattle.lock_table.specs.Views.{StartsWith}
use Rattle.machine_core.specs.Board.{BoardData}
use Rattle.machine_desc.specs.Machine.{MachineData}
use Rattle.machine_history.specs.Complete.{Complete}
use Rattle.threaded_run.specs.Raced.{RacedData}
use Rattle.threaded_run.proofs.Closed.{text_is}
use Rattle.threaded_run.proofs.carry.carry_out.Goals as goal

pub returns-clause-ends : goal.returns-clause-ends
returns-clause-ends g c =
    let inner = c.raced.inside in
    let board : BoardData = c.finished-board.result in
    let its : inner.machine ≡ c.args.raced.machine = ap (λ (r : RacedData). r.machine) c.raced.view_is in
    let root : inner.root.view ≡ c.args.raced.root = ap (λ (r : RacedData). r.root) c.raced.view_is in (
      board.entries,
      subst (λ (m : MachineData). Complete m board.entries) its c.finished-board.ensures.complete,
      subst (λ (v : View). StartsWith board.entries v.seen) root c.finished-board.ensures.begins,
      c.law_entries.ensures,
      subst (λ (t : List ℕ). WritesAll (g.K.Sink.held c.args.sink.now) (g.K.Sink.held c.write_log.new.sink) t c.write_log.result)
          (text_is c.args.raced.machine inner.machine board inner.text.items c.deref.result.now c.finished-board.ensures.machine its c.deref.ensures.value c.raced.invariant.canonical_text)
          c.write_log.ensures.ends,
    )
