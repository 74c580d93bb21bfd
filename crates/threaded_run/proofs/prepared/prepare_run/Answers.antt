use Rattle.history_text.proofs.Described.{small_weight}
use Rattle.threaded_run.proofs.prepared.prepare_run.Goals as goal

pub prepare_machine-requires : goal.prepare_machine-requires
prepare_machine-requires c = small_weight c.args.bytes.now _ c.in_ok-machine.ensures

pub law_canonical-requires : goal.law_canonical-requires
law_canonical-requires c = small_weight c.args.bytes.now _ c.in_ok-machine.ensures
