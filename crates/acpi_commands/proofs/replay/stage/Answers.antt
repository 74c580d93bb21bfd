use Rattle.history_text.proofs.Described.{small_weight}
use Rattle.acpi_commands.proofs.replay.stage.Goals as goal

pub with_room-requires : goal.with_room-requires
with_room-requires c = small_weight c.args.bytes.now c.in-Ok.machine c.in-Ok.ensures

pub law_canonical-requires : goal.law_canonical-requires
law_canonical-requires c = small_weight c.args.bytes.now c.in-Ok.machine c.in-Ok.ensures
