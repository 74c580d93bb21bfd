use Rattle.acpi_commands.proofs.Starting.{fresh}
use Rattle.acpi_commands.proofs.replay.with_room.Goals as goal

pub invariant_of-result : goal.invariant_of-result
invariant_of-result c =
    let both = fresh c.args.machine c.in-Ok-copied.copy c.new-world.result c.in-Ok-new.board c.new-2.result c.in-Ok-all_actors.actors.items c.new-world.ensures c.in-Ok-new.ensures c.in-Ok-copied.ensures c.new-2.ensures c.in-Ok-all_actors.ensures.first in
    record {
      same = both.0;
      whole = c.in-Ok-all_actors.ensures.names;
      first = both.1;
      canonical_text = c.in-Ok.ensures;
    }
