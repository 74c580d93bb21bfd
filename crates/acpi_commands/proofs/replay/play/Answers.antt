use Rattle.acpi_commands.proofs.Starting.{sound_at_start}
use Rattle.acpi_commands.proofs.replay.play.Goals as goal

pub run_schedule-requires-clause-sound : goal.run_schedule-requires-clause-sound
run_schedule-requires-clause-sound c =
    sound_at_start c.args.machine.now _ c.requires.first (c.law_sound.ensures.first c.args.machine.now) c.law_gives.ensures.first
