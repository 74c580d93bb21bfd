use Rattle.std.proofs.Common.{◌≡◌, length, map, take}
use Rattle.acpi_regs.specs.Phases.{first_phase}
use Rattle.machine_desc.specs.Actors.{actors_of}
use Rattle.sci_threads.specs.Actors.{stands, who}
use Rattle.sci_threads.proofs.actors.all_actors.Given as goal

abbrev pub invariant-loop-k : goal.invariant-loop-k
invariant-loop-k l = record {
  count : l.count ≡ length (actors_of l.machine);
  names : map who l.actors.items ≡ take l.k (actors_of l.machine);
  first : map stands l.actors.items ≡ map first_phase (take l.k (actors_of l.machine));
}
