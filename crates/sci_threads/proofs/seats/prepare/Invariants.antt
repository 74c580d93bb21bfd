use Rattle.machine_desc.specs.Actors.{actors_of}
use Rattle.sci_threads.proofs.Seating.{Preparing}
use Rattle.sci_threads.proofs.seats.prepare.Given as goal

abbrev pub invariant-loop-k : goal.invariant-loop-k
invariant-loop-k l = Preparing l.table.table.shared.table_id (actors_of l.machine) l.k l.count l.root l.seats.items
