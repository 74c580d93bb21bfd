-- A machine that is ready to run on threads.
use Rattle.std.specs.Prelude.{ℕ, ◌≡◌, ◌≤◌, All, List, []}
use Rattle.lock_table.specs.Calls.{Pass}
use Rattle.lock_table.specs.Roots.{HasFreshBut, TableName}
use Rattle.machine_desc.specs.Actors.{actors_of}
use Rattle.machine_desc.specs.Machine.{MachineData}
use Rattle.machine_desc.specs.Weight.{weight_of}
use Rattle.machine_reader.specs.Canonical.{canonical}
use Rattle.sci_threads.specs.declared.any.AnyActor.{AnyActor}
use Rattle.sci_threads.specs.declared.shared.ActorSeat.{ActorSeat}
use Rattle.sci_threads.specs.Seats.{IsFirst, IsRootOf, names_of}

-- An open table of a board of this machine, and its root without a turn. Every actor of the machine has a seat, at
-- its start, in the order in which actors are served; the root has all others, which did nothing. The machine's
-- canonical text, and room for the actors when they are back.
pub record IsPrepared (m base : MachineData) (table : TableName) (root : Pass) (seats : List ActorSeat) (actors : List AnyActor) (count room : ℕ) (text : List ℕ) : Type 0 where
  pub same : base ≡ m
  pub root_is : IsRootOf table root
  pub whole : names_of seats ≡ actors_of m
  pub first : All (IsFirst table) seats
  pub others : HasFreshBut (actors_of m) root.view
  pub none_back : actors ≡ []
  pub has_room : count ≤ room
  pub canonical_text : text ≡ canonical m
  pub light : weight_of m ≤ 1048576
