-- A machine whose threads have run: what its table's root then knows of each actor.
use Rattle.std.specs.Prelude.{ℕ, ◌≡◌, ◌+◌, ◌≤◌, ◌⊎◌, All, List, map, Some}
use Rattle.lock_table.specs.declared.view.Part.{Part}
use Rattle.lock_table.specs.declared.view.View.{View}
use Rattle.lock_table.specs.Calls.{Pass}
use Rattle.lock_table.specs.Roots.{HasFreshBut, TableName}
use Rattle.lock_table.specs.Views.{HasAll, find, phase_of, root_parts}
use Rattle.machine_desc.specs.Actors.{actors_of}
use Rattle.machine_desc.specs.Machine.{MachineData}
use Rattle.machine_desc.specs.Weight.{weight_of}
use Rattle.machine_reader.specs.Canonical.{canonical}
use Rattle.sci_threads.specs.declared.any.AnyActor.{AnyActor}
use Rattle.sci_threads.specs.Actors.{stands, who}
use Rattle.sci_threads.specs.Seats.{IsRootOf}
use Rattle.sci_threads.specs.Shared.{IsAtEnd}

-- how many steps each actor may make on its thread
abbrev pub turns_of : MachineData → ℕ
turns_of m = weight_of m + 64

-- These parts have the actor, in its phase. It is at its end, a firmware idle with its script through or a device
-- with its list through; or it tried so many times.
pub record IsBack (m : MachineData) (turns : ℕ) (parts : List Part) (x : AnyActor) : Type 0 where
  pub part : Part
  pub there : find (who x) parts ≡ Some part
  pub phase : phase_of part.phase ≡ stands x
  pub ran : IsAtEnd m part ⊎ (turns ≤ part.tried)

-- what contracts see: the machine, and what the root of its table knows
pub record RacedData : Type 0 where
  pub machine : MachineData
  pub root : View

-- The open table of a board of this machine, and its root without a turn, in which every actor is back. All other
-- actors did nothing. The actors stand in the order in which they are served.
pub record AreBack (m base : MachineData) (table : TableName) (root : Pass) (actors : List AnyActor) : Type 0 where
  pub same : base ≡ m
  pub root_is : IsRootOf table root
  pub all : HasAll root.view
  pub whole : map who actors ≡ actors_of m
  pub back : All (IsBack m (turns_of m) (root_parts root.view.who)) actors
  pub others : HasFreshBut (actors_of m) root.view

-- with the machine's canonical text
pub record IsRaced (m base : MachineData) (table : TableName) (root : Pass) (actors : List AnyActor) (text : List ℕ) : Type 0 where
  pub are_back : AreBack m base table root actors
  pub canonical_text : text ≡ canonical m
