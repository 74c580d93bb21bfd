-- The seats of all actors of a machine: how they are made, and what comes back into the root.
use Rattle.std.specs.Prelude.{◌≡◌, List, [], ◌∷◌, map}
use Rattle.atomic_table.specs.Seated.{TableId}
use Rattle.acpi_regs.specs.declared.actor.Actor.{Actor}
use Rattle.acpi_regs.specs.Phases.{first_phase}
use Rattle.lock_table.specs.declared.view.Occupant.{Occupant}
use Rattle.lock_table.specs.declared.view.Occupant.TheVariants as who
use Rattle.lock_table.specs.declared.view.Part.{Part}
use Rattle.lock_table.specs.declared.view.Stage.TheVariants as stage
use Rattle.lock_table.specs.Calls.{Pass}
use Rattle.lock_table.specs.Views.{IsRoot, fresh}
use Rattle.sci_threads.specs.declared.shared.ActorSeat.{ActorSeat}
use Rattle.sci_threads.specs.Actors.{stands, who as who_of}

-- the root of this table, without a turn
pub record IsRootOf (id : TableId) (s : Pass) : Type 0 where
  pub table : s.table ≡ id
  pub away : s.view.stage ≡ stage.Away
  pub root : IsRoot s.view.who

-- a seat of this table without a turn, whose actor did nothing yet
pub record IsFirst (id : TableId) (x : ActorSeat) : Type 0 where
  pub table : x.seat.table ≡ id
  pub away : x.seat.view.stage ≡ stage.Away
  pub fresh : x.seat.view.who ≡ who.One (fresh (who_of x.actor))
  pub stands : stands x.actor ≡ first_phase (who_of x.actor)

abbrev pub names_of : List ActorSeat → List Actor
names_of seats = map (λ (x : ActorSeat). who_of x.actor) seats

abbrev pub part_back : Occupant → List Part → List Part
part_back (who.One p) parts = p ∷ parts
part_back _ parts = parts

-- the root's parts, when those of these seats are back, one after another
abbrev pub parts_back : List ActorSeat → List Part → List Part
parts_back [] parts = parts
parts_back (x ∷ seats) parts = parts_back seats (part_back x.seat.view.who parts)
