-- What the tests of tables keep of their seats.
use Rattle.std.specs.Prelude.{◌≡◌, true, false, List}
use Rattle.acpi_regs.specs.declared.actor.Actor.{Actor}
use Rattle.acpi_regs.specs.declared.entry.Deed.{Deed}
use Rattle.acpi_regs.specs.declared.entry.Entry.{Entry}
use Rattle.acpi_regs.specs.declared.phase.LockPhase.TheVariants as lock
use Rattle.acpi_regs.specs.CoreEvents.{is_holding, is_latch, may_add}
use Rattle.lock_table.specs.declared.view.Part.{Part}
use Rattle.lock_table.specs.declared.view.SeatPhase.{SeatPhase}
use Rattle.lock_table.specs.declared.view.SeatPhase.TheVariants as kept
use Rattle.lock_table.specs.declared.view.Stage.TheVariants as stage
use Rattle.lock_table.specs.Calls.{Pass}
use Rattle.lock_table.specs.Roots.{TableName}
use Rattle.lock_table.specs.Views.{IsRoot, phase_of}
use Rattle.global_lock.specs.Phases.{IsSeatOf}

-- a seat of this table, without the turn
abbrev pub IsHere : TableName → Pass → Type 0
IsHere id s = (s.table ≡ id) × (s.view.stage ≡ stage.Away)

-- the root of this table, without the turn
abbrev pub IsRootHere : TableName → Pass → Type 0
IsRootHere id s = (s.table ≡ id) × (s.view.stage ≡ stage.Away) × IsRoot s.view.who

abbrev pub IsAt : SeatPhase → Part → Type 0
IsAt k p = p.phase ≡ k

-- this actor's seat of this table, in this phase and without the turn
abbrev pub Rests : TableName → Actor → SeatPhase → Pass → Type 0
Rests id a k s = (s.table ≡ id) × (s.view.stage ≡ stage.Away) × IsSeatOf (IsAt k) a s.view

-- an entry that is no latch, and that the phase allows
abbrev pub MayNote : SeatPhase → Deed → Type 0
MayNote k d = (may_add (phase_of k) d ≡ true) × (is_latch d ≡ false) × (is_holding (phase_of k) ≡ false)

-- this actor's seat of this table, in this phase and in a turn that found these entries
abbrev pub IsInside : TableName → Actor → SeatPhase → List Entry → Pass → Type 0
IsInside id a k found s = (s.table ≡ id) × (s.view.stage ≡ stage.Inside) × (s.view.seen ≡ found)
    × IsSeatOf (IsAt k) a s.view

-- a phase with no pins in hand
abbrev pub MayPass : SeatPhase → Type 0
MayPass k = is_holding (phase_of k) ≡ false

-- this worker's or firmware's seat of this table, idle and without the turn
abbrev pub IsIdle : TableName → Actor → Pass → Type 0
IsIdle id a s = Rests id a (kept.Lock lock.Idle) s
