-- Where the actor of a seat stands towards the Global Lock (ACPI 6.5, section 5.2.10.1).
use Rattle.std.specs.Prelude.{◌≡◌, Bool}
use Rattle.acpi_regs.specs.declared.actor.Actor.{Actor}
use Rattle.acpi_regs.specs.declared.phase.LockPhase.{LockPhase}
use Rattle.acpi_regs.specs.declared.phase.LockPhase.TheVariants as lock
use Rattle.lock_table.specs.declared.view.Part.{Part}
use Rattle.lock_table.specs.declared.view.SeatPhase.TheVariants as kept
use Rattle.lock_table.specs.declared.view.View.{View}
use Rattle.lock_table.specs.Views.{ForOne}

-- it stands in this phase of the lock
abbrev pub IsIn : LockPhase → Part → Type 0
IsIn q p = p.phase ≡ kept.Lock q

-- the seat is this actor's, of which P holds
abbrev pub IsSeatOf : (Part → Type 0) → Actor → View → Type 0
IsSeatOf P a v = ForOne (λ p. (p.actor ≡ a) × P p) v.who

-- an actor that has released the lock's word, and whether that word was pending
pub record Released : Type 0 where
  pub actor : Actor
  pub signal : Bool

-- it has released the lock's word, and found it so
abbrev pub HasReleased : Released → View → Type 0
HasReleased r v = IsSeatOf (IsIn (lock.Gone r.signal)) r.actor v
