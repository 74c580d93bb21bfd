-- What contracts see of a seat, and what the calls on a table say.
use Rattle.std.specs.Prelude.{ℕ, ◌≡◌, Bool, List, [], ◌∷◌, Option, Some, None}
use Rattle.atomic_table.specs.Seated.{TableId}
use Rattle.atomic_table.specs.declared.badge.Badge.{Badge}
use Rattle.acpi_regs.specs.declared.actor.Actor.{Actor}
use Rattle.acpi_regs.specs.declared.entry.Entry.{Entry}
use Rattle.acpi_regs.specs.declared.event.Event.{Event}
use Rattle.acpi_regs.specs.declared.phase.LockPhase.TheVariants as lock
use Rattle.acpi_regs.specs.Core.{Core}
use Rattle.acpi_regs.specs.CoreSound.{CoreSound}
use Rattle.lock_table.specs.declared.view.Occupant.{Occupant}
use Rattle.lock_table.specs.declared.view.Occupant.TheVariants as who
use Rattle.lock_table.specs.declared.view.Part.{Part}
use Rattle.lock_table.specs.declared.view.SeatPhase.{SeatPhase}
use Rattle.lock_table.specs.declared.view.SeatPhase.TheVariants as kept
use Rattle.lock_table.specs.declared.view.Stage.TheVariants as stage
use Rattle.lock_table.specs.declared.view.View.{View}
use Rattle.lock_table.specs.declared.seat.Entered.{Entered}
use Rattle.lock_table.specs.declared.seat.Entered.TheVariants as entered
use Rattle.lock_table.specs.declared.words.Words.{Words}
use Rattle.lock_table.specs.Bits.{IsEvent, is_set}
use Rattle.lock_table.specs.Rule.{AbsentAreFirst, IsSomebody, StandsIn}
use Rattle.lock_table.specs.Views.{EachPart, IsOwn, MadeIn, StartsWith, first_view, missed, parts_in, root_parts, staged, took}

-- ---- a seat

-- the table, the seat's number there, and what it knows
pub record Pass : Type 0 where
  pub table : TableId
  pub id : ℕ
  pub view : View

abbrev pub view_in : List View → View
view_in [] = first_view
view_in (v ∷ vs) = v

abbrev pub pass_of : Badge View → Pass
pass_of b = record { table = b.table_id; id = b.id; view = view_in b.views }

-- the actor of a seat, none for the root
abbrev pub actor_in : Occupant → Option Actor
actor_in (who.One p) = Some p.actor
actor_in _ = None

-- what a release found, while the phase tells it
abbrev pub Signals : Bool → SeatPhase → Type 0
Signals signal (kept.Lock (lock.Gone found)) = found ≡ signal
Signals signal _ = Unit {0}

abbrev pub KnowsSignal : Bool → Occupant → Type 0
KnowsSignal signal (who.One p) = Signals signal p.phase
KnowsSignal signal _ = Unit {0}

pub record IsSeat (badge : Badge View) (actor : Option Actor) (signal : Bool) : Type 0 where
  pub one_view : badge.views ≡ view_in badge.views ∷ []
  pub own : IsOwn (view_in badge.views)
  pub somebody : IsSomebody (view_in badge.views).who
  pub named : actor ≡ actor_in (view_in badge.views).who
  pub signalled : KnowsSignal signal (view_in badge.views).who

-- one actor's
abbrev pub IsOne : Occupant → Type 0
IsOne w = (p : Part) × (w ≡ who.One p)

-- the same seat
abbrev pub SameSeat : Pass → Pass → Type 0
SameSeat s t = (t.table ≡ s.table) × (t.id ≡ s.id)

-- ---- the calls

-- a turn, whose board begins with what the seat had seen, and has of the seat's actor the entries that it made; or
-- the turn was out
abbrev pub Enters : {B : Type 0} → (B → List Entry) → (B → Type 0) → View → Entered B → View → Type 0
Enters entries is v (entered.Turn t) w = is t.board × StartsWith (entries t.board) v.seen
    × (w ≡ staged stage.Inside (took (entries t.board) v)) × EachPart (MadeIn (entries t.board)) (parts_in v.who)
Enters entries is v entered.Out w = w ≡ missed 1 v

-- Board and words of a table that was closed stand for a sound core, with the parts that the root has, and with every
-- actor that there is not at its start. The board has the table's base, and its history begins with what the root had
-- seen.
pub record Leaves {B X : Type 0} (lists : X → List (List Event)) (base : B → X) (entries : B → List Entry) (key : B) (v : View) (b : B) (words : Words) : Type 0 where
  pub same_base : base b ≡ base key
  pub begins : StartsWith (entries b) v.seen
  pub core : Core
  pub history : core.history ≡ entries b
  pub word : core.word ≡ words.facs
  pub pins : (n : Event) → IsEvent n → core.pins n ≡ is_set words.pins n
  pub stands : EachPart (StandsIn core) (root_parts v.who)
  pub absent : AbsentAreFirst core.phases
  pub sound : CoreSound (lists (base key)) core
