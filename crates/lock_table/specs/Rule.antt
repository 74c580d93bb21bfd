-- The rule of the table: between any two of its steps, words, views and board stand for a sound core.
--
-- Word 0 is 0 where the turn is home and 1 where it is out. Word 1 is the Global Lock's, and five pin words follow.
-- The slot has the board while the turn is home.
use Rattle.std.specs.Prelude.{ℕ, ◌≡◌, ◌≢◌, true, false, List, [], ◌∷◌, length, Option, Some, None, IsSome}
use mathlib.Core.Option as m
use lib.ListN.{get_elem?}
use Rattle.atomic_table.specs.Table.{State}
use Rattle.acpi_regs.specs.declared.actor.Actor.{Actor}
use Rattle.acpi_regs.specs.declared.entry.Entry.{Entry}
use Rattle.acpi_regs.specs.declared.event.Event.{Event}
use Rattle.acpi_regs.specs.Core.{Core}
use Rattle.acpi_regs.specs.CoreSound.{CoreSound}
use Rattle.acpi_regs.specs.History.{entries_of}
use Rattle.acpi_regs.specs.Phases.{Phase, first_phase}
use Rattle.lock_table.specs.declared.view.Occupant.{Occupant}
use Rattle.lock_table.specs.declared.view.Occupant.TheVariants as who
use Rattle.lock_table.specs.declared.view.Part.{Part}
use Rattle.lock_table.specs.declared.view.Stage.{Stage}
use Rattle.lock_table.specs.declared.view.Stage.TheVariants as stage
use Rattle.lock_table.specs.declared.view.View.{View}
use Rattle.lock_table.specs.Pins.{pins_of}
use Rattle.lock_table.specs.Views.{EachPart, HoldsInTurn, StartsWith, find, is_known, parts_in, phase_of}

-- the part has its actor's phase, and the entries that the actor made
abbrev pub StandsIn : Core → Part → Type 0
StandsIn core p = (phase_of p.phase ≡ core.phases p.actor) × (p.mine ≡ entries_of core.history p.actor)

-- an actor that there is not is at its start
abbrev pub AbsentAreFirst : (Actor → Phase) → Type 0
AbsentAreFirst phases = (a : Actor) → is_known a ≡ false → phases a ≡ first_phase a

-- ---- seats

-- the actor is one that there is, and sits in seat j
abbrev pub Sits : Core → (Actor → ℕ) → ℕ → Part → Type 0
Sits core seat_of j p = (is_known p.actor ≡ true) × (seat_of p.actor ≡ j) × StandsIn core p

-- the root is the first seat
abbrev pub RootIs : ℕ → Occupant → Type 0
RootIs j (who.Root ps) = j ≡ 0
RootIs j _ = Unit {0}

abbrev pub IsSomebody : Occupant → Type 0
IsSomebody who.Nobody = ⊥
IsSomebody _ = Unit {0}

module _ {B : Type 0} where
  -- the slot while the turn is out
  abbrev pub slot_at : Stage → m.Option (Option B)
  slot_at stage.Carrying = m.none
  slot_at _ = m.some None

  -- seat j is the holder of the turn, and has seen the whole history
  pub record HasTurn (turn holder : ℕ) (history : List Entry) (homes : List (m.Option (Option B))) (j : ℕ) (v : View) : Type 0 where
    pub out : turn ≡ 1
    pub holds : j ≡ holder
    pub whole : v.seen ≡ history
    pub slot : homes ≡ slot_at v.stage ∷ []
    pub somebody : IsSomebody v.who

  -- what a view tells is so
  pub record Fits (turn holder : ℕ) (core : Core) (seat_of : Actor → ℕ) (homes : List (m.Option (Option B))) (j : ℕ) (v : View) : Type 0 where
    pub seen : StartsWith core.history v.seen
    pub told : StartsWith core.history v.told
    pub sits : EachPart (Sits core seat_of j) (parts_in v.who)
    pub root : RootIs j v.who
    pub holds : v.stage ≢ stage.Away → HasTurn turn holder core.history homes j v
    pub free : HoldsInTurn v.stage v.who

-- ---- the table

-- The board in the slot is of this table, and has the history
pub record IsHome {B X : Type 0} (base : B → X) (entries : B → List Entry) (key : B) (history : List Entry) (homes : List (m.Option (Option B))) : Type 0 where
  pub board : B
  pub slot : homes ≡ m.some (Some board) ∷ []
  pub same_base : base board ≡ base key
  pub has : entries board ≡ history

-- the seat's view is one with the turn
pub record IsOut (turn holder : ℕ) (views : List View) : Type 0 where
  pub out : turn ≡ 1
  pub view : View
  pub there : get_elem? views holder ≡ m.some view
  pub inside : view.stage ≢ stage.Away

-- an actor's seat has its part
pub record IsSeated (views : List View) (j : ℕ) (a : Actor) : Type 0 where
  pub view : View
  pub there : get_elem? views j ≡ m.some view
  pub part : IsSome (find a (parts_in view.who))

-- Words, views and board stand for a core, which is sound. Each actor is in one view.
pub record Kept {B X : Type 0} (lists : X → List (List Event)) (base : B → X) (entries : B → List Entry) (key : B) (s : State (Option B) View) : Type 0 where
  pub turn : ℕ
  pub holder : ℕ
  pub pins : List ℕ
  pub core : Core
  pub seat_of : Actor → ℕ
  pub words : s.words ≡ turn ∷ core.word ∷ pins
  pub five : length pins ≡ 5
  pub pinned : (n : Event) → core.pins n ≡ pins_of pins n
  pub home : turn ≡ 0 → IsHome base entries key core.history s.homes
  pub out : turn ≢ 0 → IsOut turn holder s.views
  pub sound : CoreSound (lists (base key)) core
  pub absent : AbsentAreFirst core.phases
  pub seated : (a : Actor) → is_known a ≡ true → IsSeated s.views (seat_of a) a
  pub fits : (j : ℕ) (v : View) → get_elem? s.views j ≡ m.some v → Fits turn holder core seat_of s.homes j v
