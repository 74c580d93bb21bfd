-- What each step on the turn word tells its seat: the view before and after, with the slots that the seat holds.
use Rattle.std.specs.Prelude.{ℕ, ◌≡◌, ◌≢◌, List, [], ◌∷◌, Option, Some, None}
use Rattle.atomic_table.specs.Table.{Me, Step, rest}
use Rattle.acpi_regs.specs.declared.entry.Entry.{Entry}
use Rattle.lock_table.specs.declared.view.Stage.TheVariants as stage
use Rattle.lock_table.specs.declared.view.View.{View}
use Rattle.lock_table.specs.Views.{EachPart, IsOwn, MadeIn, StartsWith, gave, learned, longer, missed, parts_in, staged, took}

-- a seat with the slots that it holds, of a table of boards B
abbrev pub Mine : Type 0 → Type 0
Mine B = Me (Option B) View

module _ {B : Type 0} where
  -- The turn was home: now the seat has the slot with the board, whose history begins with all that was seen, and has
  -- of each actor that sits here the entries that it made. Or it was out.
  abbrev pub Taken : (B → List Entry) → (B → Type 0) → Step (Option B) → Mine B → ℕ → Mine B → Type 0
  Taken entries is st x n y =
      (n ≡ 0 → (b : B) × is b × StartsWith (entries b) x.0.seen × (y ≡ (took (entries b) x.0, (0, Some b) ∷ x.1))
      × EachPart (MadeIn (entries b)) (parts_in x.0.who))
      × (n ≢ 0 → (n ≡ 1) × (y ≡ (missed n x.0, x.1)))

  -- the slot is back, empty, and the board with the caller
  abbrev pub PutIn : Step (Option B) → Mine B → ℕ → Mine B → Type 0
  PutIn st x n y = y ≡ (staged stage.Inside x.0, rest x.1)

  -- the empty slot is out with the seat again
  abbrev pub Lifted : Step (Option B) → Mine B → ℕ → Mine B → Type 0
  Lifted st x n y = y ≡ (staged stage.Carrying x.0, (0, None) ∷ x.1)

  -- the slot is back with this board, and the turn is home
  abbrev pub Given : (B → List Entry) → Step (Option B) → Mine B → ℕ → Mine B → Type 0
  Given entries st x n y = ((b : B) → x.1 ≡ (0, Some b) ∷ [] → y ≡ (gave (entries b) x.0, [])) × IsOwn y.0

  -- a look by a root that was told of what another seat had seen
  abbrev pub Looked : Step (Option B) → Mine B → ℕ → Mine B → Type 0
  Looked st x n y = (y ≡ (learned x.0, x.1)) × StartsWith (longer x.0.seen x.0.told) x.0.seen
      × StartsWith (longer x.0.seen x.0.told) x.0.told
