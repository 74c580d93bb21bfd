-- The first rule that is broken, and where.
use Rattle.std.specs.Prelude.{ℕ, ◌+◌, Bool, List, [], ◌∷◌, take, Option, Some, None, option_map, if◌then◌else◌}
use Rattle.machine_desc.specs.declared.fault.BadMachine.{BadMachine}
use Rattle.machine_desc.specs.declared.fault.Part.{Part}
use Rattle.machine_desc.specs.declared.fault.Rule.{Rule}
use Rattle.machine_desc.specs.declared.fault.Spot.{Spot}

-- the first that is there
abbrev pub first_of : {A : Type 0} → List (Option A) → Option A
first_of [] = None
first_of (x ∷ []) = x
first_of (None ∷ y ∷ rest) = first_of (y ∷ rest)
first_of (Some x ∷ y ∷ rest) = Some x

-- a rule that is broken at an operation or a pulse, where the test says so
abbrev pub breaks_at : Bool → Rule → ℕ → Option Spot
breaks_at broken rule op = if broken then Some (record { rule = rule; op = op }) else None

-- the same where no operation is concerned
abbrev pub breaks : Bool → Rule → Option Spot
breaks broken rule = breaks_at broken rule 0

-- in the item of an index
abbrev pub at_item : Part → ℕ → Spot → BadMachine
at_item part index s = record { rule = s.rule; place = record { part = part; index = index; op = s.op } }

abbrev pub in_item : Part → ℕ → Option Spot → Option BadMachine
in_item part index spot = option_map (at_item part index) spot

-- the items of a part from index k on, in order; the fault of an item may depend on the items before it
abbrev pub items_from : {A : Type 0} → Part → (List A → A → Option Spot) → List A → ℕ → List A → Option BadMachine
items_from part fault all k [] = None
items_from part fault all k (x ∷ xs) = first_of
    (in_item part k (fault (take k all) x) ∷ items_from part fault all (k + 1) xs ∷ [])

-- a part: first that it has too many items, and then each
abbrev pub items_rows : {A : Type 0} → Part → Option Spot → (List A → A → Option Spot) → List A
    → List (Option BadMachine)
items_rows part too_many fault items =
    in_item part 0 too_many
    ∷ items_from part fault items 0 items
    ∷ []

abbrev pub in_items : {A : Type 0} → Part → Option Spot → (List A → A → Option Spot) → List A → Option BadMachine
in_items part too_many fault items = first_of (items_rows part too_many fault items)
