-- The walk of a description, depth first: what is read of a value, or the path of the first value that fails.
use Rattle.std.specs.Prelude.{◌≡◌, ℕ, ◌+◌, ◌==◌, Bool, false, ◌&&◌, List, [], ◌∷◌, ◌++◌, length, Option, Some, None, is_some, if◌then◌else◌, Result, Ok, Err, decimal}
use Rattle.std.specs.List.{list_all}
use Rattle.std.specs.Option.{option_map_or}
use Rattle.serde_json.specs.Data.{Data, Items, no_items, item}
use Rattle.serde_json.specs.Events.{members_len}
use Rattle.serde_json.specs.Find.{get, as_array, as_object}
use Rattle.machine_reader.specs.declared.path.ShapeFault.{ShapeFault}
use Rattle.machine_reader.specs.declared.path.ShapeFault.TheVariants as fault

-- what was read, or the path from here to the value that fails
abbrev pub Reading : Type 0 → Type 0
Reading A = Result A (List ℕ)

-- the value itself fails
abbrev pub fails_here : {A : Type 0} → Reading A
fails_here = Err []

-- read this, and then that
infixl 10 ◌>>=◌
abbrev pub ◌>>=◌ : {A B : Type 0} → Reading A → (A → Reading B) → Reading B
(Ok x) >>= next = next x
(Err path) >>= next = Err path

-- a step of a path and the rest of it, joined by a dot
abbrev pub joined : List ℕ → List ℕ → List ℕ
joined step [] = step
joined step (c ∷ path) = step ++ 46 ∷ c ∷ path

-- what was read one step below
abbrev pub under : {A : Type 0} → List ℕ → Reading A → Reading A
under step (Ok x) = Ok x
under step (Err path) = Err (joined step path)

-- a value that is tested as a whole
abbrev pub whole : {A : Type 0} → Option A → Reading A
whole None = fails_here
whole (Some x) = Ok x

-- the value is an object with exactly these names, which differ
abbrev pub has_names : List (List ℕ) → Data → Bool
has_names names d =
    option_map_or (λ members. members_len members == length names) (as_object d) false
    && list_all (λ name. is_some (get name d)) names

-- first the object itself, which has exactly these names, and then its members
abbrev pub object_of : {A : Type 0} → List (List ℕ) → (Data → Reading A) → Data → Reading A
object_of names members d = if has_names names d then members d else fails_here

-- the member of a name, which the object has
abbrev pub member_in : {A : Type 0} → List ℕ → (Data → Reading A) → Data → Reading A
member_in name part d = option_map_or (λ v. under name (part v)) (get name d) fails_here

-- elements in order, numbered from k on
abbrev pub each_from : {A : Type 0} → ℕ → (Data → Reading A) → Items → Reading (List A)
each_from k part no_items = Ok []
each_from k part (item d ds) = do
  x ← under (decimal k) (part d)
  xs ← each_from (k + 1) part ds
  Ok (x ∷ xs)

-- first the array itself, and then its elements
abbrev pub list_of : {A : Type 0} → (Data → Reading A) → Data → Reading (List A)
list_of part d = option_map_or (each_from 0 part) (as_array d) fails_here

-- ---- for private clauses: a reader answers what is read, its value being seen by `plain`. `Memory` may be answered in
-- any case.

-- the path of a fault is that of the value that fails
abbrev pub Fails : {A : Type 0} → Reading A → ShapeFault → Type 0
Fails reading (fault.BadShape path) = reading ≡ Err path
Fails reading fault.Memory = Unit {0}

abbrev pub Reads : {A B : Type 0} → (B → A) → Reading A → Result B ShapeFault → Type 0
Reads plain reading (Ok x) = reading ≡ Ok (plain x)
Reads plain reading (Err fault) = Fails reading fault

-- a fault, seen from one step further out
abbrev pub Outwards : List ℕ → ShapeFault → ShapeFault → Type 0
Outwards step (fault.BadShape path) (fault.BadShape longer) = longer ≡ joined step path
Outwards step fault.Memory (fault.BadShape longer) = ⊥
Outwards step before fault.Memory = Unit {0}
