-- When `==` and `<` of a type are right.
use Rattle.std.specs.Prelude.{◌≡◌, ◌↔◌, ℕ, Bool, IsTrue}
use Rattle.std.specs.Ordering.{nat_cmp}
use Rattle.std.specs.declared.cmp.Ordering.{Ordering}

-- two values are `==` exactly if they are the same
abbrev pub IsExact : (T : Type 0) → (T → T → Bool) → Type 0
IsExact T eq = (a b : T) → IsTrue (eq a b) ↔ (a ≡ b)

-- values are ordered by their ranks
abbrev pub OrdersBy : (T : Type 0) → (T → ℕ) → (T → T → Ordering) → Type 0
OrdersBy T rank cmp = (a b : T) → cmp a b ≡ nat_cmp (rank a) (rank b)
