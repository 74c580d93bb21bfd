-- Which table it is, and which actors its root has.
use Rattle.std.specs.Prelude.{◌≡◌, ◌||◌, Bool, true, false, List, [], ◌∷◌, Some}
use Rattle.atomic_table.specs.Seated.{TableId}
use Rattle.acpi_regs.specs.declared.actor.Actor.{Actor}
use Rattle.acpi_regs.specs.Actor.{same_actor}
use Rattle.lock_table.specs.declared.view.View.{View}
use Rattle.lock_table.specs.Views.{HasActor, find, fresh, is_known, root_parts}

-- which table it is
abbrev pub TableName : Type 0
TableName = TableId

abbrev pub is_among : Actor → List Actor → Bool
is_among a [] = false
is_among a (b ∷ bs) = same_actor a b || is_among a bs

-- the root has every actor but these
abbrev pub HasAllBut : List Actor → View → Type 0
HasAllBut away v = (a : Actor) → is_known a ≡ true → is_among a away ≡ false → HasActor a v

-- the root has every actor but these, and none of those that it has did anything yet
abbrev pub HasFreshBut : List Actor → View → Type 0
HasFreshBut away v = (a : Actor) → is_known a ≡ true → is_among a away ≡ false
    → find a (root_parts v.who) ≡ Some (fresh a)
