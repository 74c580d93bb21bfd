-- Which actor is which, and the side that it belongs to.
use Rattle.std.specs.Prelude.{◌≡◌, ℕ, Bool, true, false, ◌==◌, ◌&&◌, Option, Some, None}
use Rattle.std.specs.Ordering.{nat_cmp, ordering_then}
use Rattle.std.specs.declared.cmp.Ordering.{Ordering}
use Rattle.acpi_regs.specs.declared.actor.Actor.{Actor}
use Rattle.acpi_regs.specs.declared.actor.Actor.TheVariants as actor
use Rattle.acpi_regs.specs.declared.actor.Side.{Side}
use Rattle.acpi_regs.specs.declared.actor.Side.TheVariants as side

-- the side of the OS or of the firmware; the controller and the devices belong to neither
abbrev pub side_of : Actor → Option Side
side_of actor.Int = Some side.Os
side_of actor.Poll = Some side.Os
side_of (actor.Worker k) = Some side.Os
side_of actor.Ec = None
side_of (actor.Device k) = None
side_of (actor.Firmware k) = Some side.Firmware

-- an actor is known by its kind and its number
abbrev pub kind_of : Actor → ℕ
kind_of actor.Int = 0
kind_of actor.Poll = 1
kind_of (actor.Worker k) = 2
kind_of actor.Ec = 3
kind_of (actor.Device k) = 4
kind_of (actor.Firmware k) = 5

abbrev pub number_of : Actor → ℕ
number_of actor.Int = 0
number_of actor.Poll = 0
number_of (actor.Worker k) = k
number_of actor.Ec = 0
number_of (actor.Device k) = k
number_of (actor.Firmware k) = k

-- the two are one actor
abbrev pub same_actor : Actor → Actor → Bool
same_actor a b = (kind_of a == kind_of b) && (number_of a == number_of b)

-- actors are ordered by kind, and those of one kind by number
abbrev pub OrdersByKind : (Actor → Actor → Ordering) → Type 0
OrdersByKind cmp =
    (a b : Actor) → cmp a b ≡ ordering_then (nat_cmp (kind_of a) (kind_of b)) (nat_cmp (number_of a) (number_of b))

-- the side is this one
abbrev pub is_side : Side → Option Side → Bool
is_side side.Os (Some side.Os) = true
is_side side.Os (Some side.Firmware) = false
is_side side.Os None = false
is_side side.Firmware (Some side.Os) = false
is_side side.Firmware (Some side.Firmware) = true
is_side side.Firmware None = false

-- the actor belongs to this side
abbrev pub stands_on : Side → Actor → Bool
stands_on s a = is_side s (side_of a)
