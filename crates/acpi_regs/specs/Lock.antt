-- The Global Lock by its history (ACPI 6.5, section 5.2.10.1): who owns it, who competes for it, and who was signalled.
--
-- The last entry of the past that touches a piece of state decides it.
use Rattle.std.specs.Prelude.{ℕ, ◌+◌, Bool, true, false, List, [], ◌∷◌, Option, Some, None, if◌then◌else◌}
use Rattle.acpi_regs.specs.declared.actor.Actor.{Actor}
use Rattle.acpi_regs.specs.declared.actor.Side.{Side}
use Rattle.acpi_regs.specs.declared.actor.Side.TheVariants as side
use Rattle.acpi_regs.specs.declared.entry.Deed.{Deed}
use Rattle.acpi_regs.specs.declared.entry.Deed.TheVariants as deed
use Rattle.acpi_regs.specs.declared.entry.Entry.{Entry}
use Rattle.acpi_regs.specs.Actor.{same_actor, stands_on}
use Rattle.acpi_regs.specs.Event.{is_gbl}

-- ---- the owner and the seekers

-- an own makes its actor the owner, and a disown leaves none
abbrev pub owner_after : Actor → Deed → Option Actor → Option Actor
owner_after a deed.Own old = Some a
owner_after a deed.Disown old = None
owner_after a _ old = old

abbrev pub owner : List Entry → Option Actor
owner [] = None
owner (e ∷ past) = owner_after e.actor e.deed (owner past)

-- a seek makes its actor the seeker of its side, and a leave of that side leaves none
abbrev pub seeker_after : Side → Actor → Deed → Option Actor → Option Actor
seeker_after s a deed.Seek old = if stands_on s a then Some a else old
seeker_after s a (deed.Leave signal) old = if stands_on s a then None else old
seeker_after s a _ old = old

abbrev pub seeker : Side → List Entry → Option Actor
seeker s [] = None
seeker s (e ∷ past) = seeker_after s e.actor e.deed (seeker s past)

-- there is an actor, and it is this one
abbrev pub is_someone : Actor → Option Actor → Bool
is_someone a None = false
is_someone a (Some b) = same_actor a b

-- ---- what an actor has done since its seek

-- a fact about an actor that its own entries alone decide
abbrev pub own_word : (Deed → Bool → Bool) → Actor → List Entry → Bool
own_word after a [] = false
own_word after a (e ∷ past) =
    if same_actor a e.actor then after e.deed (own_word after a past) else own_word after a past

-- it has owned since its seek
abbrev pub owned_after : Deed → Bool → Bool
owned_after deed.Seek old = false
owned_after deed.Own old = true
owned_after _ old = old

abbrev pub has_owned : Actor → List Entry → Bool
has_owned a past = own_word owned_after a past

-- it has disowned since its seek
abbrev pub disowned_after : Deed → Bool → Bool
disowned_after deed.Seek old = false
disowned_after deed.Disown old = true
disowned_after _ old = old

abbrev pub has_disowned : Actor → List Entry → Bool
has_disowned a past = own_word disowned_after a past

-- it was busy since its last seek or woken
abbrev pub busy_after : Deed → Bool → Bool
busy_after deed.Seek old = false
busy_after deed.Woken old = false
busy_after deed.Busy old = true
busy_after _ old = old

abbrev pub is_busy : Actor → List Entry → Bool
is_busy a past = own_word busy_after a past

-- ---- signals

-- A claim of the Global Lock's event sets the wake of the OS. A signalling leave of a worker sets the wake of the
-- firmware. A woken of a side clears its wake.
abbrev pub wake_after : Side → Actor → Deed → Bool → Bool
wake_after s a deed.Woken old = if stands_on s a then false else old
wake_after side.Os a (deed.Claim n) old = if is_gbl n then true else old
wake_after side.Firmware a (deed.Leave true) old = if stands_on side.Os a then true else old
wake_after s a _ old = old

abbrev pub wake : Side → List Entry → Bool
wake s [] = false
wake s (e ∷ past) = wake_after s e.actor e.deed (wake s past)

-- The status of the Global Lock's event: a raise, latch or assert of it sets it, and so does a signalling leave of the
-- firmware (BIOS_RLS sets GBL_STS). A claim of the event clears it.
abbrev pub gbl_after : Actor → Deed → Bool → Bool
gbl_after a (deed.Raise n) old = if is_gbl n then true else old
gbl_after a (deed.Latch n) old = if is_gbl n then true else old
gbl_after a (deed.Assert n) old = if is_gbl n then true else old
gbl_after a (deed.Claim n) old = if is_gbl n then false else old
gbl_after a (deed.Leave true) old = if stands_on side.Firmware a then true else old
gbl_after a _ old = old

abbrev pub gbl_status : List Entry → Bool
gbl_status [] = false
gbl_status (e ∷ past) = gbl_after e.actor e.deed (gbl_status past)

-- ---- counts of signals

abbrev pub other : Side → Side
other side.Os = side.Firmware
other side.Firmware = side.Os

abbrev pub signals_in : Deed → ℕ
signals_in (deed.Leave true) = 1
signals_in _ = 0

abbrev pub busies_in : Deed → ℕ
busies_in deed.Busy = 1
busies_in _ = 0

-- the sum of a count over the entries of a side
abbrev pub count_on : (Deed → ℕ) → Side → List Entry → ℕ
count_on count s [] = 0
count_on count s (e ∷ past) = (if stands_on s e.actor then count e.deed else 0) + count_on count s past

-- the signalling leaves of a side, and its busy entries
abbrev pub leaves : Side → List Entry → ℕ
leaves s past = count_on signals_in s past

abbrev pub busies : Side → List Entry → ℕ
busies s past = count_on busies_in s past
