-- The chip: the registers of all events, by their places in the order in which events are served.
use Rattle.std.specs.Prelude.{◌≡◌, ◌<◌, Bool, true, false, List, [], ◌∷◌, Option, Some, None, slice_index_or, if◌then◌else◌, ◌||◌}
use Rattle.acpi_regs.specs.declared.event.Event.{Event}
use Rattle.acpi_regs.specs.declared.event.Listed.{Listed}
use Rattle.acpi_regs.specs.Event.{event_rank, is_gbl, same_event}
use Rattle.event_chip.specs.declared.state.EventKind.TheVariants as kind
use Rattle.event_chip.specs.declared.state.Slot.{Slot}
use Rattle.event_chip.specs.declared.state.Touch.{Touch}
use Rattle.event_chip.specs.State.{after, fresh, is_level, is_listed, is_pending}

abbrev pub no_slot : Slot
no_slot = record { kind = kind.Unknown; state = fresh 0 }

-- what the chip keeps of an event
abbrev pub slot_of : List Slot → Event → Slot
slot_of chip n = slice_index_or chip (event_rank n) no_slot

abbrev pub pends : List Slot → Event → Bool
pends chip n = is_pending (slot_of chip n).kind (slot_of chip n).state

-- ---- the chip at its start

-- the item that lists an event, or the first of several
abbrev pub listing : List Listed → Event → Option Listed
listing [] n = None
listing (l ∷ rest) n = if same_event l.event n then Some l else listing rest n

abbrev pub listed_slot : Listed → Slot
listed_slot l = record { kind = if l.level then kind.Level else kind.Edge; state = fresh l.refs }

abbrev pub slot_or : Option Listed → Slot → Slot
slot_or None other = other
slot_or (Some l) other = listed_slot l

abbrev pub always : Slot
always = record { kind = kind.Always; state = fresh 0 }

-- the event is the controller's
abbrev pub is_controllers : Option Event → Event → Bool
is_controllers None n = false
is_controllers (Some e) n = same_event e n

-- the Global Lock's event and the controller's are always enabled, and all others are as listed
abbrev pub first_slot : List Listed → Option Event → Event → Slot
first_slot items controller n =
    if is_gbl n || is_controllers controller n then always else slot_or (listing items n) no_slot

-- ---- one call

abbrev pub touched : Touch → Slot → Slot
touched t s = record s { state = after s.kind t s.state }

-- a call changes one event by the touch, and leaves all others
abbrev pub Touches : Touch → Event → List Slot → List Slot → Type 0
Touches t e old new =
    (n : Event) → slot_of new n ≡ (if same_event e n then touched t (slot_of old n) else slot_of old n)

-- what a touch requires of an event
abbrev pub IsKnown : List Slot → Event → Type 0
IsKnown chip e = (slot_of chip e).kind ≡ kind.Unknown → ⊥

abbrev pub IsListed : List Slot → Event → Type 0
IsListed chip e = is_listed (slot_of chip e).kind ≡ true

abbrev pub IsLevel : List Slot → Event → Type 0
IsLevel chip e = is_level (slot_of chip e).kind ≡ true

-- the first event in order that is pending, if one is
abbrev pub IsFirst : List Slot → Option Event → Type 0
IsFirst chip None = (n : Event) → pends chip n ≡ false
IsFirst chip (Some n) = (pends chip n ≡ true) × ((k : Event) → event_rank k < event_rank n → pends chip k ≡ false)
