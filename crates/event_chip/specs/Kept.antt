-- What a chip keeps as well as its slots: the status and enable bits of all events, in words.
use Rattle.std.specs.Prelude.{◌≡◌, ℕ, ◌<◌, Bool, false, List, length, slice_index_or}
use Rattle.event_chip.specs.declared.state.Slot.{Slot}
use Rattle.event_chip.specs.Chip.{no_slot}
use Rattle.event_chip.specs.Places.{IsSummary, has, rank_in}
use Rattle.event_chip.specs.State.{is_enabled}

-- the event has status, and the event is enabled
abbrev pub is_set : Slot → Bool
is_set s = s.state.status

abbrev pub enables : Slot → Bool
enables s = is_enabled s.kind s.state

-- the slot of the event whose bit is at a place
abbrev pub slot_in : List Slot → (place : ℕ) → Slot
slot_in slots p = slice_index_or slots (rank_in p) no_slot

-- each bit of the words is what the test says of its event
abbrev pub Shows : (Slot → Bool) → List Slot → (words : List ℕ) → Type 0
Shows test slots words = (p : ℕ) → p < 272 → has words p ≡ test (slot_in slots p)

pub record IsKept (slots : List Slot) (status enable : List ℕ) (summary : ℕ) : Type 0 where
  pub size : length slots ≡ 261
  pub status_bits : Shows is_set slots status
  pub enable_bits : Shows enables slots enable
  pub summary_bits : IsSummary status enable summary

-- nothing has happened to any event
abbrev pub IsQuiet : List Slot → Type 0
IsQuiet slots = (k : ℕ) → (slice_index_or slots k no_slot).state.status ≡ false
