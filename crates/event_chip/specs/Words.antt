-- The status and enable words that a chip shows (ACPI 6.5, sections 4.8.3.1 and 4.8.4.1).
use Rattle.std.specs.Prelude.{◌≡◌, ℕ, ◌<◌, ◌==◌, Bool, List}
use Rattle.std.specs.Int.{bit_at}
use Rattle.acpi_regs.specs.declared.event.Event.{Event}
use Rattle.acpi_regs.specs.Registers.{register_bit, register_of}
use Rattle.event_chip.specs.declared.state.Slot.{Slot}
use Rattle.event_chip.specs.Chip.{slot_of}

-- a word of 16 bits has each of its events' bits as the test says, and each bit of no event is 0
pub record IsWord (test : Slot → Bool) (chip : List Slot) (k word : ℕ) : Type 0 where
  pub events : (n : Event) → register_of n ≡ k → (bit_at word (register_bit n) == 1) ≡ test (slot_of chip n)
  pub others : (i : ℕ) → i < 16 → ((n : Event) → register_of n ≡ k → register_bit n ≡ i → ⊥) → bit_at word i ≡ 0
