-- The word of the Global Lock (ACPI 6.5, section 5.2.10.1): bit 0 is Pending, bit 1 is Owned, and bits 31:2 are
-- reserved.
use Rattle.std.specs.Prelude.{◌≡◌, ℕ, ◌+◌, ◌*◌, ◌/◌, ◌%◌, ◌≤◌, ◌↔◌, Bool, true, false, ◌==◌, ◌||◌, if◌then◌else◌}
use Rattle.std.specs.Int.{bit_at}

abbrev pub is_owned : ℕ → Bool
is_owned word = (word % 4 == 2) || (word % 4 == 3)

abbrev pub is_pending : ℕ → Bool
is_pending word = (word % 4 == 1) || (word % 4 == 3)

-- the reserved bits of a word, which every change of it keeps
abbrev pub reserved : ℕ → ℕ
reserved word = word / 4 * 4

-- the word after an attempt to take the lock: Owned alone if the lock was free, both bits if it was owned
abbrev pub acquired : ℕ → ℕ
acquired word = reserved word + (if is_owned word then 3 else 2)

-- the word after a release
abbrev pub released : ℕ → ℕ
released word = reserved word

-- A word by its bits: Pending is bit 0 and Owned is bit 1. An attempt sets Owned, and sets Pending exactly if the word
-- was owned. A release clears both.
pub record HasBits (word : ℕ) : Type 0 where
  pub pending : is_pending word ≡ true ↔ bit_at word 0 ≡ 1
  pub owned : is_owned word ≡ true ↔ bit_at word 1 ≡ 1
  pub takes : is_owned (acquired word) ≡ true
  pub marks : is_pending (acquired word) ≡ is_owned word
  pub frees : (is_owned (released word) ≡ false) × (is_pending (released word) ≡ false)
  pub small : (acquired word ≤ 3) × (released word ≤ 3)

-- The same of a word of any size, whose reserved bits stay.
pub record KeepsReserved (word : ℕ) : Type 0 where
  pub pending : is_pending word ≡ true ↔ bit_at word 0 ≡ 1
  pub owned : is_owned word ≡ true ↔ bit_at word 1 ≡ 1
  pub takes : is_owned (acquired word) ≡ true
  pub marks : is_pending (acquired word) ≡ is_owned word
  pub frees : (is_owned (released word) ≡ false) × (is_pending (released word) ≡ false)
  pub stay : (acquired word / 4 ≡ word / 4) × (released word / 4 ≡ word / 4)
