-- What each step on the Global Lock's word and on a pin word tells its seat: the view before and after, with the
-- slots that the seat holds.
use Rattle.std.specs.Prelude.{ℕ, ◌≡◌, ◌<◌, ◌==◌, not, true, List, reverse, Option}
use Rattle.std.specs.Int.{bit_at}
use Rattle.atomic_table.specs.Table.{Me, Step}
use Rattle.acpi_regs.specs.declared.entry.Entry.{Entry}
use Rattle.acpi_regs.specs.declared.event.Event.{Event}
use Rattle.acpi_regs.specs.CoreSound.{is_word, latches, listed_pulses}
use Rattle.acpi_regs.specs.Event.{bit_of}
use Rattle.lock_table.specs.declared.view.View.{View}
use Rattle.lock_table.specs.Pins.{pins_of}
use Rattle.lock_table.specs.Views.{ForOne, IsOwn, collects, hand_of, loads, pulses, releases, tries}

-- each event in hand has fewer latches among these entries than pulses in the devices' lists
abbrev pub AreFewer : List (List Event) → List Entry → List ℕ → Type 0
AreFewer lists entries hand = (n : Event) → pins_of hand n ≡ true → latches n (reverse entries) < listed_pulses lists n

module _ {B : Type 0} where
  -- a load of the lock's word, which found n
  abbrev pub Loaded : Step (Option B) → Me (Option B) View → ℕ → Me (Option B) View → Type 0
  Loaded st x n y = (is_word n ≡ true) × (y ≡ (loads n x.0, x.1)) × IsOwn y.0

  -- an exchange of it against the word that was loaded, which found n
  abbrev pub Exchanged : Step (Option B) → Me (Option B) View → ℕ → Me (Option B) View → Type 0
  Exchanged st x n y = (is_word n ≡ true) × (y ≡ (tries st.first n x.0, x.1)) × IsOwn y.0

  -- a release of it, which found n
  abbrev pub Released : Step (Option B) → Me (Option B) View → ℕ → Me (Option B) View → Type 0
  Released st x n y = (is_word n ≡ true) × (y ≡ (releases n x.0, x.1)) × IsOwn y.0

  -- a pulse of the event, whose pin word was n
  abbrev pub Raised : Event → Step (Option B) → Me (Option B) View → ℕ → Me (Option B) View → Type 0
  Raised e st x n y = (y ≡ (pulses e (not (bit_at n (bit_of e) == 1)) x.0, x.1)) × IsOwn y.0

  -- the next pin word, which was n, is in hand
  abbrev pub Swept : List (List Event) → Step (Option B) → Me (Option B) View → ℕ → Me (Option B) View → Type 0
  Swept lists st x n y = (y ≡ (collects n x.0, x.1)) × ForOne (λ p. AreFewer lists x.0.seen (hand_of p.phase)) y.0.who
      × IsOwn y.0
