-- What the calls on the Global Lock's word and on the pin words say.
use Rattle.std.specs.Prelude.{ℕ, ◌≡◌, ◌≢◌, Bool, true, false, None}
use Rattle.acpi_regs.specs.declared.phase.LockPhase.TheVariants as lock
use Rattle.acpi_regs.specs.CoreSound.{is_word}
use Rattle.facs_word.specs.Word.{is_owned, is_pending}
use Rattle.lock_table.specs.declared.view.View.{View}
use Rattle.lock_table.specs.declared.words.Attempt.{Attempt}
use Rattle.lock_table.specs.declared.words.Attempt.TheVariants as attempt
use Rattle.lock_table.specs.Views.{exchanged, releases, with_one}

-- One load and one exchange. The exchange succeeded on a free word, or on an owned one, or it failed: then the word
-- had changed since the load.
abbrev pub Attempts : View → Attempt → View → Type 0
Attempts v attempt.Won w = (n : ℕ) × (is_word n ≡ true) × (is_owned n ≡ false)
    × (w ≡ with_one (exchanged lock.Won n n) v)
Attempts v (attempt.Marked n) w = (is_word n ≡ true) × (is_owned n ≡ true)
    × (w ≡ with_one (exchanged lock.Marked n n) v)
Attempts v (attempt.Moved l n) w = (is_word l ≡ true) × (is_word n ≡ true) × (l ≢ n)
    × (w ≡ with_one (exchanged (lock.Seeking None) l n) v)

-- a release, and whether the word that it found was pending
abbrev pub Releases : View → Bool → View → Type 0
Releases v pending w = (n : ℕ) × (is_word n ≡ true) × (pending ≡ is_pending n) × (w ≡ releases n v)
