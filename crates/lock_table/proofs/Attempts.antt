-- What an attempt leaves of its seat's view.
use Rattle.std.proofs.Common.{◌≡◌, ◌≢◌, ◌==◌, cond, ℕ, true, false, refl, sym, ap, ◌∙◌, None}
use Rattle.std.proofs.lemmas.Bool.{eq-eqb, ne_eqb}
use Rattle.acpi_regs.specs.declared.phase.LockPhase.{LockPhase}
use Rattle.acpi_regs.specs.declared.phase.LockPhase.TheVariants as lock
use Rattle.acpi_regs.specs.CoreEvents.{tried}
use Rattle.facs_word.specs.Word.{is_owned}
use Rattle.lock_table.specs.declared.view.Occupant.{Occupant}
use Rattle.lock_table.specs.declared.view.Occupant.TheVariants as who
use Rattle.lock_table.specs.declared.view.View.{View}
use Rattle.lock_table.specs.Views.{ForOne, HasLoaded, IsSeeking, exchanged, loading, loads, map_one, tries, trying, with_one}

pub has_loaded : (n : ℕ) (v : View) → ForOne IsSeeking v.who → ForOne (HasLoaded n) (loads n v).who
has_loaded n v seeks = of (v.who) seeks
  where
    of : (w : Occupant) → ForOne IsSeeking w → ForOne (HasLoaded n) (map_one (loading n) w)
    of (who.Root ps) h = absurd h
    of (who.One p) h = refl
    of who.Nobody h = absurd h

-- the phase after an exchange against l that found n
abbrev behind : ℕ → ℕ → LockPhase
behind l n = cond (n == l) (tried l) (lock.Seeking None)

tries_loaded : (l n : ℕ) (v : View) → tries l n (loads l v) ≡ with_one (exchanged (behind l n) l n) v
tries_loaded l n v = ap (λ w. record { who = w; seen = v.seen; told = v.told; stage = v.stage; turns = v.turns; misses = v.misses }) (of v.who)
  where
    of : (w : Occupant) → map_one (trying l n) (map_one (loading l) w) ≡ map_one (exchanged (behind l n) l n) w
    of (who.Root ps) = refl
    of (who.One p) = refl
    of who.Nobody = refl

left : (l n : ℕ) (v w : View) (q : LockPhase) → w ≡ tries l n (loads l v) → behind l n ≡ q → w ≡ with_one (exchanged q l n) v
left l n v w q is phase = is ∙ tries_loaded l n v ∙ ap (λ p. with_one (exchanged p l n) v) phase

pub moved : (l n : ℕ) (v w : View) → w ≡ tries l n (loads l v) → l ≢ n → w ≡ with_one (exchanged (lock.Seeking None) l n) v
moved l n v w is apart = left l n v w (lock.Seeking None) is (ap (λ b. cond b (tried l) (lock.Seeking None)) (ne_eqb n l (λ e. apart (sym e))))

same_word : (l n : ℕ) (q : LockPhase) → l ≡ n → tried n ≡ q → behind l n ≡ q
same_word l n q same is = ap (λ b. cond b (tried l) (lock.Seeking None)) (eq-eqb n l (sym same)) ∙ ap tried same ∙ is

pub marked : (l n : ℕ) (v w : View) → w ≡ tries l n (loads l v) → l ≡ n → is_owned n ≡ true → w ≡ with_one (exchanged lock.Marked n n) v
marked l n v w is same owned = left l n v w lock.Marked is (same_word l n lock.Marked same (ap (λ b. cond b lock.Marked lock.Won) owned)) ∙ ap (λ x. with_one (exchanged lock.Marked x n) v) same

pub won : (l n : ℕ) (v w : View) → w ≡ tries l n (loads l v) → l ≡ n → is_owned n ≡ false → w ≡ with_one (exchanged lock.Won n n) v
won l n v w is same free = left l n v w lock.Won is (same_word l n lock.Won same (ap (λ b. cond b lock.Marked lock.Won) free)) ∙ ap (λ x. with_one (exchanged lock.Won x n) v) same
