-- What the calls on the Global Lock say.
use Rattle.std.specs.Prelude.{ℕ, zero, suc, ◌≡◌}
use Rattle.acpi_regs.specs.declared.actor.Actor.{Actor}
use Rattle.acpi_regs.specs.declared.phase.LockPhase.TheVariants as lock
use Rattle.lock_table.specs.declared.view.View.{View}
use Rattle.lock_table.specs.declared.words.Attempt.TheVariants as attempt
use Rattle.lock_table.specs.Views.{IsSeeking}
use Rattle.lock_table.specs.WordCalls.{Attempts}
use Rattle.global_lock.specs.declared.calls.Acquired.{Acquired}
use Rattle.global_lock.specs.declared.calls.Acquired.TheVariants as acquired
use Rattle.global_lock.specs.declared.calls.TryLock.{TryLock}
use Rattle.global_lock.specs.declared.calls.TryLock.TheVariants as try
use Rattle.global_lock.specs.Phases.{IsIn, IsSeatOf}

-- one attempt of this actor, and the phase that it left
abbrev pub Tries : Actor → View → TryLock → View → Type 0
Tries a v (try.Won x) w = (x ≡ a) × Attempts v attempt.Won w × IsSeatOf (IsIn lock.Won) a w
Tries a v (try.Marked x n) w = (x ≡ a) × Attempts v (attempt.Marked n) w × IsSeatOf (IsIn lock.Marked) a w
Tries a v (try.Moved x l n) w = (x ≡ a) × Attempts v (attempt.Moved l n) w × IsSeatOf IsSeeking a w

-- k attempts, each of which found the word changed
abbrev pub Fails : ℕ → View → View → Type 0
Fails zero v w = w ≡ v
Fails (suc k) v w = (u : View) × (l : ℕ) × (n : ℕ) × Fails k v u × Attempts u (attempt.Moved l n) w

-- some attempts that found the word changed, and then one that succeeded: on a free word, or on an owned one
abbrev pub Acquires : Actor → View → Acquired → View → Type 0
Acquires a v (acquired.Owned x) w = (x ≡ a) × ((k : ℕ) × (u : View) × Fails k v u × Attempts u attempt.Won w)
    × IsSeatOf (IsIn lock.Won) a w
Acquires a v (acquired.Busy x n) w = (x ≡ a) × ((k : ℕ) × (u : View) × Fails k v u × Attempts u (attempt.Marked n) w)
    × IsSeatOf (IsIn lock.Marked) a w
