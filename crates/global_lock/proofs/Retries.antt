-- What attempts that found the word changed leave, one after another.
use Rattle.std.proofs.Common.{◌≡◌, ℕ, suc, refl, subst, ◌∙◌}
use Rattle.acpi_regs.specs.declared.actor.Actor.{Actor}
use Rattle.acpi_regs.specs.declared.phase.LockPhase.TheVariants as lock
use Rattle.lock_table.specs.Calls.{Pass, SameSeat}
use Rattle.lock_table.specs.Views.{IsSeeking}
use Rattle.global_lock.specs.declared.calls.Acquired.TheVariants as acquired
use Rattle.global_lock.specs.declared.calls.TryLock.TheVariants as try
use Rattle.global_lock.specs.Calls.{Acquires, Fails, Tries}
use Rattle.global_lock.specs.Phases.{IsIn, IsSeatOf}

-- the seat is the same, its actor still competes, and all that it did were such attempts
pub record Retrying (a : Actor) (start now : Pass) (seeking : Actor) : Type 0 where
  pub same : SameSeat start now
  pub named : seeking ≡ a
  pub seeks : IsSeatOf IsSeeking a now.view
  pub fails : (k : ℕ) × Fails k start.view now.view

pub starts : (a : Actor) (start : Pass) → IsSeatOf IsSeeking a start.view → Retrying a start start a
starts a start seeks = record { same = (refl, refl); named = refl; seeks = seeks; fails = (0, refl) }

pub goes_on : (a : Actor) (start now later : Pass) (seeking again : Actor) (l n : ℕ) → Retrying a start now seeking → SameSeat now later → Tries seeking now.view (try.Moved again l n) later.view → Retrying a start later again
goes_on a start now later seeking again l n h same tried = record {
  same = (same.0 ∙ h.same.0, same.1 ∙ h.same.1);
  named = tried.0 ∙ h.named;
  seeks = subst (λ b. IsSeatOf IsSeeking b later.view) h.named tried.2;
  fails = (suc h.fails.0, (now.view, l, n, h.fails.1, tried.1));
}

pub wins : (a : Actor) (start now later : Pass) (seeking won : Actor) → Retrying a start now seeking → Tries seeking now.view (try.Won won) later.view → Acquires a start.view (acquired.Owned won) later.view
wins a start now later seeking won h tried = (tried.0 ∙ h.named, (h.fails.0, now.view, h.fails.1, tried.1), subst (λ b. IsSeatOf (IsIn lock.Won) b later.view) h.named tried.2)

pub marks : (a : Actor) (start now later : Pass) (seeking marked : Actor) (n : ℕ) → Retrying a start now seeking → Tries seeking now.view (try.Marked marked n) later.view → Acquires a start.view (acquired.Busy marked n) later.view
marks a start now later seeking marked n h tried = (tried.0 ∙ h.named, (h.fails.0, now.view, h.fails.1, tried.1), subst (λ b. IsSeatOf (IsIn lock.Marked) b later.view) h.named tried.2)
