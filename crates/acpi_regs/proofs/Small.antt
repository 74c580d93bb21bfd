-- Small lemmas that many proofs want, in one place for all crates.
use Rattle.std.proofs.Common.{◌≡◌, Bool, true, false, not, ◌||◌, Some, refl}
pub use Rattle.acpi_regs.proofs.LockActors.{actor_self, actor_true}
pub use Rattle.acpi_regs.proofs.Pins.{event_self, event_true, rank_at}
pub use Rattle.acpi_regs.proofs.PinSteps.{sum_apart, sum_changed}

-- what is absurd
pub no : {X : Type 0} → false ≡ true → X
no h = cc

pub not_so : {X : Type 0} → true ≡ false → X
not_so h = cc

pub both : (x : Bool) → x ≡ true → x ≡ false → ⊥
both x h l = cc

-- constructors and tests, taken apart
pub some_same : {X : Type 0} (x y : X) → Some x ≡ Some y → x ≡ y
some_same x y h = cc

pub not_true : (b : Bool) → not b ≡ true → b ≡ false
not_true true h = cc
not_true false h = refl

pub or_swap : (a b : Bool) → (a || b) ≡ (b || a)
or_swap true true = refl
or_swap true false = refl
or_swap false true = refl
or_swap false false = refl
