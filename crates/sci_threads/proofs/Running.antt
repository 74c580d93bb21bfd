-- Steps in a row of one actor over its seat.
use Rattle.std.proofs.Common.{◌≡◌, ◌+◌, ◌⊎◌, inl, inr, Bool, true, false, ℕ, refl, sym, ap, subst, ◌∙◌, arith}
use Rattle.lock_table.specs.declared.view.Occupant.{Occupant}
use Rattle.lock_table.specs.Views.{ForOne}
use Rattle.lock_table.specs.Calls.{Pass, SameSeat}
use Rattle.machine_desc.specs.Machine.{MachineData}
use Rattle.world.specs.declared.outcome.StepOutcome.{StepOutcome}
use Rattle.sci_threads.specs.Shared.{IsAtEnd, Ran, Rises, is_ended, steps_in}

pub at_last : (m : MachineData) (turns : ℕ) (b : Bool) (x y z : Occupant) → Rises m b y z → b ≡ true → Ran m turns x z
at_last m turns b x y z rises ended = inl (subst (λ c. Rises m c y z) ended rises)

pub once_more : (m : MachineData) (n : ℕ) (b : Bool) (x y z : Occupant) → Rises m b y z → b ≡ false → steps_in y ≡ steps_in x + n → steps_in z ≡ steps_in x + (n + 1)
once_more m n b x y z rises going told = let one = subst (λ c. Rises m c y z) going rises in let before = told in omega (arith, one, before)

pub all_told : (m : MachineData) (turns n : ℕ) (x y : Occupant) → n ≡ turns → steps_in y ≡ steps_in x + n → Ran m turns x y
all_told m turns n x y all told = inr (told ∙ ap (λ k. steps_in x + k) all)

pub same_on : (s t u : Pass) → SameSeat s t → SameSeat t u → SameSeat s u
same_on s t u first second = (second.0 ∙ first.0, second.1 ∙ first.1)
