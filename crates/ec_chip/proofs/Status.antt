-- The bits of the status register, set or cleared one by one, are their sum.
use Rattle.std.proofs.Common.{ℕ, ◌+◌, ◌-◌, ◌*◌, ◌^◌, ◌≡◌, ◌==◌, Bool, true, false, ◌&&◌, not, length, is_some, bit_and, bit_or, refl, if◌then◌else◌}
use borrow.Author.Tests.{eqb-true}
use Rattle.ec_chip.specs.Calls.{TellsStatus}
use Rattle.ec_chip.specs.Chip.{ChipData, bit}

-- a test that holds of both values
abbrev pub both : (Bool → Bool) → Bool
both f = f true && f false

pub both_at : (f : Bool → Bool) → both f ≡ true → (b : Bool) → f b ≡ true
both_at f h true = elim (f true) as (λ v. (v && f false) ≡ true → v ≡ true) [ true ↦ λ k. refl | false ↦ λ k. k ] h
both_at f h false = elim (f true) as (λ v. (v && f false) ≡ true → f false ≡ true) [ true ↦ λ k. k | false ↦ λ k. cc ] h

pub all_at : (f : Bool → Bool → Bool → Bool → Bool → Bool) → both (λ a. both (λ b. both (λ c. both (λ d. both (f a b c d))))) ≡ true → (a b c d e : Bool) → f a b c d e ≡ true
all_at f h a b c d e =
    both_at (f a b c d) (both_at (λ x. both (f a b c x)) (both_at (λ x. both (λ y. both (f a b x y))) (both_at (λ x. both (λ y. both (λ z. both (f a x y z)))) (both_at (λ x. both (λ y. both (λ z. both (λ w. both (f x y z w))))) h a) b) c) d) e

abbrev pub set_bit : Bool → ℕ → ℕ → ℕ
set_bit value bits flag = if value then bit_or bits flag else bit_and bits (2 ^ 8 - 1 - flag)

abbrev pub one_by_one : Bool → Bool → Bool → Bool → Bool → ℕ
one_by_one obf ibf cmd burst sci = set_bit sci (set_bit burst (set_bit cmd (set_bit ibf (set_bit obf 0 1) 2) 8) 16) 32

abbrev pub sum_of : Bool → Bool → Bool → Bool → Bool → ℕ
sum_of obf ibf cmd burst sci = bit obf + 2 * bit ibf + 8 * bit cmd + 16 * bit burst + 32 * bit sci

-- each combination
pub each_sum : both (λ a. both (λ b. both (λ c. both (λ d. both (λ e. one_by_one a b c d e == sum_of a b c d e))))) ≡ true
each_sum = refl

pub one_by_one-sum : (a b c d e : Bool) → one_by_one a b c d e ≡ sum_of a b c d e
one_by_one-sum a b c d e =
    eqb-true (one_by_one a b c d e) (sum_of a b c d e) (all_at (λ a b c d e. one_by_one a b c d e == sum_of a b c d e) each_sum a b c d e)

-- each flag is found in the sum

abbrev pub same : Bool → Bool → Bool
same true b = b
same false b = not b

pub same-true : (a b : Bool) → same a b ≡ true → a ≡ b
same-true true true h = refl
same-true true false h = cc
same-true false true h = cc
same-true false false h = refl

abbrev pub found : ℕ → Bool → Bool → Bool → Bool → Bool → Bool
found flag a b c d e = bit_and (sum_of a b c d e) flag == flag

pub tells : (s : ChipData) → TellsStatus s
tells s =
    let obf = is_some s.exchange.output in
    let ibf = is_some s.exchange.input in
    let sci = not (length s.codes == 0) in
    record {
      obf = same-true _ _ (all_at (λ a b c d e. same (found 1 a b c d e) a) refl obf ibf s.command s.burst sci);
      ibf = same-true _ _ (all_at (λ a b c d e. same (found 2 a b c d e) b) refl obf ibf s.command s.burst sci);
      cmd = same-true _ _ (all_at (λ a b c d e. same (found 8 a b c d e) c) refl obf ibf s.command s.burst sci);
      burst = same-true _ _ (all_at (λ a b c d e. same (found 16 a b c d e) d) refl obf ibf s.command s.burst sci);
      sci_evt = same-true _ _ (all_at (λ a b c d e. same (found 32 a b c d e) e) refl obf ibf s.command s.burst sci);
    }
