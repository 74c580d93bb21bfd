-- A number of ten digits at most fits, also where a digit is none.
use Rattle.std.proofs.Common.{◌≡◌, ℕ, ◌+◌, ◌*◌, ◌<◌, ◌≤◌, ◌^◌, List, length, take, get_or, ap, ◌∙◌, sym, arith}
use Rattle.std.proofs.Math.Nat.{pow-le-pow_right}
use Rattle.std.proofs.lemmas.Int.Digits.{digits_value_more}
use Rattle.std.proofs.lemmas.Nat.{pow-add}
use Rattle.std.specs.Char.{digit_value}
use Rattle.std.specs.Str.Parse.{digits_value}

pub bound_step : (n d i : ℕ) → n < 64 ^ i → d ≤ 36 → n * 10 + d < 64 ^ (i + 1)
bound_step n d i less small =
    let power : 64 ^ (i + 1) ≡ 64 ^ i * 64 = pow-add 64 i 1 in
    omega (arith, power, less, small)

pub bound_fits : (n i : ℕ) → n < 64 ^ i → i < 10 → n < 18014398509481984
bound_fits n i less few =
    let power : 64 ^ i ≤ 64 ^ 9 = pow-le-pow_right {n = 64} (omega arith) {i = i} {j = 9} (omega (arith, few)) in
    omega (arith, less, power)

pub value_step : (ds : List ℕ) (i n d : ℕ) → i < length ds → n ≡ digits_value 10 (take i ds) → d ≡ digit_value (get_or ds i 0) → n * 10 + d ≡ digits_value 10 (take (i + 1) ds)
value_step ds i n d within before is =
    ap (λ x. x * 10 + d) before ∙ (ap (λ x. digits_value 10 (take i ds) * 10 + x) is ∙ sym (digits_value_more 10 ds i within))
