-- The zeros at the end of a list.
use Rattle.std.proofs.Common.{◌≡◌, ℕ, ◌==◌, ◌&&◌, true, if◌then◌else◌, ◌<◌, length-append, List, [], ◌∷◌, ◌++◌, length, refl, sym, ap, ◌∙◌, arith}
use Rattle.std.proofs.lemmas.Bool.Decides.{nat_tests}
use Rattle.machine_reader.specs.Canonical.{without_zeros}

without_zeros_then_zero : (xs : List ℕ) → without_zeros (xs ++ 0 ∷ []) ≡ without_zeros xs
without_zeros_then_zero [] = refl
without_zeros_then_zero (x ∷ xs) = rw (without_zeros_then_zero xs) refl

-- a number that is not zero stays, and so does what stands before others
last_stays : (x : ℕ) → (x ≡ 0 → ⊥) → (if (x == 0) && true then [] else x ∷ []) ≡ x ∷ []
last_stays x other = grind (arith, nat_tests)

front_stays : (x : ℕ) (ys : List ℕ) → 0 < length ys → (if (x == 0) && (length ys == 0) then [] else x ∷ ys) ≡ x ∷ ys
front_stays x ys some = grind (arith, nat_tests)

-- a last byte that is not zero stays
without_zeros_then : (xs : List ℕ) (x : ℕ) → (x ≡ 0 → ⊥) → without_zeros (xs ++ x ∷ []) ≡ xs ++ x ∷ []
without_zeros_then [] x other = last_stays x other
without_zeros_then (y ∷ xs) x other =
    let some : 0 < length (xs ++ x ∷ []) = omega (arith, length-append xs (x ∷ [])) in
    rw (without_zeros_then xs x other) (front_stays y (xs ++ x ∷ []) some)

-- a zero at the end goes
pub without_zeros-front : (all bytes front : List ℕ) (last : ℕ) → bytes ≡ front ++ last ∷ [] → last ≡ 0 → without_zeros bytes ≡ without_zeros all → without_zeros front ≡ without_zeros all
without_zeros-front all bytes front last split is same = sym (without_zeros_then_zero front) ∙ ap (λ x. without_zeros (front ++ x ∷ [])) (sym is) ∙ ap without_zeros (sym split) ∙ same

-- and nothing else
pub without_zeros-whole : (all bytes front : List ℕ) (last : ℕ) → bytes ≡ front ++ last ∷ [] → (last ≡ 0 → ⊥) → without_zeros bytes ≡ without_zeros all → bytes ≡ without_zeros all
without_zeros-whole all bytes front last split other same = split ∙ sym (without_zeros_then front last other) ∙ ap without_zeros (sym split) ∙ same
