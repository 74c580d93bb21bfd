-- The first line of some bytes.
use Rattle.std.proofs.Common.{ℕ, zero, suc, ◌+◌, ◌<◌, ◌≤◌, ◌≡◌, ◌==◌, List, [], ◌∷◌, ◌++◌, length, take, drop, get_or, get_or-take, length-append, length-take-le, refl, sym, ap, ◌∙◌, subst, arith}
use Rattle.std.proofs.lemmas.Bool.{eq-eqb, eqb-true}
use Rattle.std.proofs.lemmas.List.{drop-drop, drop_more, get_or_at, take-append-drop}
use Rattle.memchr.specs.Find.{NoneBefore, Nowhere, Passes, is_byte}
use Rattle.history_text.specs.Lines.{Begins, IsLine}

-- a list, at one place
split_here : (bytes : List ℕ) (k : ℕ) → k < length bytes → get_or bytes k 0 ≡ 10 → bytes ≡ take k bytes ++ 10 ∷ drop 1 (drop k bytes)
split_here bytes k within is =
    let front : take k bytes ++ drop k bytes ≡ bytes = take-append-drop k bytes in
    let back : drop k bytes ≡ get_or bytes k 0 ∷ drop (k + 1) bytes = drop_more bytes k 0 within in
    let rest : drop 1 (drop k bytes) ≡ drop (k + 1) bytes = drop-drop 1 k bytes in
    sym front ∙ ap (λ t. take k bytes ++ t) (back ∙ (ap (λ x. x ∷ drop (k + 1) bytes) is ∙ ap (λ t. 10 ∷ t) (sym rest)))

front_line : (bytes : List ℕ) (k : ℕ) → k ≤ length bytes → Nowhere (Passes (is_byte 10) bytes) 0 k → IsLine (take k bytes)
front_line bytes k within none i less is =
    let size : length (take k bytes) ≡ k = length-take-le k bytes within in
    let before : i < k = omega (arith, less, size) in
    none i (omega arith) before (eq-eqb (get_or bytes i 0) 10 (sym (get_or-take k bytes i 0 before) ∙ is))

pub first_line : (bytes front back rest : List ℕ) (k : ℕ) → NoneBefore (Passes (is_byte 10) bytes) 0 (length bytes) k × Passes (is_byte 10) bytes k → front ≡ take k bytes → back ≡ drop k bytes → rest ≡ drop 1 back → Begins bytes front rest
first_line bytes front back rest k found front_is back_is rest_is =
    let within : k < length bytes = found.0.high in
    let is : get_or bytes k 0 ≡ 10 = eqb-true (get_or bytes k 0) 10 found.1 in
    let line = front_line bytes k (omega (arith, within)) found.0.before in
    let rest_same : drop 1 (drop k bytes) ≡ rest = ap (drop 1) (sym back_is) ∙ sym rest_is in
    (subst IsLine (sym front_is) line, split_here bytes k within is ∙ (ap (λ t. t ++ 10 ∷ drop 1 (drop k bytes)) (sym front_is) ∙ ap (λ t. front ++ 10 ∷ t) rest_same))

pub no_line : (bytes : List ℕ) → Nowhere (Passes (is_byte 10) bytes) 0 (length bytes) → (line rest : List ℕ) → Begins bytes line rest → ⊥
no_line bytes none line rest begins =
    let here : get_or bytes (length line) 0 ≡ 10 = ap (λ b. get_or b (length line) 0) begins.1 ∙ get_or_at line 10 rest 0 (length line) refl in
    let size : length bytes ≡ length line + length (10 ∷ rest) = ap length begins.1 ∙ length-append line (10 ∷ rest) in
    none (length line) (omega arith) (omega (arith, size)) (eq-eqb (get_or bytes (length line) 0) 10 here)

tail_line : (x : ℕ) (xs : List ℕ) → IsLine (x ∷ xs) → IsLine xs
tail_line x xs line k within is = line (suc k) (omega (arith, within)) is

-- the first line is one
pub one_line : (a r b s : List ℕ) → IsLine a → IsLine b → a ++ 10 ∷ r ≡ b ++ 10 ∷ s → (a ≡ b) × (r ≡ s)
one_line [] r [] s a_line b_line same = (refl, (let e = same in cc))
one_line [] r (y ∷ b) s a_line b_line same = let first : y ≡ 10 = cc in absurd (b_line 0 (omega arith) first)
one_line (x ∷ a) r [] s a_line b_line same = let first : x ≡ 10 = cc in absurd (a_line 0 (omega arith) first)
one_line (x ∷ a) r (y ∷ b) s a_line b_line same =
    let first : x ≡ y = cc in
    let behind : a ++ 10 ∷ r ≡ b ++ 10 ∷ s = cc in
    let rest = one_line a r b s (tail_line x a a_line) (tail_line y b b_line) behind in
    ((let front = rest.0 in cc), rest.1)

pub begins_once : (bytes a r b s : List ℕ) → Begins bytes a r → Begins bytes b s → (a ≡ b) × (r ≡ s)
begins_once bytes a r b s one other = one_line a r b s one.0 other.0 (sym one.1 ∙ other.1)
