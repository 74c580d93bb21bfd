-- Lists that are gone through from the front, and read from their newest entry back.
use Rattle.std.proofs.Common.{ℕ, zero, suc, ◌+◌, ◌<◌, ◌≤◌, ◌≡◌, All, List, [], ◌∷◌, ◌++◌, length, take, reverse, get_or, Option, Some, None, slice_get, refl, sym, ap, ◌∙◌, subst, arith}
use Rattle.std.proofs.lemmas.List.{reverse-append, take_all, take_more}
use Rattle.std.proofs.lemmas.List.Elements.{All-push}

-- one more of the first
pub one_more : {A : Type 0} (xs : List A) (i : ℕ) (x : A) → i < length xs → x ≡ get_or xs i x → take (i + 1) xs ≡ take i xs ++ x ∷ []
one_more xs i x within is = take_more xs i x within ∙ ap (λ y. take i xs ++ y ∷ []) (sym is)

-- the past of the next
pub past_more : {A : Type 0} (xs : List A) (i : ℕ) (x : A) → i < length xs → x ≡ get_or xs i x → reverse (take (i + 1) xs) ≡ x ∷ reverse (take i xs)
past_more xs i x within is = ap reverse (one_more xs i x within is) ∙ reverse-append (take i xs) (x ∷ [])

pub all_more : {A : Type 0} (P : A → Type 0) (xs : List A) (i : ℕ) (x : A) → i < length xs → x ≡ get_or xs i x → All P (take i xs) → P x → All P (take (i + 1) xs)
all_more P xs i x within is all more = subst (All P) (sym (one_more xs i x within is)) (All-push P (take i xs) x all more)

pub at_place : {A : Type 0} (xs : List A) (i : ℕ) (x : A) → i < length xs → x ≡ get_or xs i x → slice_get xs i ≡ Some x
at_place [] i x within is = absurd (omega (arith, within))
at_place (y ∷ xs) zero x within is = ap Some (sym is)
at_place (y ∷ xs) (suc i) x within is = at_place xs i x (omega (arith, within)) is

pub all_taken : {A : Type 0} (xs : List A) (i : ℕ) → length xs ≤ i → take i xs ≡ xs
all_taken xs i all = take_all i xs all

-- the same of an element that is read at another default
pub past_at : {A : Type 0} (xs : List A) (i : ℕ) (d : A) → i < length xs → reverse (take (i + 1) xs) ≡ get_or xs i d ∷ reverse (take i xs)
past_at xs i d within = ap reverse (take_more xs i d within) ∙ reverse-append (take i xs) (get_or xs i d ∷ [])

pub all_at : {A : Type 0} (P : A → Type 0) (xs : List A) (i : ℕ) (d : A) → i < length xs → All P (take i xs) → P (get_or xs i d) → All P (take (i + 1) xs)
all_at P xs i d within all more = subst (All P) (sym (take_more xs i d within)) (All-push P (take i xs) (get_or xs i d) all more)

pub read_at : {A : Type 0} (xs : List A) (i : ℕ) (d : A) → i < length xs → get_or xs i d ≡ get_or xs i (get_or xs i d)
read_at [] i d within = absurd (omega (arith, within))
read_at (x ∷ xs) zero d within = refl
read_at (x ∷ xs) (suc i) d within = read_at xs i d (omega (arith, within))
