-- Rows of items, each made from its place.
use Rattle.std.proofs.Common.{All, ◌≡◌, ℕ, zero, suc, ◌+◌, ◌*◌, ◌<◌, ◌≤◌, ◌++◌, Bool, true, List, [], ◌∷◌, length, map, refl, subst, ◌∙◌, arith}
use Rattle.std.proofs.lemmas.Bool.{and_parts}
use Rattle.std.proofs.lemmas.List.{length-map}
use Rattle.std.proofs.lemmas.List.FromFn.{length-map-range_with_len, map-range_with_len_more}
use Rattle.std.proofs.lemmas.List.Sums.{sum_by-cons}
use Rattle.std.specs.List.{list_all, range_with_len, sum_by}
use Rattle.machine_maker.specs.Maker.{each_of}

pub row_none : {A : Type 0} (f : ℕ → A) → each_of 0 f ≡ []
unfolding each_of
row_none f = refl

pub row_more : {A : Type 0} (n : ℕ) (f : ℕ → A) → each_of (n + 1) f ≡ each_of n f ++ f n ∷ []
unfolding each_of
row_more n f = map-range_with_len_more f 0 n n (omega arith)

pub row_len : {A : Type 0} (n : ℕ) (f : ℕ → A) → length (each_of n f) ≡ n
unfolding each_of
row_len n f = length-map-range_with_len f 0 n

-- something is known of each item
abbrev pub Each : {A : Type 0} → (A → Type 0) → List A → Type 0
Each P [] = Unit {0}
Each P (x ∷ xs) = P x × Each P xs

each_from : {A : Type 0} (P : A → Type 0) (f : ℕ → A) (a n end : ℕ) → a + n ≡ end → ((j : ℕ) → j < end → P (f j)) → Each P (map f (range_with_len a n))
each_from P f a zero end e h = tt
each_from P f a (suc n) end e h = (h a (omega arith), each_from P f (a + 1) n end (omega arith) h)

pub each_row : {A : Type 0} (P : A → Type 0) (n : ℕ) (f : ℕ → A) → ((j : ℕ) → j < n → P (f j)) → Each P (each_of n f)
unfolding each_of
each_row P n f h = each_from P f 0 n n (omega arith) h

each_mapped : {A B : Type 0} (P : B → Type 0) (g : A → B) (xs : List A) → Each (λ x. P (g x)) xs → Each P (map g xs)
each_mapped P g [] h = tt
each_mapped P g (x ∷ xs) h = (h.0, each_mapped P g xs h.1)

pub all : {A : Type 0} (P : A → Type 0) (xs : List A) → Each P xs → All P xs
all P [] h k d less = absurd (omega arith)
all P (x ∷ xs) h zero d less = h.0
all P (x ∷ xs) h (suc k) d less = all P xs h.1 k d (omega arith)

-- a test that each number of a range passes
pub tested : (test : ℕ → Bool) (a n k j : ℕ) → list_all test (range_with_len a n) ≡ true → k < n → a + k ≡ j → test j ≡ true
tested test a zero k j e less same = absurd (omega arith)
tested test a (suc n) zero j e less same = let here : a ≡ j = omega arith in subst (λ i. test i ≡ true) here (and_parts (test a) (list_all test (range_with_len (a + 1) n)) e).0
tested test a (suc n) (suc k) j e less same = tested test (a + 1) n k j (and_parts (test a) (list_all test (range_with_len (a + 1) n)) e).1 (omega arith) (omega arith)

-- ---- sums of numbers, none of which is above m

pub sum_few : {A : Type 0} (m : ℕ) (g : A → ℕ) (xs : List A) → Each (λ x. g x ≤ m) xs → sum_by g xs ≤ length xs * m
sum_few m g [] h = omega arith
sum_few m g (x ∷ xs) h =
    let first : g x ≤ m = h.0 in
    let rest : sum_by g xs ≤ length xs * m = sum_few m g xs h.1 in
    let whole : sum_by g (x ∷ xs) ≡ g x + sum_by g xs = sum_by-cons g x xs in
    let more : suc (length xs) * m ≡ length xs * m + m = times (length xs) m in
    omega arith
  where
    times : (n m : ℕ) → suc n * m ≡ n * m + m
    times n m = omega arith

pub row_sum : {A : Type 0} (m n : ℕ) (g : A → ℕ) (f : ℕ → A) → ((k : ℕ) → k < n → g (f k) ≤ m) → sum_by g (each_of n f) ≤ n * m
row_sum m n g f h = subst (λ len. sum_by g (each_of n f) ≤ len * m) (row_len n f) (sum_few m g (each_of n f) (each_row (λ x. g x ≤ m) n f h))

pub mapped_sum : {A B : Type 0} (m n : ℕ) (g : B → ℕ) (to : A → B) (f : ℕ → A) → ((k : ℕ) → k < n → g (to (f k)) ≤ m) → sum_by g (map to (each_of n f)) ≤ n * m
mapped_sum m n g to f h =
    let len : length (map to (each_of n f)) ≡ n = length-map (each_of n f) to ∙ row_len n f in
    subst (λ k. sum_by g (map to (each_of n f)) ≤ k * m) len (sum_few m g (map to (each_of n f)) (each_mapped (λ y. g y ≤ m) to (each_of n f) (each_row (λ x. g (to x) ≤ m) n f h)))

pub ruleset rows = (row_more, row_none)
