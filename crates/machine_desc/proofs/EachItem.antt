-- Lists, and what is known of each item of a part that breaks no rule.
use Rattle.std.proofs.Common.{inl, inr, ◌⊎◌, ◌≡◌, ℕ, zero, suc, ◌+◌, ◌<◌, ◌≤◌, refl, sym, ap, ◌∙◌, subst, Bool, true, false, ◌||◌, nat_lt, List, [], ◌∷◌, length, map, take, All, Option, Some, None, slice_get, get_or, arith}
use Rattle.std.proofs.lemmas.Bool.{ltb-false}
use Rattle.std.proofs.lemmas.Option.{get_or_from_slice_get, slice_get-get_or, slice_get_within}
use Rattle.std.specs.List.{list_any}
use Rattle.std.specs.Option.{option_map}
use Rattle.machine_desc.specs.declared.fault.Part.{Part}
use Rattle.machine_desc.specs.declared.fault.Rule.{Rule}
use Rattle.machine_desc.specs.declared.fault.Rule.TheVariants as rule
use Rattle.machine_desc.specs.declared.fault.Spot.{Spot}
use Rattle.machine_desc.specs.Faults.{breaks, breaks_at, first_of, in_item, in_items, items_from}
use Rattle.machine_desc.specs.Kept.{NoTwo}

pub any_mapped : {A B : Type 0} (test : B → Bool) (f : A → B) (xs : List A) → list_any test (map f xs) ≡ list_any (λ x. test (f x)) xs
any_mapped test f [] = refl
any_mapped test f (x ∷ xs) = ap (λ b. test (f x) || b) (any_mapped test f xs)

-- none of these is there
abbrev pub AllNone : {A : Type 0} → List (Option A) → Type 0
AllNone [] = Unit {0}
AllNone (x ∷ xs) = (x ≡ None) × AllNone xs

pub none : {A : Type 0} (xs : List (Option A)) → first_of xs ≡ None → AllNone xs
none [] e = tt
none (x ∷ []) e = (e, tt)
none (None ∷ y ∷ rest) e = (refl, none (y ∷ rest) e)
none (Some x ∷ y ∷ rest) e = cc

pub no_spot : (part : Part) (k : ℕ) (spot : Option Spot) → in_item part k spot ≡ None → spot ≡ None
no_spot part k None e = refl
no_spot part k (Some s) e = cc

pub unmapped : {A B : Type 0} (f : A → B) (o : Option A) → option_map f o ≡ None → o ≡ None
unmapped f None e = refl
unmapped f (Some x) e = cc

pub unbroken : (broken : Bool) (rule : Rule) (op : ℕ) → breaks_at broken rule op ≡ None → broken ≡ false
unbroken false rule op e = refl
unbroken true rule op e = cc

pub few : (limit n : ℕ) (rule : Rule) (op : ℕ) → breaks_at (nat_lt limit n) rule op ≡ None → n ≤ limit
few limit n rule op e = ltb-false limit n (unbroken (nat_lt limit n) rule op e)

-- each item has no fault behind the items before it
pub item_kept : {A : Type 0} (part : Part) (fault : List A → A → Option Spot) (all : List A) (k : ℕ) (xs : List A) → items_from part fault all k xs ≡ None → (i : ℕ) (x : A) → slice_get xs i ≡ Some x → fault (take (k + i) all) x ≡ None
item_kept part fault all k [] e zero x at = cc
item_kept part fault all k [] e (suc i) x at = cc
item_kept part fault all k (y ∷ ys) e zero x at =
    let same : y ≡ x = cc in
    let h = none (in_item part k (fault (take k all) y) ∷ items_from part fault all (k + 1) ys ∷ []) e in
    let n : k ≡ k + 0 = omega arith in
    subst (λ n. fault (take n all) x ≡ None) n (subst (λ z. fault (take k all) z ≡ None) same (no_spot part k (fault (take k all) y) h.0))
item_kept part fault all k (y ∷ ys) e (suc i) x at =
    let h = none (in_item part k (fault (take k all) y) ∷ items_from part fault all (k + 1) ys ∷ []) e in
    let n : k + 1 + i ≡ k + suc i = omega arith in
    subst (λ n. fault (take n all) x ≡ None) n (item_kept part fault all (k + 1) ys h.1.0 i x at)

-- a part that breaks no rule has few items, and each has no fault
pub record PartKept {A : Type 0} (limit : ℕ) (fault : List A → A → Option Spot) (items : List A) : Type 0 where
  pub few_items : length items ≤ limit
  pub each : (i : ℕ) (x : A) → slice_get items i ≡ Some x → fault (take i items) x ≡ None

pub part_kept : {A : Type 0} (part : Part) (limit : ℕ) (fault : List A → A → Option Spot) (items : List A) → in_items part (breaks (nat_lt limit (length items)) rule.TooMany) fault items ≡ None → PartKept limit fault items
part_kept part limit fault items e =
    let h = none (in_item part 0 (breaks (nat_lt limit (length items)) rule.TooMany) ∷ items_from part fault items 0 items ∷ []) e in
    record {
      few_items = few limit (length items) rule.TooMany 0 (no_spot part 0 (breaks (nat_lt limit (length items)) rule.TooMany) h.0);
      each = λ i x at. subst (λ n. fault (take n items) x ≡ None) (zero_more i) (item_kept part fault items 0 items h.1.0 i x at);
    }
  where
    zero_more : (i : ℕ) → 0 + i ≡ i
    zero_more i = omega arith

-- `All` by places
abbrev pub Each : {A : Type 0} → (A → Type 0) → List A → Type 0
Each {A} P xs = (k : ℕ) (x : A) → slice_get xs k ≡ Some x → P x

pub all_each : {A : Type 0} (P : A → Type 0) (xs : List A) → Each P xs → All P xs
all_each P xs h k d less = h k (get_or xs k d) (slice_get-get_or xs k d less)

pub each_all : {A : Type 0} (P : A → Type 0) (xs : List A) → All P xs → Each P xs
each_all P xs h k x e = subst P (get_or_from_slice_get xs k x x e) (h k x (slice_get_within xs k x e))

pub each_mapped : {A B : Type 0} (P : B → Type 0) (f : A → B) (xs : List A) → Each (λ x. P (f x)) xs → Each P (map f xs)
each_mapped P f [] h zero y e = cc
each_mapped P f [] h (suc k) y e = cc
each_mapped P f (x ∷ xs) h zero y e = let same : f x ≡ y = cc in subst P same (h zero x refl)
each_mapped P f (x ∷ xs) h (suc k) y e = each_mapped P f xs (λ i z at. h (suc i) z at) k y e

-- an item before a place is found there
pub any_before : {A : Type 0} (test : A → Bool) (xs : List A) (i j : ℕ) (x : A) → slice_get xs i ≡ Some x → test x ≡ true → i < j → list_any test (take j xs) ≡ true
any_before test [] zero j x at passes less = cc
any_before test [] (suc i) j x at passes less = cc
any_before test (y ∷ ys) i zero x at passes less = absurd (omega arith)
any_before test (y ∷ ys) zero (suc j) x at passes less = let same : x ≡ y = cc in ap (λ b. b || list_any test (take j ys)) (ap test (sym same) ∙ passes)
any_before test (y ∷ ys) (suc i) (suc j) x at passes less = later (test y) (any_before test ys i j x at passes (omega arith))
  where
    later : (b : Bool) {c : Bool} → c ≡ true → (b || c) ≡ true
    later true e = refl
    later false e = e

true_false : {A : Type 0} → true ≡ false → A
true_false e = cc

-- no two items are alike, where none is like one before it
pub no_two : {A : Type 0} (alike : A → A → Bool) (xs : List A) → ((x y : A) → alike x y ≡ true → alike y x ≡ true) → ((j : ℕ) (y : A) → slice_get xs j ≡ Some y → (i : ℕ) (x : A) → slice_get xs i ≡ Some x → i < j → alike x y ≡ false) → NoTwo alike xs
no_two alike xs turned apart i j x y at_i at_j same = two (order i j)
  where
    order : (i j : ℕ) → (i < j) ⊎ ((i ≡ j) ⊎ (j < i))
    order zero zero = inr (inl refl)
    order zero (suc j) = inl (omega arith)
    order (suc i) zero = inr (inr (omega arith))
    order (suc i) (suc j) = elim (order i j) [ inl l ↦ inl (omega arith) | inr r ↦ elim r [ inl e ↦ inr (inl (ap suc e)) | inr g ↦ inr (inr (omega arith)) ] ]

    two : (i < j) ⊎ ((i ≡ j) ⊎ (j < i)) → i ≡ j
    two (inl l) = let no : alike x y ≡ false = apart j y at_j i x at_i l in true_false (sym same ∙ no)
    two (inr (inl e)) = e
    two (inr (inr g)) = let no : alike y x ≡ false = apart i x at_i j y at_j g in true_false (sym (turned x y same) ∙ no)
