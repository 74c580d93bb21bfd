-- The walk over the elements of an array, one more at a time.
use Rattle.std.proofs.Common.{◌≡◌, ℕ, zero, suc, ◌+◌, ◌<◌, Bool, false, ◌&&◌, ◌==◌, is_some, List, [], ◌∷◌, ◌++◌, length, get_or, take, map, Ok, Err, None, decimal, refl, sym, ap, ◌∙◌, String, Global, arith}
use Rattle.std.proofs.lemmas.List.{length-map, take_more}
use Rattle.std.specs.List.{list_all}
use Rattle.std.specs.Option.{option_map_or}
use Rattle.serde_json.specs.Data.{Data}
use Rattle.serde_json.specs.Events.{members_len}
use Rattle.serde_json.specs.Find.{as_object, get}
use Rattle.serde_json.specs.View.{view, items_view, members_view}
use Rattle.serde_json.specs.declared.value.Value.{Value}
use Rattle.serde_json.proofs.Views.{members_len-members_view}
use Rattle.machine_reader.specs.declared.path.ShapeFault.{ShapeFault}
use Rattle.machine_reader.specs.declared.path.ShapeFault.TheVariants as fault
use Rattle.machine_reader.specs.Shape.{op_named}
use Rattle.machine_reader.specs.Reading.{Reading, Fails, Outwards, ◌>>=◌, each_from, has_names, joined, under}

pub len_of_members : (ms : List (String Global × Value)) → members_len (members_view ms) ≡ length ms
len_of_members ms = members_len-members_view ms

list_all_of_map : {A B : Type 0} (test : B → Bool) (f : A → B) (xs : List A) → list_all test (map f xs) ≡ list_all (λ x. test (f x)) xs
list_all_of_map test f [] = refl
list_all_of_map test f (x ∷ xs) = rw (list_all_of_map test f xs) refl

-- names that are read from elsewhere
pub has_names_of_refs : {A : Type 0} (f : A → List ℕ) (names : List A) (d : Data) → has_names (map f names) d ≡ (option_map_or (λ members. members_len members == length names) (as_object d) false && list_all (λ name. is_some (get (f name) d)) names)
has_names_of_refs f names d = simp (length-map, list_all_of_map (λ name. is_some (get name d)) f names)

-- what is read of an element and then of the rest
abbrev pub then_rest : {A : Type 0} → Reading A → Reading (List A) → Reading (List A)
then_rest first rest = first >>= λ x. rest >>= λ xs. Ok (x ∷ xs)

then_rest-push : {A : Type 0} (first : Reading A) (rest more : Reading (List A)) (xs : List A) (x : A) → ((ys : List A) → rest ≡ Ok ys → more ≡ Ok (ys ++ x ∷ [])) → then_rest first rest ≡ Ok xs → then_rest first more ≡ Ok (xs ++ x ∷ [])
then_rest-push (Err p) rest more xs x longer found = cc
then_rest-push (Ok y) (Err p) more xs x longer found = cc
then_rest-push (Ok y) (Ok ys) more xs x longer found =
    let same : y ∷ ys ≡ xs = cc in
    rw (longer ys refl) (ap (λ zs. Ok (zs ++ x ∷ [])) same)

each-push : {A : Type 0} (k : ℕ) (part : Data → Reading A) (vs : List Value) (v : Value) (xs : List A) (x : A) → each_from k part (items_view vs) ≡ Ok xs → part (view v) ≡ Ok x → each_from k part (items_view (vs ++ v ∷ [])) ≡ Ok (xs ++ x ∷ [])
each-push k part [] v xs x found here =
    let same : [] ≡ xs = cc in
    rw here (ap (λ zs. Ok (zs ++ x ∷ [])) same)
each-push k part (w ∷ ws) v xs x found here = then_rest-push (under (decimal k) (part (view w))) _ _ xs x (λ ys e. each-push (k + 1) part ws v ys x e here) found

-- one more element that is read
pub each-more : {A : Type 0} (part : Data → Reading A) (vs : List Value) (i : ℕ) (v : Value) (xs : List A) (x : A) → i < length vs → v ≡ get_or vs i v → each_from 0 part (items_view (take i vs)) ≡ Ok xs → part (view v) ≡ Ok x → each_from 0 part (items_view (take (i + 1) vs)) ≡ Ok (xs ++ x ∷ [])
each-more part vs i v xs x within is found here =
    let more : take (i + 1) vs ≡ take i vs ++ v ∷ [] = take_more vs i v within ∙ ap (λ w. take i vs ++ w ∷ []) (sym is) in
    rw more (each-push 0 part (take i vs) v xs x found here)

-- an element fails behind others that are read
stops-later : {A : Type 0} (first : Reading A) (front rest : Reading (List A)) (xs : List A) (p : List ℕ) → ((ys : List A) → front ≡ Ok ys → rest ≡ Err p) → then_rest first front ≡ Ok xs → then_rest first rest ≡ Err p
stops-later (Err q) front rest xs p stops found = cc
stops-later (Ok y) (Err q) rest xs p stops found = cc
stops-later (Ok y) (Ok ys) rest xs p stops found = rw (stops ys refl) refl

each-fails : {A : Type 0} (k : ℕ) (part : Data → Reading A) (vs : List Value) (i : ℕ) (v : Value) (xs : List A) (p : List ℕ) → i < length vs → v ≡ get_or vs i v → each_from k part (items_view (take i vs)) ≡ Ok xs → part (view v) ≡ Err p → each_from k part (items_view vs) ≡ Err (joined (decimal (k + i)) p)
each-fails k part [] i v xs p within is found fails = absurd (omega arith)
each-fails k part (w ∷ ws) zero v xs p within is found fails =
    let same : part (view w) ≡ Err p = ap (λ x. part (view x)) (sym is) ∙ fails in
    let here : k ≡ k + 0 = omega arith in
    rw same (ap (λ n. Err (joined (decimal n) p)) here)
each-fails k part (w ∷ ws) (suc i) v xs p within is found fails =
    let place : k + 1 + i ≡ k + suc i = omega arith in
    stops-later (under (decimal k) (part (view w))) (each_from (k + 1) part (items_view (take i ws))) _ xs _ (λ ys e. each-fails (k + 1) part ws i v ys p (omega arith) is e fails ∙ ap (λ n. Err (joined (decimal n) p)) place) found

-- where an element's fault is that of the whole, one step further in
Fails-outwards : {A C : Type 0} (step : List ℕ) (found : Reading A) (all : Reading C) (before after : ShapeFault) → ((p : List ℕ) → found ≡ Err p → all ≡ Err (joined step p)) → Fails found before → Outwards step before after → Fails all after
Fails-outwards step found all (fault.BadShape p) (fault.BadShape q) stops fails out = stops p fails ∙ ap Err (sym out)
Fails-outwards step found all (fault.BadShape p) fault.Memory stops fails out = tt
Fails-outwards step found all fault.Memory (fault.BadShape q) stops fails out = absurd out
Fails-outwards step found all fault.Memory fault.Memory stops fails out = tt

-- the element of number i is the first that fails
pub each-stops : {A : Type 0} (part : Data → Reading A) (vs : List Value) (i : ℕ) (v : Value) (xs : List A) (before after : ShapeFault) → i < length vs → v ≡ get_or vs i v → each_from 0 part (items_view (take i vs)) ≡ Ok xs → Fails (part (view v)) before → Outwards (decimal i) before after → Fails (each_from 0 part (items_view vs)) after
each-stops part vs i v xs before after within is found =
    let start : 0 + i ≡ i = omega arith in
    Fails-outwards (decimal i) (part (view v)) (each_from 0 part (items_view vs)) before after (λ p fails. each-fails 0 part vs i v xs p within is found fails ∙ ap (λ n. Err (joined (decimal n) p)) start)

-- more than two operands
pub op_named_more : (text : List ℕ) (vs : List Value) → (length vs ≡ 0 → ⊥) → (length vs ≡ 1 → ⊥) → (length vs ≡ 2 → ⊥) → None ≡ op_named text (items_view vs)
op_named_more text [] none one two = absurd (none refl)
op_named_more text (v ∷ []) none one two = absurd (one refl)
op_named_more text (v ∷ w ∷ []) none one two = absurd (two refl)
op_named_more text (v ∷ w ∷ x ∷ vs) none one two = refl
