-- The text of a list, one more element at a time.
use Rattle.std.proofs.Common.{◌≡◌, ℕ, ◌+◌, ◌<◌, ◌≤◌, Result, Ok, Err, OnOk, List, [], ◌∷◌, ◌++◌, length, get_or, take, map, refl, sym, ap, ◌∙◌, append_assoc, append-nil, take_all}
use Rattle.std.proofs.lemmas.List.{take_more}
use Rattle.serde_json.specs.Data.{Data}
use Rattle.machine_reader.specs.Texts.{json_text, rest_text}

-- each element after a comma
abbrev pub after_commas : List Data → List ℕ
after_commas [] = []
after_commas (d ∷ ds) = 44 ∷ (json_text d ++ after_commas ds)

after_commas-push : (ds : List Data) (d : Data) → after_commas (ds ++ d ∷ []) ≡ after_commas ds ++ 44 ∷ json_text d
after_commas-push [] d = ap (λ t. 44 ∷ t) (append-nil (json_text d))
after_commas-push (e ∷ ds) d = ap (λ t. 44 ∷ t) (ap (λ t. json_text e ++ t) (after_commas-push ds d) ∙ sym (append_assoc (json_text e) (after_commas ds) (44 ∷ json_text d)))

pub after_commas-text : (ds : List Data) → rest_text ds ≡ after_commas ds ++ 93 ∷ []
unfolding rest_text json_text
after_commas-text [] = refl
after_commas-text (d ∷ ds) = ap (λ t. 44 ∷ (json_text d ++ t)) (after_commas-text ds) ∙ ap (λ t. 44 ∷ t) (sym (append_assoc (json_text d) (after_commas ds) (93 ∷ [])))

map-push : {A B : Type 0} (f : A → B) (xs : List A) (x : A) → map f (xs ++ x ∷ []) ≡ map f xs ++ f x ∷ []
map-push f [] x = refl
map-push f (y ∷ xs) x = rw (map-push f xs x) refl

after_commas-take : {A : Type 0} (json : A → Data) (xs : List A) (i : ℕ) (x : A) → i < length xs → x ≡ get_or xs i x → after_commas (map json (take (i + 1) xs)) ≡ after_commas (map json (take i xs)) ++ 44 ∷ json_text (json x)
after_commas-take json xs i x within is =
    let more : take (i + 1) xs ≡ take i xs ++ x ∷ [] = take_more xs i x within ∙ ap (λ y. take i xs ++ y ∷ []) (sym is) in
    ap (λ ys. after_commas (map json ys)) more ∙ (ap after_commas (map-push json (take i xs) x) ∙ after_commas-push (map json (take i xs)) (json x))

-- one more element is put behind the others
pub rest_step : {A : Type 0} (json : A → Data) (xs : List A) (i : ℕ) (x : A) (old mid comma new : List ℕ) → i < length xs → x ≡ get_or xs i x → mid ≡ old ++ after_commas (map json (take i xs)) → comma ≡ mid ++ 44 ∷ [] → new ≡ comma ++ json_text (json x) → new ≡ old ++ after_commas (map json (take (i + 1) xs))
rest_step json xs i x old mid comma new within is before put_comma put_part =
    let t = json_text (json x) in
    put_part ∙ (ap (λ c. c ++ t) put_comma ∙ (append_assoc mid (44 ∷ []) t ∙ (ap (λ m. m ++ 44 ∷ t) before ∙ (append_assoc old (after_commas (map json (take i xs))) (44 ∷ t) ∙ ap (λ s. old ++ s) (sym (after_commas-take json xs i x within is))))))

-- and the bracket behind them all
pub rest_end : {A U E : Type 0} (json : A → Data) (xs : List A) (i : ℕ) (old mid new : List ℕ) (r : Result U E) → length xs ≤ i → mid ≡ old ++ after_commas (map json (take i xs)) → OnOk r (new ≡ mid ++ 93 ∷ []) → OnOk r (new ≡ old ++ rest_text (map json xs))
rest_end json xs i old mid new (Ok u) over before put_end =
    let commas = after_commas (map json xs) in
    let all : mid ≡ old ++ commas = before ∙ ap (λ ys. old ++ after_commas (map json ys)) (take_all i xs over) in
    put_end ∙ (ap (λ m. m ++ 93 ∷ []) all ∙ (append_assoc old commas (93 ∷ []) ∙ ap (λ t. old ++ t) (sym (after_commas-text (map json xs)))))
rest_end json xs i old mid new (Err e) over before put_end = tt

-- a piece, and what is put behind it
pub behind : {U E : Type 0} (old mid new x y : List ℕ) (r : Result U E) → mid ≡ old ++ x → OnOk r (new ≡ mid ++ y) → OnOk r (new ≡ old ++ (x ++ y))
behind old mid new x y (Ok u) first next = next ∙ (ap (λ m. m ++ y) first ∙ append_assoc old x y)
behind old mid new x y (Err e) first next = tt
