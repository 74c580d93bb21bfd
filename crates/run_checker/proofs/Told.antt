-- Stuck lines against the events that are parked, in the order in which events are served.
use Rattle.std.proofs.Common.{ℕ, zero, suc, ◌+◌, ◌<◌, ◌≤◌, ◌≡◌, Bool, true, false, List, [], ◌∷◌, ◌++◌, length, take, if◌then◌else◌, Option, Some, None, slice_get, refl, sym, ap, ◌∙◌, subst, append_assoc, length-append, length-take-le, add-one, arith}
use Rattle.std.proofs.lemmas.List.{append-nil, take_all, take_at}
use Rattle.acpi_regs.specs.declared.event.Event.{Event}
use Rattle.acpi_regs.specs.Core.{event_at, events_below, events_of, if_in}
use Rattle.history_text.proofs.Parked.{front}
use Rattle.run_checker.specs.Verdict.{DiffersAt}

-- the first stuck lines are the parked events below a place
pub record Agree (set : Event → Bool) (told : List Event) (count place : ℕ) : Type 0 where
  pub same : take count told ≡ events_below set place
  pub within : count ≤ length told
  pub few : count ≤ place

pub agree_none : (set : Event → Bool) (told : List Event) → Agree set told 0 0
unfolding events_below
agree_none set told = record {
  same = refl;
  within = omega arith;
  few = omega arith;
}

below_more : (set : Event → Bool) (k : ℕ) → events_below set (k + 1) ≡ events_below set k ++ if_in set (event_at k)
unfolding events_below
below_more set k = rw (add-one k) refl

-- one element more, by its place
take_next : (xs : List Event) (i : ℕ) (x : Event) → slice_get xs i ≡ Some x → take (i + 1) xs ≡ take i xs ++ x ∷ []
take_next [] i x next = cc
take_next (y ∷ xs) zero x next = let same : y ≡ x = cc in ap (λ z. z ∷ []) same
take_next (y ∷ xs) (suc i) x next = let e : suc i + 1 ≡ suc (i + 1) = omega arith in ap (λ n. take n (y ∷ xs)) e ∙ ap (λ t. y ∷ t) (take_next xs i x next)

within_next : (xs : List Event) (i : ℕ) (x : Event) → slice_get xs i ≡ Some x → i < length xs
within_next [] i x next = cc
within_next (y ∷ xs) zero x next = omega arith
within_next (y ∷ xs) (suc i) x next = let h = within_next xs i x next in omega (arith, h)

none_past : (xs : List Event) (i : ℕ) → length xs ≤ i → slice_get xs i ≡ None
none_past [] i past = refl
none_past (y ∷ xs) zero past = absurd (omega (arith, past))
none_past (y ∷ xs) (suc i) past = none_past xs i (omega (arith, past))

past_none : (xs : List Event) (i : ℕ) → slice_get xs i ≡ None → length xs ≤ i
past_none [] i none = omega arith
past_none (y ∷ xs) zero none = cc
past_none (y ∷ xs) (suc i) none = let h = past_none xs i none in omega (arith, h)

get_behind : (xs ys : List Event) (i : ℕ) (x : Event) → length xs ≡ i → slice_get (xs ++ x ∷ ys) i ≡ Some x
get_behind [] ys i x size = let none : i ≡ 0 = omega (arith, size) in rw none refl
get_behind (y ∷ xs) ys zero x size = absurd (omega (arith, size))
get_behind (y ∷ xs) ys (suc i) x size = get_behind xs ys i x (omega (arith, size))

in_set : (set : Event → Bool) (place : ℕ) (n : Event) (b : Bool) → n ≡ event_at place → set n ≡ b → if_in set (event_at place) ≡ (if b then n ∷ [] else [])
in_set set place n b is test = ap (λ x. if_in set x) (sym is) ∙ ap (λ x. if x then n ∷ [] else []) test

pub agree_skip : (set : Event → Bool) (told : List Event) (count place : ℕ) (n : Event) → n ≡ event_at place → set n ≡ false → Agree set told count place → Agree set told count (place + 1)
agree_skip set told count place n is out agree = record {
  same = agree.same ∙ sym (below_more set place ∙ (ap (λ t. events_below set place ++ t) (in_set set place n false is out) ∙ append-nil (events_below set place)));
  within = agree.within;
  few = omega (arith, agree.few);
}

pub agree_more : (set : Event → Bool) (told : List Event) (count place : ℕ) (n : Event) → n ≡ event_at place → set n ≡ true → slice_get told count ≡ Some n → Agree set told count place → Agree set told (count + 1) (place + 1)
agree_more set told count place n is inside next agree = record {
  same = take_next told count n next ∙ (ap (λ t. t ++ n ∷ []) agree.same ∙ sym (below_more set place ∙ ap (λ t. events_below set place ++ t) (in_set set place n true is inside)));
  within = omega (arith, within_next told count n next);
  few = omega (arith, agree.few);
}

-- all parked events, around one
given_around : (set : Event → Bool) (place : ℕ) (n : Event) → place < 261 → n ≡ event_at place → set n ≡ true → (rest : List Event) × (events_of set ≡ events_below set place ++ n ∷ rest)
given_around set place n below is inside =
    let r = front set (place + 1) 261 (omega (arith, below)) in
    (r.0, r.1 ∙ (ap (λ t. t ++ r.0) (below_more set place ∙ ap (λ t. events_below set place ++ t) (in_set set place n true is inside)) ∙ append_assoc (events_below set place) (n ∷ []) r.0))

size_of : (set : Event → Bool) (told : List Event) (count place : ℕ) → Agree set told count place → length (events_below set place) ≡ count
size_of set told count place agree = ap length (sym agree.same) ∙ length-take-le count told agree.within

pub other_told : (set : Event → Bool) (told : List Event) (count place : ℕ) (n next : Event) → place < 261 → n ≡ event_at place → set n ≡ true → slice_get told count ≡ Some next → (next ≡ n → ⊥) → Agree set told count place → DiffersAt told (events_of set) count
other_told set told count place n next below is inside here other agree =
    let r = given_around set place n below is inside in
    let size = size_of set told count place agree in (
      agree.same ∙ sym (ap (take count) r.1 ∙ take_at (events_below set place) (n ∷ r.0) count size),
      within_next told count next here,
      λ same.
          let there : slice_get (events_of set) count ≡ Some n = ap (λ g. slice_get g count) r.1 ∙ get_behind (events_below set place) r.0 count n size in
          let both : Some next ≡ Some n = sym here ∙ (same ∙ there) in
          other (let e : next ≡ n = cc in e),
    )

pub one_missing : (set : Event → Bool) (told : List Event) (count place : ℕ) (n : Event) → place < 261 → n ≡ event_at place → set n ≡ true → slice_get told count ≡ None → Agree set told count place → (missing : List Event) × (events_of set ≡ told ++ missing) × (missing ≡ [] → ⊥) × (count ≡ length told)
one_missing set told count place n below is inside none agree =
    let r = given_around set place n below is inside in
    let all : told ≡ events_below set place = sym (take_all count told (past_none told count none)) ∙ agree.same in
    (n ∷ r.0, r.1 ∙ ap (λ t. t ++ n ∷ r.0) (sym all), (λ empty. (let e = empty in cc)), omega (arith, agree.within, past_none told count none))

pub more_told : (set : Event → Bool) (told : List Event) (count : ℕ) → Agree set told count 261 → count < length told → DiffersAt told (events_of set) count
more_told set told count agree more =
    let size = size_of set told count 261 agree in (
      agree.same ∙ sym (take_all count (events_of set) (omega (arith, size))),
      more,
      λ same.
          let none : slice_get told count ≡ None = same ∙ none_past (events_of set) count (omega (arith, size)) in
          let past = past_none told count none in
          omega (arith, past, more),
    )

pub all_told : (set : Event → Bool) (told : List Event) (count : ℕ) → Agree set told count 261 → length told ≤ count → (told ≡ events_of set) × (count ≡ length told)
all_told set told count agree all = (sym (take_all count told all) ∙ agree.same, omega (arith, agree.within, all))
