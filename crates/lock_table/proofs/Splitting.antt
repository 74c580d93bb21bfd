-- A seat of its own for an actor of the root keeps the rule.
use Rattle.std.proofs.Common.{◌≡◌, ◌≢◌, ◌⊎◌, inl, inr, cond, ℕ, zero, suc, true, false, List, [], ◌∷◌, ◌++◌, length, set, refl, sym, ap, subst, ◌∙◌, IsSome, Option, Some, None, length-set}
use mathlib.Core.Option as m
use mathlib.Core.Option.{some-injective, some-ne-none}
use lib.ListN.{get_elem?}
use Rattle.std.proofs.lemmas.Bool.{cases_eq}
use Rattle.atomic_table.specs.Table.{Splits, State}
use Rattle.atomic_table.proofs.Lists.{at_last, at_longer, at_set, set_else}
use Rattle.acpi_regs.specs.declared.actor.Actor.{Actor}
use Rattle.acpi_regs.specs.declared.actor.Actor.TheVariants as actor
use Rattle.acpi_regs.specs.declared.entry.Entry.{Entry}
use Rattle.acpi_regs.specs.declared.event.Event.{Event}
use Rattle.acpi_regs.specs.Actor.{same_actor}
use Rattle.acpi_regs.proofs.LockActors.{actor_self, actor_true, by_cases}
use Rattle.lock_table.specs.declared.view.Occupant.{Occupant}
use Rattle.lock_table.specs.declared.view.Occupant.TheVariants as who
use Rattle.lock_table.specs.declared.view.Part.{Part}
use Rattle.lock_table.specs.declared.view.Stage.TheVariants as stage
use Rattle.lock_table.specs.declared.view.View.{View}
use Rattle.lock_table.specs.Plays.{Mine}
use Rattle.lock_table.specs.Rule.{Fits, IsOut, IsSeated, IsSomebody, Kept, RootIs, Sits}
use Rattle.lock_table.specs.Views.{EachPart, HoldsInTurn, NotHolding, find, fresh, is_known, less, lone, parts_in, remove, root_parts, seated, without}
use Rattle.lock_table.proofs.OneStep.{set_at}
use Rattle.lock_table.proofs.PartLists.{each_found, each_map, each_other, find_other}

-- the last of a longer list, or one before it
at_snoc_here : {A : Type 0} (l : List A) (a b : A) (j : ℕ) → get_elem? (l ++ a ∷ []) j ≡ m.some b → (get_elem? l j ≡ m.some b) ⊎ ((j ≡ length l) × (a ≡ b))
at_snoc_here [] a b zero e = inr (refl, some-injective a b e)
at_snoc_here [] a b (suc j) e = absurd (some-ne-none b (sym e))
at_snoc_here (x ∷ xs) a b zero e = inl e
at_snoc_here (x ∷ xs) a b (suc j) e = by_case (at_snoc_here xs a b j e)
  where
    by_case : (get_elem? xs j ≡ m.some b) ⊎ ((j ≡ length xs) × (a ≡ b)) → (get_elem? xs j ≡ m.some b) ⊎ ((suc j ≡ length (x ∷ xs)) × (a ≡ b))
    by_case (inl h) = inl h
    by_case (inr h) = inr (ap suc h.0, h.1)

-- a seat that has the parts of a root is the root
root_of : (w : Occupant) (a : Actor) (p : Part) → find a (root_parts w) ≡ Some p → (ps : List Part) × (w ≡ who.Root ps) × (find a ps ≡ Some p)
root_of (who.Root ps) a p is = (ps, refl, is)
root_of (who.One q) a p is = cc
root_of who.Nobody a p is = cc

-- an actor that did nothing yet holds no pins
pub fresh_free : (a : Actor) → NotHolding (fresh a)
fresh_free actor.Int = refl
fresh_free actor.Poll = refl
fresh_free actor.Ec = refl
fresh_free (actor.Worker k) = refl
fresh_free (actor.Device k) = refl
fresh_free (actor.Firmware k) = refl

-- where an actor sits after it went to seat n
abbrev pub moved_to : Actor → ℕ → (Actor → ℕ) → Actor → ℕ
moved_to a n seat_of b = cond (same_actor a b) n (seat_of b)

module _ {B X : Type 0} (lists : X → List (List Event)) (base : B → X) (entries : B → List Entry) (key : B) where
  abbrev Rule : State (Option B) View → Type 0
  Rule = Kept lists base entries key

  module _ (s : State (Option B) View) (k : Rule s) (id : ℕ) (v : View) (at : get_elem? s.views id ≡ m.some v)
      (a : Actor) (p : Part) (ps : List Part) (is : v.who ≡ who.Root ps) (found : find a ps ≡ Some p) (holds_none : NotHolding p) (now : (seated a v).who ≡ who.One p) where
    abbrev left : View
    left = without a v

    abbrev right : View
    right = seated a v

    abbrev n : ℕ
    n = length s.views

    abbrev seat_of : Actor → ℕ
    seat_of = moved_to a n k.seat_of

    abbrev views : List View
    views = set s.views id left ++ right ∷ []

    old : Fits k.turn k.holder k.core k.seat_of s.homes id v
    old = k.fits id v at

    parts_sit : EachPart (Sits k.core k.seat_of id) ps
    parts_sit = subst (λ w. EachPart (Sits k.core k.seat_of id) (parts_in w)) is old.sits

    part_sits : Sits k.core k.seat_of id p × (a ≡ p.actor)
    part_sits = each_found (Sits k.core k.seat_of id) a ps p parts_sit found

    a_sits : k.seat_of a ≡ id
    a_sits = ap k.seat_of part_sits.1 ∙ part_sits.0.1

    -- ---- who is where

    at_left : get_elem? views id ≡ m.some left
    at_left = at_longer (set s.views id left) (right ∷ []) id left (set_at s.views id v left at)

    at_right : get_elem? views n ≡ m.some right
    at_right = at_last (set s.views id left) right n (length-set s.views id left)

    at_old : (j : ℕ) (u : View) → j ≢ id → get_elem? s.views j ≡ m.some u → get_elem? views j ≡ m.some u
    at_old j u other there = at_longer (set s.views id left) (right ∷ []) j u (set_else s.views id j left other ∙ there)

    left_is : left.who ≡ who.Root (remove a ps)
    left_is = ap (less a) is

    is_out : k.turn ≢ 0 → IsOut k.turn k.holder views
    is_out away = by_seat (k.out away) (cases_eq k.holder id)
      where
        by_seat : IsOut k.turn k.holder s.views → (k.holder ≡ id) ⊎ (k.holder ≢ id) → IsOut k.turn k.holder views
        by_seat o (inl same) = record {
          out = o.out;
          view = left;
          there = ap (get_elem? views) same ∙ at_left;
          inside = subst (λ (u : View). u.stage ≢ stage.Away) (some-injective o.view v (sym o.there ∙ ap (get_elem? s.views) same ∙ at)) o.inside;
        }
        by_seat o (inr other) = record { out = o.out; view = o.view; there = at_old k.holder o.view other o.there; inside = o.inside }

    is_seated : (b : Actor) → is_known b ≡ true → IsSeated views (seat_of b) b
    is_seated b known = by_cases (same_actor a b) (IsSeated views (seat_of b) b) here there
      where
        here : same_actor a b ≡ true → IsSeated views (seat_of b) b
        here same =
            let e : p.actor ≡ b = sym part_sits.1 ∙ actor_true a b same in
            let self : same_actor b p.actor ≡ true = ap (same_actor b) e ∙ actor_self b in
            subst (λ j. IsSeated views j b) (sym (ap (λ x. cond x n (k.seat_of b)) same)) (record {
              view = right;
              there = at_right;
              part = subst (λ w. IsSome (find b (parts_in w))) (sym now) (subst (λ x. IsSome (cond x (Some p) None)) (sym self) refl);
            })

        there : same_actor a b ≡ false → IsSeated views (seat_of b) b
        there apart = subst (λ j. IsSeated views j b) (sym (ap (λ x. cond x n (k.seat_of b)) apart)) (by_seat (k.seated b known) (cases_eq (k.seat_of b) id))
          where
            by_seat : IsSeated s.views (k.seat_of b) b → (k.seat_of b ≡ id) ⊎ (k.seat_of b ≢ id) → IsSeated views (k.seat_of b) b
            by_seat o (inl same) =
                let is_v = some-injective o.view v (sym o.there ∙ ap (get_elem? s.views) same ∙ at) in
                record {
                  view = left;
                  there = ap (get_elem? views) same ∙ at_left;
                  part = subst (λ w. IsSome (find b (parts_in w))) (sym left_is) (subst (λ (x : Option Part). IsSome x) (sym (find_other a b ps apart)) (subst (λ w. IsSome (find b (parts_in w))) (ap (λ (u : View). u.who) is_v ∙ is) o.part));
                }
            by_seat o (inr other) = record { view = o.view; there = at_old (k.seat_of b) o.view other o.there; part = o.part }

    -- ---- what they tell

    still_at : (j : ℕ) (q : Part) → same_actor a q.actor ≡ false → Sits k.core k.seat_of j q → Sits k.core seat_of j q
    still_at j q apart h = (h.0, ap (λ x. cond x n (k.seat_of q.actor)) apart ∙ h.1, h.2)

    other_at : (j : ℕ) → j ≢ id → (q : Part) → Sits k.core k.seat_of j q → Sits k.core seat_of j q
    other_at j other q h = by_cases (same_actor a q.actor) (Sits k.core seat_of j q) (λ same. absurd (other (sym h.1 ∙ ap k.seat_of (sym (actor_true a q.actor same)) ∙ a_sits))) (λ apart. still_at j q apart h)

    fits_left : Fits k.turn k.holder k.core seat_of s.homes id left
    fits_left = record {
      seen = old.seen;
      told = old.told;
      sits = subst (λ w. EachPart (Sits k.core seat_of id) (parts_in w)) (sym left_is) (each_other (Sits k.core k.seat_of id) (Sits k.core seat_of id) a (still_at id) ps parts_sit);
      root = subst (RootIs id) (sym left_is) (subst (RootIs id) is old.root);
      holds = λ inside. let o = old.holds inside in record { out = o.out; holds = o.holds; whole = o.whole; slot = o.slot; somebody = subst IsSomebody (sym left_is) tt };
      free = subst (HoldsInTurn v.stage) (sym left_is) (each_other NotHolding NotHolding a (λ q _ free. free) ps (subst (HoldsInTurn v.stage) is old.free));
    }

    fits_right : Fits k.turn k.holder k.core seat_of s.homes n right
    fits_right = record {
      seen = old.seen;
      told = (k.core.history, refl);
      sits = subst (λ w. EachPart (Sits k.core seat_of n) (parts_in w)) (sym now) ((part_sits.0.0, ap (λ b. cond (same_actor a b) n (k.seat_of b)) (sym part_sits.1) ∙ ap (λ x. cond x n (k.seat_of a)) (actor_self a), part_sits.0.2), tt);
      root = subst (RootIs n) (sym now) tt;
      holds = λ inside. absurd (inside refl);
      free = subst (HoldsInTurn stage.Away) (sym now) (λ _. holds_none);
    }

    fits_other : (j : ℕ) (u : View) → j ≢ id → get_elem? s.views j ≡ m.some u → Fits k.turn k.holder k.core seat_of s.homes j u
    fits_other j u other there = let o = k.fits j u there in record {
      seen = o.seen;
      told = o.told;
      sits = each_map (Sits k.core k.seat_of j) (Sits k.core seat_of j) (other_at j other) (parts_in u.who) o.sits;
      root = o.root;
      holds = o.holds;
      free = o.free;
    }

    fits_at : (j : ℕ) (u : View) → get_elem? views j ≡ m.some u → Fits k.turn k.holder k.core seat_of s.homes j u
    fits_at j u there = by_end (at_snoc_here (set s.views id left) right u j there)
      where
        by_seat : ((j ≡ id) × (left ≡ u)) ⊎ ((j ≢ id) × (get_elem? s.views j ≡ m.some u)) → Fits k.turn k.holder k.core seat_of s.homes j u
        by_seat (inl it) = subst (λ x. Fits k.turn k.holder k.core seat_of s.homes j x) it.1 (subst (λ i. Fits k.turn k.holder k.core seat_of s.homes i left) (sym it.0) fits_left)
        by_seat (inr it) = fits_other j u it.0 it.1

        by_end : (get_elem? (set s.views id left) j ≡ m.some u) ⊎ ((j ≡ length (set s.views id left)) × (right ≡ u)) → Fits k.turn k.holder k.core seat_of s.homes j u
        by_end (inl it) = by_seat (at_set s.views id j left u it)
        by_end (inr it) = subst (λ x. Fits k.turn k.holder k.core seat_of s.homes j x) it.1 (subst (λ i. Fits k.turn k.holder k.core seat_of s.homes i right) (sym (it.0 ∙ length-set s.views id left)) fits_right)

    split_kept : Rule (record { words = s.words; homes = s.homes; views = views })
    split_kept = record {
      turn = k.turn;
      holder = k.holder;
      pins = k.pins;
      core = k.core;
      seat_of = seat_of;
      words = k.words;
      five = k.five;
      pinned = k.pinned;
      home = k.home;
      out = is_out;
      sound = k.sound;
      absent = k.absent;
      seated = is_seated;
      fits = fits_at;
    }

  splits_keep : (id : ℕ) (v : View) (a : Actor) (p : Part) → find a (root_parts v.who) ≡ Some p → NotHolding p → Splits Rule id v (without a v) (seated a v)
  splits_keep id v a p found free s k at = let r = root_of v.who a p found in split_kept s k id v at a p r.0 r.1 r.2 free (ap lone found)

  pub splits_here : (id : ℕ) (v : View) (me : Mine B) (a : Actor) → me ≡ (v, []) → find a (root_parts v.who) ≡ Some (fresh a) → Splits Rule id me.0 (without a me.0) (seated a me.0)
  splits_here id v me a at found = subst (λ (x : Mine B). Splits Rule id x.0 (without a x.0) (seated a x.0)) (sym at) (splits_keep id v a (fresh a) found (fresh_free a))
