-- What a table leaves that is closed with every actor back in the root.
use Rattle.std.proofs.Common.{◌≡◌, ◌≢◌, ◌⊎◌, inl, inr, ℕ, ◌≤◌, true, ◌==◌, ◌||◌, List, [], ◌∷◌, length, refl, sym, ap, subst, ◌∙◌, IsSome, Option, Some, unwrap_or, arith}
use mathlib.Core.Option as m
use mathlib.Core.Option.{some-injective}
use lib.ListN.{get_elem?}
use Rattle.std.proofs.lemmas.Bool.{cases_eq}
use Rattle.atomic_table.specs.Table.{Final, Seen, State}
use Rattle.acpi_regs.specs.declared.entry.Entry.{Entry}
use Rattle.acpi_regs.specs.declared.event.Event.{Event}
use Rattle.lock_table.specs.declared.view.Occupant.{Occupant}
use Rattle.lock_table.specs.declared.view.Occupant.TheVariants as who
use Rattle.lock_table.specs.declared.view.Stage.TheVariants as stage
use Rattle.lock_table.specs.declared.view.View.{View}
use Rattle.lock_table.specs.Calls.{Leaves}
use Rattle.lock_table.specs.Pins.{pins_of}
use Rattle.lock_table.specs.Plays.{Mine}
use Rattle.lock_table.specs.Rule.{IsHome, IsOut, IsSomebody, Kept, RootIs, Sits, StandsIn}
use Rattle.lock_table.specs.Views.{EachPart, HasAll, IsRoot, StartsWith, find, parts_in, root_parts}
use Rattle.lock_table.proofs.PartLists.{each_found, each_map, some_found}

-- five words are these
five_are : (l : List ℕ) (a b c d e : ℕ) → length l ≡ 5 → get_elem? l 0 ≡ m.some a → get_elem? l 1 ≡ m.some b → get_elem? l 2 ≡ m.some c → get_elem? l 3 ≡ m.some d → get_elem? l 4 ≡ m.some e → l ≡ a ∷ b ∷ c ∷ d ∷ e ∷ []
five_are (v ∷ w ∷ x ∷ y ∷ z ∷ []) a b c d e five p q r s t = λ i. some-injective v a p i ∷ some-injective w b q i ∷ some-injective x c r i ∷ some-injective y d s i ∷ some-injective z e t i ∷ []
five_are [] a b c d e five p q r s t = absurd (omega (arith, five))
five_are (v ∷ []) a b c d e five p q r s t = absurd (omega (arith, five))
five_are (v ∷ w ∷ []) a b c d e five p q r s t = absurd (omega (arith, five))
five_are (v ∷ w ∷ x ∷ []) a b c d e five p q r s t = absurd (omega (arith, five))
five_are (v ∷ w ∷ x ∷ y ∷ []) a b c d e five p q r s t = absurd (omega (arith, five))
five_are (v ∷ w ∷ x ∷ y ∷ z ∷ u ∷ l) a b c d e five p q r s t = absurd (omega (arith, five))

small_word : (n : ℕ) → ((n == 0) || ((n == 2) || (n == 3))) ≡ true → n ≤ 3
small_word n is = grind arith

module _ {B X : Type 0} (lists : X → List (List Event)) (base : B → X) (entries : B → List Entry) (key : B) where
  abbrev Rule : State (Option B) View → Type 0
  Rule = Kept lists base entries key

  module _ (s : State (Option B) View) (k : Rule s) (id : ℕ) (v : View) (at : get_elem? s.views id ≡ m.some v) (root : IsRoot v.who) (away : v.stage ≡ stage.Away) (all : HasAll v) where
    sits : EachPart (Sits k.core k.seat_of id) root.0
    sits = subst (λ w. EachPart (Sits k.core k.seat_of id) (parts_in w)) root.1 (k.fits id v at).sits

    -- no other seat has the turn
    no_holder : k.turn ≢ 0 → ⊥
    no_holder out = by_who o.view.who refl
      where
        o : IsOut k.turn k.holder s.views
        o = k.out out

        not_here : k.holder ≢ id
        not_here same = o.inside (ap (λ (u : View). u.stage) (some-injective o.view v (sym o.there ∙ ap (get_elem? s.views) same ∙ at)) ∙ away)

        root_here : id ≡ 0
        root_here = subst (RootIs id) root.1 (k.fits id v at).root

        by_who : (w : Occupant) → o.view.who ≡ w → ⊥
        by_who (who.Root ps) is = not_here (subst (RootIs k.holder) is (k.fits k.holder o.view o.there).root ∙ sym root_here)
        by_who (who.One p) is =
            let here = (subst (λ w. EachPart (Sits k.core k.seat_of k.holder) (parts_in w)) is (k.fits k.holder o.view o.there).sits).0 in
            let back = some_found p.actor root.0 (subst (λ w. IsSome (find p.actor (root_parts w))) root.1 (all p.actor here.0)) in
            let found = each_found (Sits k.core k.seat_of id) p.actor root.0 back.0 sits back.1 in
            not_here (sym here.1 ∙ ap k.seat_of found.1 ∙ found.0.1)
        by_who who.Nobody is = subst IsSomebody is ((k.fits k.holder o.view o.there).holds o.inside).somebody

    pub is_home : k.turn ≡ 0
    is_home = by_case (cases_eq k.turn 0)
      where
        by_case : (k.turn ≡ 0) ⊎ (k.turn ≢ 0) → k.turn ≡ 0
        by_case (inl home) = home
        by_case (inr out) = absurd (no_holder out)

  pub record Closed (ws : List ℕ) (xs : List (Option B)) (v : View) : Type 0 where
    pub board : B
    pub there : get_elem? xs 0 ≡ m.some (Some board)
    pub small : (f : ℕ) → get_elem? ws 1 ≡ m.some f → f ≤ 3
    pub leaves : (f a b c d e : ℕ) → get_elem? ws 1 ≡ m.some f → get_elem? ws 2 ≡ m.some a → get_elem? ws 3 ≡ m.some b → get_elem? ws 4 ≡ m.some c → get_elem? ws 5 ≡ m.some d → get_elem? ws 6 ≡ m.some e
        → Leaves lists base entries key v board (record { facs = f; pins = record { fixed = a; gpe = b ∷ c ∷ d ∷ e ∷ [] } })

  closes : (ws : List ℕ) (xs : List (Option B)) (id : ℕ) (v : View) → IsRoot v.who → v.stage ≡ stage.Away → HasAll v → Final (Seen Rule id v) ws xs → Closed ws xs v
  closes ws xs id v root away all last = record {
    board = h.board;
    there = last.4 0 (Some h.board) (ap (λ l. get_elem? l 0) h.slot);
    small = λ f f_is. subst (λ n. n ≤ 3) (word_is f f_is) (small_word k.core.word k.sound.lock.agree.good);
    leaves = λ f a b c d e f_is a_is b_is c_is d_is e_is.
        let five = five_are k.pins a b c d e k.five (sym (ap (λ l. get_elem? l 2) words) ∙ a_is) (sym (ap (λ l. get_elem? l 3) words) ∙ b_is) (sym (ap (λ l. get_elem? l 4) words) ∙ c_is) (sym (ap (λ l. get_elem? l 5) words) ∙ d_is) (sym (ap (λ l. get_elem? l 6) words) ∙ e_is) in
        record {
          same_base = h.same_base;
          begins = subst (λ l. StartsWith l v.seen) (sym h.has) (k.fits id v at).seen;
          core = k.core;
          history = sym h.has;
          word = word_is f f_is;
          pins = λ n _. k.pinned n ∙ ap (λ l. pins_of l n) five;
          stands = subst (λ w. EachPart (StandsIn k.core) (root_parts w)) (sym root.1) (each_map (Sits k.core k.seat_of id) (StandsIn k.core) (λ p h. h.2) root.0 (sits s k id v at root away all));
          absent = k.absent;
          sound = k.sound;
        };
  }
    where
      s : State (Option B) View
      s = last.0

      k : Rule s
      k = last.1.0

      at : get_elem? s.views id ≡ m.some v
      at = last.1.1

      h : IsHome base entries key k.core.history s.homes
      h = k.home (is_home s k id v at root away all)

      words : ws ≡ k.turn ∷ k.core.word ∷ k.pins
      words = sym last.2 ∙ k.words

      word_is : (f : ℕ) → get_elem? ws 1 ≡ m.some f → k.core.word ≡ f
      word_is f f_is = some-injective k.core.word f (sym (ap (λ l. get_elem? l 1) words) ∙ f_is)

  pub closes_here : (ws : List ℕ) (xs : List (Option B)) (id : ℕ) (v : View) (me : Mine B) → me ≡ (v, []) → IsRoot v.who → v.stage ≡ stage.Away → HasAll v → Final (Seen Rule id me.0) ws xs → Closed ws xs v
  closes_here ws xs id v me at root away all last = closes ws xs id v root away all (subst (λ (x : Mine B). Final (Seen Rule id x.0) ws xs) at last)

  -- the board that is taken out of the slot
  pub leaves_there : (ws : List ℕ) (xs : List (Option B)) (v : View) → Closed ws xs v → (o : Option B) (y : B) → get_elem? xs 0 ≡ m.some o → o ≡ Some y → (f a b c d e : ℕ)
      → get_elem? ws 1 ≡ m.some f → get_elem? ws 2 ≡ m.some a → get_elem? ws 3 ≡ m.some b → get_elem? ws 4 ≡ m.some c → get_elem? ws 5 ≡ m.some d → get_elem? ws 6 ≡ m.some e
      → Leaves lists base entries key v y (record { facs = f; pins = record { fixed = a; gpe = b ∷ c ∷ d ∷ e ∷ [] } })
  leaves_there ws xs v h o y there is f a b c d e f_is a_is b_is c_is d_is e_is =
      let same : h.board ≡ y = ap (λ (z : Option B). unwrap_or z h.board) (some-injective (Some h.board) o (sym h.there ∙ there) ∙ is) in
      subst (λ (x : B). Leaves lists base entries key v x (record { facs = f; pins = record { fixed = a; gpe = b ∷ c ∷ d ∷ e ∷ [] } })) same (h.leaves f a b c d e f_is a_is b_is c_is d_is e_is)
