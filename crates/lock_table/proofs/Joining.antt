-- Taking a seat back into the root, and the root's look at what it was told, keep the rule.
use Rattle.std.proofs.Common.{◌≡◌, ◌≢◌, ◌⊎◌, inl, inr, cond, ℕ, ◌≤◌, Bool, true, false, List, [], ◌∷◌, ◌++◌, length, get_or, set, refl, sym, ap, subst, ◌∙◌, IsSome, Option, Some, None, nat_le, arith, append-nil, length-append}
use mathlib.Core.Option as m
use mathlib.Core.Option.{some-injective}
use lib.ListN.{get_elem?}
use lib.Seq.{set-get_or}
use Rattle.std.proofs.lemmas.Bool.{cases_eq, leb-false, leb-true}
use Rattle.atomic_table.specs.Table.{Allows, Joins, State, keeps, step}
use Rattle.atomic_table.proofs.Lists.{at_set, set_else}
use Rattle.acpi_regs.specs.declared.actor.Actor.{Actor}
use Rattle.acpi_regs.specs.declared.entry.Entry.{Entry}
use Rattle.acpi_regs.specs.declared.event.Event.{Event}
use Rattle.acpi_regs.specs.Actor.{same_actor}
use Rattle.acpi_regs.proofs.LockActors.{actor_self, actor_swap, actor_true, by_cases}
use Rattle.lock_table.specs.declared.view.Occupant.TheVariants as who
use Rattle.lock_table.specs.declared.view.Part.{Part}
use Rattle.lock_table.specs.declared.view.Stage.TheVariants as stage
use Rattle.lock_table.specs.declared.view.View.{View}
use Rattle.lock_table.specs.Plays.{Looked, Mine}
use Rattle.lock_table.specs.Rule.{Fits, IsOut, IsSeated, IsSomebody, Kept, RootIs, Sits}
use Rattle.lock_table.specs.Views.{EachPart, HoldsInTurn, StartsWith, find, is_known, learned, longer, more, parts_in, rejoined, spent_view}
use Rattle.lock_table.proofs.OneStep.{set_at}
use Rattle.lock_table.proofs.PartLists.{each_map}
use Rattle.lock_table.proofs.Splitting.{moved_to}
use Rattle.lock_table.proofs.Stepping.{built, others_same, still_out}

-- ---- of two beginnings of a history the longer begins with both

head_or : Entry → List Entry → Entry
head_or d [] = d
head_or d (e ∷ es) = e

tail_of : List Entry → List Entry
tail_of [] = []
tail_of (e ∷ es) = es

no_empty : (e : Entry) (es : List Entry) → ◌≡◌ {A = List Entry} (e ∷ es) [] → ⊥
no_empty e es h = let l = ap length h in absurd (omega (arith, l))

begins : (a b x y : List Entry) → a ++ x ≡ b ++ y → length a ≤ length b → StartsWith b a
unfolding head_or tail_of
begins [] b x y same shorter = (b, refl)
begins (e ∷ a) [] x y same shorter = absurd (omega (arith, shorter))
begins (e ∷ a) (f ∷ b) x y same shorter =
    let h = begins a b x y (ap tail_of same) (let l = shorter in omega (arith, l)) in
    (h.0, (λ i. sym (ap (head_or e) same) i ∷ h.1 i))

pub longer_begins : (h a b : List Entry) → StartsWith h a → StartsWith h b → StartsWith h (longer a b) × StartsWith (longer a b) a × StartsWith (longer a b) b
longer_begins h a b first second = by_length (nat_le (length a) (length b)) refl
  where
    by_length : (c : Bool) → nat_le (length a) (length b) ≡ c → StartsWith h (cond c b a) × StartsWith (cond c b a) a × StartsWith (cond c b a) b
    by_length true is = (second, begins a b first.0 second.0 (sym first.1 ∙ second.1) (leb-true (length a) (length b) is), ([], sym (append-nil b)))
    by_length false is = (first, ([], sym (append-nil a)), begins b a second.0 first.0 (sym second.1 ∙ first.1) (let more = leb-false (length a) (length b) is in omega (arith, more)))

-- the whole history is no shorter than a beginning
longer_whole : (h b : List Entry) → StartsWith h b → longer h b ≡ h
longer_whole h b first = by_length (nat_le (length h) (length b)) refl
  where
    nothing : (more : List Entry) → h ≡ b ++ more → length h ≤ length b → b ≡ h
    nothing [] is shorter = sym (is ∙ append-nil b)
    nothing (e ∷ more) is shorter = let l = ap length is ∙ length-append b (e ∷ more) in absurd (omega (arith, l, shorter))

    by_length : (c : Bool) → nat_le (length h) (length b) ≡ c → cond c b h ≡ h
    by_length true is = nothing first.0 first.1 (leb-true (length h) (length b) is)
    by_length false is = refl

module _ {B X : Type 0} (lists : X → List (List Event)) (base : B → X) (entries : B → List Entry) (key : B) where
  abbrev Rule : State (Option B) View → Type 0
  Rule = Kept lists base entries key

  module _ (s : State (Option B) View) (k : Rule s) (id : ℕ) (v : View) (at : get_elem? s.views id ≡ m.some v) (ps : List Part) (is : v.who ≡ who.Root ps)
      (other : ℕ) (w : View) (apart : other ≢ id) (there : get_elem? s.views other ≡ m.some w) (p : Part) (one : w.who ≡ who.One p) (away : w.stage ≡ stage.Away) where
    abbrev both : View
    both = rejoined v w

    abbrev seat_of : Actor → ℕ
    seat_of = moved_to p.actor id k.seat_of

    abbrev first : List View
    first = set s.views id both

    abbrev views : List View
    views = set first other spent_view

    old : Fits k.turn k.holder k.core k.seat_of s.homes id v
    old = k.fits id v at

    gone : Fits k.turn k.holder k.core k.seat_of s.homes other w
    gone = k.fits other w there

    both_is : both.who ≡ who.Root (p ∷ ps)
    both_is = ap (λ o. more o w.who) is ∙ ap (more (who.Root ps)) one

    p_sits : Sits k.core k.seat_of other p
    p_sits = (subst (λ o. EachPart (Sits k.core k.seat_of other) (parts_in o)) one gone.sits).0

    -- ---- who is where

    at_both : get_elem? views id ≡ m.some both
    at_both = set_else first other id spent_view (λ e. apart (sym e)) ∙ set_at s.views id v both at

    at_old : (j : ℕ) (u : View) → j ≢ id → j ≢ other → get_elem? s.views j ≡ m.some u → get_elem? views j ≡ m.some u
    at_old j u not_root not_other h = set_else first other j spent_view not_other ∙ set_else s.views id j both not_root ∙ h

    is_out : k.turn ≢ 0 → IsOut k.turn k.holder views
    is_out out = by_seat (k.out out) (cases_eq k.holder id) (cases_eq k.holder other)
      where
        by_seat : IsOut k.turn k.holder s.views → (k.holder ≡ id) ⊎ (k.holder ≢ id) → (k.holder ≡ other) ⊎ (k.holder ≢ other) → IsOut k.turn k.holder views
        by_seat o _ (inl same) = absurd (o.inside (ap (λ (u : View). u.stage) (some-injective o.view w (sym o.there ∙ ap (get_elem? s.views) same ∙ there)) ∙ away))
        by_seat o (inl same) (inr _) = record {
          out = o.out;
          view = both;
          there = ap (get_elem? views) same ∙ at_both;
          inside = subst (λ (u : View). u.stage ≢ stage.Away) (some-injective o.view v (sym o.there ∙ ap (get_elem? s.views) same ∙ at)) o.inside;
        }
        by_seat o (inr not_root) (inr not_other) = record { out = o.out; view = o.view; there = at_old k.holder o.view not_root not_other o.there; inside = o.inside }

    is_seated : (b : Actor) → is_known b ≡ true → IsSeated views (seat_of b) b
    is_seated b known = by_cases (same_actor p.actor b) (IsSeated views (seat_of b) b) here elsewhere
      where
        here : same_actor p.actor b ≡ true → IsSeated views (seat_of b) b
        here same =
            let self : same_actor b p.actor ≡ true = ap (same_actor b) (actor_true p.actor b same) ∙ actor_self b in
            subst (λ j. IsSeated views j b) (sym (ap (λ x. cond x id (k.seat_of b)) same)) (record {
              view = both;
              there = at_both;
              part = subst (λ o. IsSome (find b (parts_in o))) (sym both_is) (subst (λ x. IsSome (cond x (Some p) (find b ps))) (sym self) refl);
            })

        elsewhere : same_actor p.actor b ≡ false → IsSeated views (seat_of b) b
        elsewhere differs = subst (λ j. IsSeated views j b) (sym (ap (λ x. cond x id (k.seat_of b)) differs)) (by_seat (k.seated b known) (cases_eq (k.seat_of b) id) (cases_eq (k.seat_of b) other))
          where
            not_p : same_actor b p.actor ≡ false
            not_p = actor_swap p.actor b differs

            no_one : IsSome {T = Part} None → ⊥
            no_one some = cc

            by_seat : IsSeated s.views (k.seat_of b) b → (k.seat_of b ≡ id) ⊎ (k.seat_of b ≢ id) → (k.seat_of b ≡ other) ⊎ (k.seat_of b ≢ other) → IsSeated views (k.seat_of b) b
            by_seat o _ (inl same) =
                let is_w = some-injective o.view w (sym o.there ∙ ap (get_elem? s.views) same ∙ there) in
                absurd (no_one (subst (λ x. IsSome (cond x (Some p) None)) not_p (subst (λ x. IsSome (find b (parts_in x))) (ap (λ (u : View). u.who) is_w ∙ one) o.part)))
            by_seat o (inl same) (inr _) =
                let is_v = some-injective o.view v (sym o.there ∙ ap (get_elem? s.views) same ∙ at) in
                record {
                  view = both;
                  there = ap (get_elem? views) same ∙ at_both;
                  part = subst (λ x. IsSome (find b (parts_in x))) (sym both_is) (subst (λ x. IsSome (cond x (Some p) (find b ps))) (sym not_p) (subst (λ x. IsSome (find b (parts_in x))) (ap (λ (u : View). u.who) is_v ∙ is) o.part));
                }
            by_seat o (inr not_root) (inr not_other) = record { view = o.view; there = at_old (k.seat_of b) o.view not_root not_other o.there; part = o.part }

    -- ---- what they tell

    root_at : (q : Part) → Sits k.core k.seat_of id q → Sits k.core seat_of id q
    root_at q h = (h.0, by_cases (same_actor p.actor q.actor) (seat_of q.actor ≡ id) (λ same. ap (λ x. cond x id (k.seat_of q.actor)) same) (λ differs. ap (λ x. cond x id (k.seat_of q.actor)) differs ∙ h.1), h.2)

    other_at : (j : ℕ) → j ≢ other → (q : Part) → Sits k.core k.seat_of j q → Sits k.core seat_of j q
    other_at j not_other q h = (
      h.0,
      by_cases (same_actor p.actor q.actor) (seat_of q.actor ≡ j) (λ same. absurd (not_other (sym h.1 ∙ ap k.seat_of (sym (actor_true p.actor q.actor same)) ∙ p_sits.1))) (λ differs. ap (λ x. cond x id (k.seat_of q.actor)) differs ∙ h.1),
      h.2,
    )

    fits_both : Fits k.turn k.holder k.core seat_of s.homes id both
    fits_both = record {
      seen = old.seen;
      told = gone.seen;
      sits = subst (λ o. EachPart (Sits k.core seat_of id) (parts_in o)) (sym both_is) ((p_sits.0, ap (λ x. cond x id (k.seat_of p.actor)) (actor_self p.actor), p_sits.2), each_map (Sits k.core k.seat_of id) (Sits k.core seat_of id) root_at ps (subst (λ o. EachPart (Sits k.core k.seat_of id) (parts_in o)) is old.sits));
      root = subst (RootIs id) (sym both_is) (subst (RootIs id) is old.root);
      holds = λ inside. let o = old.holds inside in record { out = o.out; holds = o.holds; whole = o.whole; slot = o.slot; somebody = subst IsSomebody (sym both_is) tt };
      free = subst (HoldsInTurn v.stage) (sym both_is) (subst (HoldsInTurn w.stage) one gone.free away, subst (HoldsInTurn v.stage) is old.free);
    }

    fits_spent : Fits k.turn k.holder k.core seat_of s.homes other spent_view
    fits_spent = record { seen = (k.core.history, refl); told = (k.core.history, refl); sits = tt; root = tt; holds = λ inside. absurd (inside refl); free = tt }

    fits_other : (j : ℕ) (u : View) → j ≢ other → get_elem? s.views j ≡ m.some u → Fits k.turn k.holder k.core seat_of s.homes j u
    fits_other j u not_other h = let o = k.fits j u h in record {
      seen = o.seen;
      told = o.told;
      sits = each_map (Sits k.core k.seat_of j) (Sits k.core seat_of j) (other_at j not_other) (parts_in u.who) o.sits;
      root = o.root;
      holds = o.holds;
      free = o.free;
    }

    fits_at : (j : ℕ) (u : View) → get_elem? views j ≡ m.some u → Fits k.turn k.holder k.core seat_of s.homes j u
    fits_at j u h = by_other (at_set first other j spent_view u h)
      where
        by_root : j ≢ other → ((j ≡ id) × (both ≡ u)) ⊎ ((j ≢ id) × (get_elem? s.views j ≡ m.some u)) → Fits k.turn k.holder k.core seat_of s.homes j u
        by_root not_other (inl it) = subst (λ x. Fits k.turn k.holder k.core seat_of s.homes j x) it.1 (subst (λ i. Fits k.turn k.holder k.core seat_of s.homes i both) (sym it.0) fits_both)
        by_root not_other (inr it) = fits_other j u not_other it.1

        by_other : ((j ≡ other) × (spent_view ≡ u)) ⊎ ((j ≢ other) × (get_elem? first j ≡ m.some u)) → Fits k.turn k.holder k.core seat_of s.homes j u
        by_other (inl it) = subst (λ x. Fits k.turn k.holder k.core seat_of s.homes j x) it.1 (subst (λ i. Fits k.turn k.holder k.core seat_of s.homes i spent_view) (sym it.0) fits_spent)
        by_other (inr it) = by_root it.0 (at_set s.views id j both u it.1)

    join_kept : Rule (record { words = s.words; homes = s.homes; views = views })
    join_kept = record {
      turn = k.turn;
      holder = k.holder;
      pins = k.pins;
      core = k.core;
      seat_of = seat_of;
      words = k.words;
      five = k.five;
      pinned = k.pinned;
      home = k.home;
      out = is_out;
      sound = k.sound;
      absent = k.absent;
      seated = is_seated;
      fits = fits_at;
    }

  joins_keep : (id : ℕ) (v : View) (other : ℕ) (w : View) (ps : List Part) (p : Part) → v.who ≡ who.Root ps → w.who ≡ who.One p → w.stage ≡ stage.Away → Joins Rule id v other w (rejoined v w) spent_view
  joins_keep id v other w ps p is one away s k at apart there = join_kept s k id v at ps is other w apart (sym (set_else s.views id other (rejoined v w) apart) ∙ there) p one away

  pub joins_here : (id other : ℕ) (v w : View) (me its : Mine B) (ps : List Part) (p : Part) → me ≡ (v, []) → its ≡ (w, []) → v.who ≡ who.Root ps → w.who ≡ who.One p → w.stage ≡ stage.Away
      → Joins Rule id me.0 other its.0 (rejoined me.0 its.0) spent_view
  joins_here id other v w me its ps p at at_other is one away =
      subst (λ (x : Mine B). Joins Rule id x.0 other its.0 (rejoined x.0 its.0) spent_view) (sym at) (subst (λ (y : Mine B). Joins Rule id v other y.0 (rejoined v y.0) spent_view) (sym at_other) (joins_keep id v other w ps p is one away))

  -- ---- the look

  looking : (s : State (Option B) View) (k : Rule s) (id : ℕ) (v : View) → get_elem? s.views id ≡ m.some v → Rule (record { words = set s.words 0 (get_or s.words 0 0); homes = s.homes; views = set s.views id (learned v) })
  looking s k id v at =
      let f = k.fits id v at in
      built lists base entries key s k id v (learned v) at k.turn k.holder k.core s.homes (set s.words 0 (get_or s.words 0 0))
      (set-get_or s.words 0 0 ∙ k.words) k.pinned k.home (still_out lists base entries key s k id v (learned v) at (λ inside. inside))
      k.sound k.absent (λ a found. found)
      (λ j u other there. others_same lists base entries key s k id v (learned v) at k.turn k.holder s.homes j u (λ has. has) there)
      (record {
        seen = (longer_begins k.core.history v.seen v.told f.seen f.told).0;
        told = (k.core.history, refl);
        sits = f.sits;
        root = f.root;
        holds = λ inside. let o = f.holds inside in record { out = o.out; holds = o.holds; whole = ap (λ l. longer l v.told) o.whole ∙ longer_whole k.core.history v.told f.told; slot = o.slot; somebody = o.somebody };
        free = f.free;
      })

  pub looks : (slots id : ℕ) (v : View) (me : Mine B) → me ≡ (v, []) → Allows Rule slots id me 0 (λ n. n) (λ n. Looked (step 0 0 0 0 m.none) me n)
  looks slots id v me at_me = subst (λ x. Allows Rule slots id x 0 (λ n. n) (λ n. Looked (step 0 0 0 0 m.none) x n)) (sym at_me) all
    where
      all : Allows Rule slots id (v, []) 0 (λ n. n) (λ n. Looked (step 0 0 0 0 m.none) (v, []) n)
      all s k _ at _ = let f = k.fits id v at in let l = longer_begins k.core.history v.seen v.told f.seen f.told in (learned v, keeps, tt, looking s k id v at, (refl, l.1, l.2))
