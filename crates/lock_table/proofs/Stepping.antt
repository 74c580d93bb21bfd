-- What every step on the table keeps: the seats that make no step, and what the seat that makes one shows.
use Rattle.std.proofs.Common.{◌≡◌, ◌≢◌, ◌⊎◌, inl, inr, cond, ℕ, Bool, true, false, List, ◌∷◌, set, refl, sym, ap, subst, ◌∙◌, IsSome, Option, Some, None}
use mathlib.Core.Option as m
use mathlib.Core.Option.{some-injective}
use lib.ListN.{get_elem?}
use Rattle.std.proofs.lemmas.Bool.{cases_eq}
use Rattle.atomic_table.specs.Table.{State}
use Rattle.atomic_table.proofs.Lists.{at_set, set_else}
use Rattle.acpi_regs.specs.declared.actor.Actor.{Actor}
use Rattle.acpi_regs.specs.declared.entry.Entry.{Entry}
use Rattle.acpi_regs.specs.declared.event.Event.{Event}
use Rattle.acpi_regs.specs.Actor.{same_actor}
use Rattle.acpi_regs.specs.Core.{Core}
use Rattle.acpi_regs.specs.CoreSound.{CoreSound}
use Rattle.lock_table.specs.declared.view.Occupant.{Occupant}
use Rattle.lock_table.specs.declared.view.Occupant.TheVariants as who
use Rattle.lock_table.specs.declared.view.Part.{Part}
use Rattle.lock_table.specs.declared.view.Stage.TheVariants as stage
use Rattle.lock_table.specs.declared.view.View.{View}
use Rattle.lock_table.specs.Pins.{pins_of}
use Rattle.lock_table.specs.Rule.{AbsentAreFirst, Fits, HasTurn, IsHome, IsOut, IsSeated, IsSomebody, Kept, RootIs, Sits}
use Rattle.lock_table.specs.Views.{EachPart, find, map_one, parts_in}
use Rattle.lock_table.proofs.OneStep.{set_at}

abbrev pub Homes : Type 0 → Type 0
Homes B = List (m.Option (Option B))

-- ---- the parts of a seat

-- a change of the part of one actor, which stays that actor's
module _ (f : Part → Part) (same : (p : Part) → (f p).actor ≡ p.actor) where
  pub still_found : (w : Occupant) (a : Actor) → IsSome (find a (parts_in w)) → IsSome (find a (parts_in (map_one f w)))
  still_found (who.Root ps) a h = h
  still_found who.Nobody a h = h
  still_found (who.One p) a h = by_test (same_actor a p.actor) (same_actor a (f p).actor) (ap (same_actor a) (same p)) h
    where
      by_test : (b c : Bool) → c ≡ b → IsSome (cond b (Some p) None) → IsSome (cond c (Some (f p)) None)
      by_test true true e some = refl
      by_test true false e some = cc
      by_test false c e some = cc

  pub still_root : (j : ℕ) (w : Occupant) → RootIs j w → RootIs j (map_one f w)
  still_root j (who.Root ps) h = h
  still_root j (who.One p) h = tt
  still_root j who.Nobody h = tt

  pub still_somebody : (w : Occupant) → IsSomebody w → IsSomebody (map_one f w)
  still_somebody (who.Root ps) h = tt
  still_somebody (who.One p) h = tt
  still_somebody who.Nobody h = h

-- and stands for the same
pub still_sits : (f : Part → Part) (core : Core) (seat_of : Actor → ℕ) (j : ℕ) → ((p : Part) → Sits core seat_of j p → Sits core seat_of j (f p)) → (w : Occupant) → EachPart (Sits core seat_of j) (parts_in w) → EachPart (Sits core seat_of j) (parts_in (map_one f w))
still_sits f core seat_of j each (who.Root ps) h = h
still_sits f core seat_of j each (who.One p) h = (each p h.0, tt)
still_sits f core seat_of j each who.Nobody h = tt

-- ---- a step of the seat id, whose view becomes w

module _ {B X : Type 0} (lists : X → List (List Event)) (base : B → X) (entries : B → List Entry) (key : B) where
  abbrev Rule : State (Option B) View → Type 0
  Rule = Kept lists base entries key

  module _ (s : State (Option B) View) (k : Rule s) (id : ℕ) (v w : View) (at : get_elem? s.views id ≡ m.some v) where
    -- the holder of the turn is there as before
    pub still_out : (v.stage ≢ stage.Away → w.stage ≢ stage.Away) → k.turn ≢ 0 → IsOut k.turn k.holder (set s.views id w)
    still_out inside away = by_seat (k.out away) (cases_eq k.holder id)
      where
        by_seat : IsOut k.turn k.holder s.views → (k.holder ≡ id) ⊎ (k.holder ≢ id) → IsOut k.turn k.holder (set s.views id w)
        by_seat o (inl same) = record {
          out = o.out;
          view = w;
          there = ap (get_elem? (set s.views id w)) same ∙ set_at s.views id v w at;
          inside = inside (subst (λ (u : View). u.stage ≢ stage.Away) (some-injective o.view v (sym o.there ∙ ap (get_elem? s.views) same ∙ at)) o.inside);
        }
        by_seat o (inr other) = record { out = o.out; view = o.view; there = set_else s.views id k.holder w other ∙ o.there; inside = o.inside }

    still_seated : ((a : Actor) → IsSome (find a (parts_in v.who)) → IsSome (find a (parts_in w.who))) → (j : ℕ) (a : Actor) → IsSeated s.views j a → IsSeated (set s.views id w) j a
    still_seated found j a o = by_seat (cases_eq j id)
      where
        by_seat : (j ≡ id) ⊎ (j ≢ id) → IsSeated (set s.views id w) j a
        by_seat (inl same) =
            let is_v = some-injective o.view v (sym o.there ∙ ap (get_elem? s.views) same ∙ at) in
            record {
              view = w;
              there = ap (get_elem? (set s.views id w)) same ∙ set_at s.views id v w at;
              part = found a (subst (λ (u : View). IsSome (find a (parts_in u.who))) is_v o.part);
            }
        by_seat (inr other) = record { view = o.view; there = set_else s.views id j w other ∙ o.there; part = o.part }

    -- another seat, where the core stays
    pub others_same : (turn holder : ℕ) (homes : Homes B) (j : ℕ) (u : View) → (HasTurn k.turn k.holder k.core.history s.homes j u → HasTurn turn holder k.core.history homes j u) → get_elem? s.views j ≡ m.some u
        → Fits turn holder k.core k.seat_of homes j u
    others_same turn holder homes j u has there = let o = k.fits j u there in record { seen = o.seen; told = o.told; sits = o.sits; root = o.root; holds = λ inside. has (o.holds inside); free = o.free }

    pub built : (turn holder : ℕ) (core : Core) (homes : Homes B) (words : List ℕ)
        → words ≡ turn ∷ core.word ∷ k.pins
        → ((n : Event) → core.pins n ≡ pins_of k.pins n)
        → (turn ≡ 0 → IsHome base entries key core.history homes)
        → (turn ≢ 0 → IsOut turn holder (set s.views id w))
        → CoreSound (lists (base key)) core
        → AbsentAreFirst core.phases
        → ((a : Actor) → IsSome (find a (parts_in v.who)) → IsSome (find a (parts_in w.who)))
        → ((j : ℕ) (u : View) → j ≢ id → get_elem? s.views j ≡ m.some u → Fits turn holder core k.seat_of homes j u)
        → Fits turn holder core k.seat_of homes id w
        → Rule (record { words = words; homes = homes; views = set s.views id w })
    built turn holder core homes words are pinned home out sound absent found others mine = record {
      turn = turn;
      holder = holder;
      pins = k.pins;
      core = core;
      seat_of = k.seat_of;
      words = are;
      five = k.five;
      pinned = pinned;
      home = home;
      out = out;
      sound = sound;
      absent = absent;
      seated = λ a is. still_seated found (k.seat_of a) a (k.seated a is);
      fits = λ j u there. by_seat j u (at_set s.views id j w u there);
    }
      where
        by_seat : (j : ℕ) (u : View) → ((j ≡ id) × (w ≡ u)) ⊎ ((j ≢ id) × (get_elem? s.views j ≡ m.some u)) → Fits turn holder core k.seat_of homes j u
        by_seat j u (inl it) = subst (λ x. Fits turn holder core k.seat_of homes j x) it.1 (subst (λ i. Fits turn holder core k.seat_of homes i w) (sym it.0) mine)
        by_seat j u (inr it) = others j u it.0 it.1
