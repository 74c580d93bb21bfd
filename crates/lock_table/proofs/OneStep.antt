-- A step of one actor on a word: its phase changes, the lock's word, and the pins, and nothing else.
use Rattle.std.proofs.Common.{◌≡◌, ◌≢◌, ◌⊎◌, inl, inr, cond, ℕ, zero, suc, Bool, true, false, List, [], ◌∷◌, length, set, refl, sym, ap, subst, ◌∙◌, IsSome, Option, Some, None}
use mathlib.Core.Option as m
use mathlib.Core.Option.{some-injective, some-ne-none}
use lib.ListN.{get_elem?}
use Rattle.std.proofs.lemmas.Bool.{cases_eq, false_from_ne_true}
use Rattle.atomic_table.specs.Table.{State}
use Rattle.atomic_table.proofs.Lists.{at_set, set_else}
use Rattle.acpi_regs.specs.declared.actor.Actor.{Actor}
use Rattle.acpi_regs.specs.declared.entry.Entry.{Entry}
use Rattle.acpi_regs.specs.declared.event.Event.{Event}
use Rattle.acpi_regs.specs.Actor.{same_actor}
use Rattle.acpi_regs.specs.Core.{Core}
use Rattle.acpi_regs.specs.CoreEvents.{is_holding}
use Rattle.acpi_regs.specs.CoreSound.{AreOfKind, CoreSound, is_kind}
use Rattle.acpi_regs.specs.Phases.{Phase, put}
use Rattle.acpi_regs.proofs.LockActors.{actor_true, put_other, put_self}
use Rattle.lock_table.specs.declared.view.Occupant.{Occupant}
use Rattle.lock_table.specs.declared.view.Occupant.TheVariants as who
use Rattle.lock_table.specs.declared.view.Part.{Part}
use Rattle.lock_table.specs.declared.view.SeatPhase.{SeatPhase}
use Rattle.lock_table.specs.declared.view.Stage.TheVariants as stage
use Rattle.lock_table.specs.declared.view.View.{View}
use Rattle.lock_table.specs.Pins.{pins_of}
use Rattle.lock_table.specs.Rule.{Fits, HasTurn, IsOut, IsSeated, Kept, Sits}
use Rattle.lock_table.specs.Views.{EachPart, ForOne, IsOwn, find, is_known, map_one, parts_in, phase_of, with_one}

-- the seat of one actor
pub for_one : (P : Part → Type 0) (w : Occupant) → ForOne P w → (p : Part) × (w ≡ who.One p) × P p
for_one P (who.Root ps) h = absurd h
for_one P (who.One p) h = (p, refl, h)
for_one P who.Nobody h = absurd h

-- an actor that there is is none that there is not
pub apart_known : (a b : Actor) → is_known a ≡ true → is_known b ≡ false → same_actor a b ≡ false
apart_known a b known isnt = false_from_ne_true (same_actor a b) (λ same. absurd (no (sym known ∙ ap is_known (actor_true a b same) ∙ isnt)))
  where
    no : true ≡ false → ⊥
    no e = cc

pub set_at : {A : Type 0} (l : List A) (i : ℕ) (a b : A) → get_elem? l i ≡ m.some a → get_elem? (set l i b) i ≡ m.some b
set_at [] i a b e = absurd (some-ne-none a (sym e))
set_at (x ∷ xs) zero a b e = refl
set_at (x ∷ xs) (suc i) a b e = set_at xs i a b e

-- the part with another phase and other counts
abbrev pub with_phase : Part → SeatPhase → ℕ → ℕ → List ℕ → ℕ → Part
with_phase p k t f l w = record { actor = p.actor; phase = k; mine = p.mine; tried = t; found = f; loaded = l; swept = w }

abbrev pub seat_of_one : View → Part → View
seat_of_one v p = record { who = who.One p; seen = v.seen; told = v.told; stage = v.stage; turns = v.turns; misses = v.misses }

pub of_one : (f : Part → Part) (v : View) (p : Part) → v.who ≡ who.One p → with_one f v ≡ seat_of_one v (f p)
of_one f v p e = ap (λ o. record { who = map_one f o; seen = v.seen; told = v.told; stage = v.stage; turns = v.turns; misses = v.misses }) e

module _ (core : Core) (seat_of : Actor → ℕ) (a : Actor) (q : Phase) (word : ℕ) (pins : Event → Bool) where
  abbrev pub changed : Core
  changed = record { word = word; pins = pins; history = core.history; phases = put a q core.phases }

  -- the parts of other seats stay as they were
  elsewhere : (j : ℕ) → seat_of a ≢ j → (ps : List Part) → EachPart (Sits core seat_of j) ps → EachPart (Sits changed seat_of j) ps
  elsewhere j apart [] h = tt
  elsewhere j apart (p ∷ ps) h =
      let other : same_actor a p.actor ≡ false = false_from_ne_true (same_actor a p.actor) (λ same. apart (ap seat_of (actor_true a p.actor same) ∙ h.0.1)) in
      ((h.0.0, h.0.1, (h.0.2.0 ∙ sym (put_other a p.actor q core.phases other), h.0.2.1)), elsewhere j apart ps h.1)

  -- and the actor's own part has its new phase
  own : (j : ℕ) (p : Part) (k : SeatPhase) (t f : ℕ) (l : List ℕ) (w : ℕ) → p.actor ≡ a → phase_of k ≡ q → Sits core seat_of j p → Sits changed seat_of j (with_phase p k t f l w)
  own j p k t f l w same is h = (h.0, h.1, (is ∙ sym (put_self a q core.phases) ∙ ap (put a q core.phases) (sym same), h.2.1))

module _ {B X : Type 0} (lists : X → List (List Event)) (base : B → X) (entries : B → List Entry) (key : B) (s : State (Option B) View) (h : Kept lists base entries key s)
    (id : ℕ) (v : View) (p : Part) (at : get_elem? s.views id ≡ m.some v) (one : v.who ≡ who.One p)
    (k : SeatPhase) (t f : ℕ) (l : List ℕ) (w : ℕ) (q : Phase) (is : phase_of k ≡ q) where
  abbrev after : View
  after = seat_of_one v (with_phase p k t f l w)

  mine : EachPart (Sits h.core h.seat_of id) (p ∷ [])
  mine = subst (λ o. EachPart (Sits h.core h.seat_of id) (parts_in o)) one (h.fits id v at).sits

  here : h.seat_of p.actor ≡ id
  here = mine.0.1

  still_out : h.turn ≢ 0 → IsOut h.turn h.holder (set s.views id after)
  still_out away = let o = h.out away in by_seat o (at_holder o)
    where
      at_holder : (o : IsOut h.turn h.holder s.views) → (h.holder ≡ id) ⊎ (h.holder ≢ id)
      at_holder o = cases_eq h.holder id

      by_seat : (o : IsOut h.turn h.holder s.views) → (h.holder ≡ id) ⊎ (h.holder ≢ id) → IsOut h.turn h.holder (set s.views id after)
      by_seat o (inl same) = record {
        out = o.out;
        view = after;
        there = ap (get_elem? (set s.views id after)) same ∙ set_at s.views id v after at;
        inside = subst (λ (u : View). u.stage ≢ stage.Away) (some-injective o.view v (sym o.there ∙ ap (get_elem? s.views) same ∙ at)) o.inside;
      }
      by_seat o (inr other) = record { out = o.out; view = o.view; there = set_else s.views id h.holder after other ∙ o.there; inside = o.inside }

  found_one : (a : Actor) → IsSome (find a (p ∷ [])) → IsSome (find a (with_phase p k t f l w ∷ []))
  found_one a = by_test (same_actor a p.actor)
    where
      by_test : (b : Bool) → IsSome (cond b (Some p) None) → IsSome (cond b (Some (with_phase p k t f l w)) None)
      by_test true some = refl
      by_test false some = cc

  still_seated : (a : Actor) → IsSeated s.views (h.seat_of a) a → IsSeated (set s.views id after) (h.seat_of a) a
  still_seated a o = by_seat (cases_eq (h.seat_of a) id)
    where
      by_seat : (h.seat_of a ≡ id) ⊎ (h.seat_of a ≢ id) → IsSeated (set s.views id after) (h.seat_of a) a
      by_seat (inl same) =
          let is_v = some-injective o.view v (sym o.there ∙ ap (get_elem? s.views) same ∙ at) in
          let was = subst (λ (u : View). IsSome (find a (parts_in u.who))) is_v o.part in
          record {
            view = after;
            there = ap (get_elem? (set s.views id after)) same ∙ set_at s.views id v after at;
            part = found_one a (subst (λ o. IsSome (find a (parts_in o))) one was);
          }
      by_seat (inr other) = record { view = o.view; there = set_else s.views id (h.seat_of a) after other ∙ o.there; part = o.part }

  module _ (word : ℕ) (pins : List ℕ) (held : Event → Bool) (words : List ℕ) where
    abbrev pub now : Core
    now = changed h.core h.seat_of p.actor q word held

    abbrev pub later : State (Option B) View
    later = record { words = words; homes = s.homes; views = set s.views id after }

    fits : (v.stage ≡ stage.Away → is_holding q ≡ false) → (j : ℕ) (u : View) → get_elem? (set s.views id after) j ≡ m.some u → Fits h.turn h.holder now h.seat_of s.homes j u
    fits free j u there = by_seat (at_set s.views id j after u there)
      where
        by_seat : ((j ≡ id) × (after ≡ u)) ⊎ ((j ≢ id) × (get_elem? s.views j ≡ m.some u)) → Fits h.turn h.holder now h.seat_of s.homes j u
        by_seat (inl it) = subst (λ x. Fits h.turn h.holder now h.seat_of s.homes j x) it.1 (subst (λ i. Fits h.turn h.holder now h.seat_of s.homes i after) (sym it.0) fit)
          where
            old : Fits h.turn h.holder h.core h.seat_of s.homes id v
            old = h.fits id v at

            turn : v.stage ≢ stage.Away → HasTurn h.turn h.holder h.core.history s.homes id after
            turn inside = let o = old.holds inside in record { out = o.out; holds = o.holds; whole = o.whole; slot = o.slot; somebody = tt }

            fit : Fits h.turn h.holder now h.seat_of s.homes id after
            fit = record {
              seen = old.seen;
              told = old.told;
              sits = (own h.core h.seat_of p.actor q word held id p k t f l w refl is mine.0, tt);
              root = tt;
              holds = turn;
              free = λ away. ap is_holding is ∙ free away;
            }
        by_seat (inr it) =
            let old = h.fits j u it.1 in
            record {
              seen = old.seen;
              told = old.told;
              sits = elsewhere h.core h.seat_of p.actor q word held j (λ same. it.0 (sym same ∙ here)) (parts_in u.who) old.sits;
              root = old.root;
              holds = old.holds;
              free = old.free;
            }

    pub keeps_one : length pins ≡ 5 → ((n : Event) → held n ≡ pins_of pins n) → CoreSound (lists (base key)) now → (v.stage ≡ stage.Away → is_holding q ≡ false) → words ≡ h.turn ∷ word ∷ pins → Kept lists base entries key later
    keeps_one five pinned sound free there = record {
      turn = h.turn;
      holder = h.holder;
      pins = pins;
      core = now;
      seat_of = h.seat_of;
      words = there;
      five = five;
      pinned = pinned;
      home = h.home;
      out = still_out;
      sound = sound;
      absent = λ a isnt. put_other p.actor a q h.core.phases (apart_known p.actor a mine.0.0 isnt) ∙ h.absent a isnt;
      seated = λ a is. still_seated a (h.seated a is);
      fits = fits free;
    }

-- ---- what the rule tells of a seat

kinds : (core : Core) (seat_of : Actor → ℕ) (j : ℕ) → AreOfKind core.phases → (ps : List Part) → EachPart (Sits core seat_of j) ps → EachPart (λ p. is_kind p.actor (phase_of p.phase) ≡ true) ps
kinds core seat_of j all [] is = tt
kinds core seat_of j all (p ∷ ps) is = (ap (is_kind p.actor) is.0.2.0 ∙ all p.actor, kinds core seat_of j all ps is.1)

-- each phase is of its actor's kind, and away from the table nobody holds pins
pub own_of : {B X : Type 0} (lists : X → List (List Event)) (base : B → X) (entries : B → List Entry) (key : B) (s : State (Option B) View) → Kept lists base entries key s → (id : ℕ) (v : View) → get_elem? s.views id ≡ m.some v → IsOwn v
own_of lists base entries key s h id v at = let fit = h.fits id v at in record { kinds = kinds h.core h.seat_of id h.sound.kinds (parts_in v.who) fit.sits; free = fit.free }
