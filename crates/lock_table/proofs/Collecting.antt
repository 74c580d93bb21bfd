-- A collect of a pin word keeps the rule, and tells that its events may be latched.
use Rattle.std.proofs.Common.{◌≡◌, ◌≢◌, ◌⊎◌, inl, inr, ◌==◌, ◌+◌, ◌<◌, ◌≤◌, ◌||◌, ◌&&◌, not, nat_lt, cond, ℕ, Bool, true, false, List, [], ◌∷◌, ◌++◌, length, get_or, set, reverse, refl, sym, ap, subst, ◌∙◌, arith, Option, Some, IsSome, length-set}
use mathlib.Core.Option as m
use mathlib.Core.Option.{some-injective}
use lib.ListN.{get_elem?}
use Rattle.std.proofs.lemmas.Bool.{both_ways, cases_Bool, cases_eq, le-ltb}
use Rattle.std.proofs.lemmas.Nat.Bits.{bit_at-zero}
use Rattle.atomic_table.specs.Table.{Allows, Me, State, keeps, step, stepped}
use Rattle.acpi_regs.specs.declared.actor.Actor.{Actor}
use Rattle.acpi_regs.specs.declared.actor.Actor.TheVariants as actor
use Rattle.acpi_regs.specs.declared.entry.Entry.{Entry}
use Rattle.acpi_regs.specs.declared.event.Event.{Event}
use Rattle.acpi_regs.specs.Actor.{same_actor}
use Rattle.acpi_regs.specs.CoreEvents.{Collect, OthersFree, has_collected, in_hand, is_holding, is_host, one as count_one, past_in}
use Rattle.acpi_regs.specs.CoreSound.{hands, latches, listed_pulses}
use Rattle.acpi_regs.specs.Event.{bit_of, word_of}
use Rattle.acpi_regs.specs.Phases.{Holding, Phase}
use Rattle.acpi_regs.proofs.Latching.{latches_within}
use Rattle.acpi_regs.proofs.LockActors.{actor_self, actor_true}
use Rattle.acpi_regs.proofs.PinSteps.{core_known_step}
use Rattle.lock_table.specs.declared.view.Occupant.{Occupant}
use Rattle.lock_table.specs.declared.view.Occupant.TheVariants as who
use Rattle.lock_table.specs.declared.view.Part.{Part}
use Rattle.lock_table.specs.declared.view.SeatPhase.{SeatPhase}
use Rattle.lock_table.specs.declared.view.SeatPhase.TheVariants as kept
use Rattle.lock_table.specs.declared.view.Stage.{Stage}
use Rattle.lock_table.specs.declared.view.Stage.TheVariants as stage
use Rattle.lock_table.specs.declared.view.View.{View}
use Rattle.lock_table.specs.Pins.{pins_of}
use Rattle.lock_table.specs.Rule.{IsSeated, Kept, Sits}
use Rattle.lock_table.specs.Views.{EachPart, ForOne, HasCollected, HoldsInTurn, NotHolding, collects, find, hand_of, is_known, parts_in, phase_of, sweeping}
use Rattle.lock_table.specs.WordPlays.{AreFewer, Swept}
use Rattle.lock_table.proofs.LockWord.{phase_in}
use Rattle.lock_table.proofs.OneStep.{for_one, keeps_one, of_one, own_of, set_at}
use Rattle.lock_table.proofs.PinWord.{found, set_past_two}
use Rattle.lock_table.proofs.PinWords.{cleared, hand_more, words_more}

-- ---- what a kept phase means

collected_meant : (k : SeatPhase) (u : ℕ) → nat_lt u (length (hand_of k)) ≡ has_collected (phase_of k) u
collected_meant (kept.Lock p) u = le-ltb u 0 (omega arith)
collected_meant kept.Free u = le-ltb u 0 (omega arith)
collected_meant (kept.Holding hand) u = refl
collected_meant (kept.Pulsed ps) u = le-ltb u 0 (omega arith)

hand_meant : (k : SeatPhase) (n : Event) → pins_of (hand_of k) n ≡ in_hand (phase_of k) n
hand_meant (kept.Lock p) n = ap (λ t. t == 1) (bit_at-zero (bit_of n))
hand_meant kept.Free n = ap (λ t. t == 1) (bit_at-zero (bit_of n))
hand_meant (kept.Holding hand) n = refl
hand_meant (kept.Pulsed ps) n = ap (λ t. t == 1) (bit_at-zero (bit_of n))

-- ---- who holds pins

host_known : (a : Actor) → is_host a ≡ true → is_known a ≡ true
host_known actor.Int is = refl
host_known actor.Poll is = refl
host_known (actor.Worker k) is = cc
host_known actor.Ec is = cc
host_known (actor.Device k) is = cc
host_known (actor.Firmware k) is = cc

-- what holds of each part holds of the part of an actor who sits there
of_found : (P : Part → Type 0) (a : Actor) (ps : List Part) → EachPart P ps → IsSome (find a ps) → (p : Part) × P p × (p.actor ≡ a)
of_found P a [] h some = cc
of_found P a (p ∷ ps) h some = by_test (of_found P a ps h.1) (same_actor a p.actor) refl some
  where
    by_test : (IsSome (find a ps) → (x : Part) × P x × (x.actor ≡ a)) → (b : Bool) → same_actor a p.actor ≡ b → IsSome (cond b (Some p) (find a ps)) → (x : Part) × P x × (x.actor ≡ a)
    by_test next true is some = (p, h.0, sym (actor_true a p.actor is))
    by_test next false is some = next some

away_of : (g : Stage) → (g ≢ stage.Away → ⊥) → g ≡ stage.Away
away_of stage.Away h = refl
away_of stage.Carrying h = absurd (h (λ e. cc))
away_of stage.Inside h = absurd (h (λ e. cc))

unheld : (g : Stage) (w : Occupant) → g ≡ stage.Away → HoldsInTurn g w → EachPart NotHolding (parts_in w)
unheld g (who.Root ps) away h = h
unheld g (who.One p) away h = (h away, tt)
unheld g who.Nobody away h = tt

both : (P Q : Part → Type 0) (ps : List Part) → EachPart P ps → EachPart Q ps → EachPart (λ p. P p × Q p) ps
both P Q [] h k = tt
both P Q (p ∷ ps) h k = ((h.0, k.0), both P Q ps h.1 k.1)

-- a host in whose hand an event is
in_hands : (phases : Actor → Phase) (a : Actor) (n : Event) → is_host a ≡ true → in_hand (phases a) n ≡ true → 1 ≤ hands phases n
in_hands phases actor.Int n is its = let here = ap count_one its in omega arith
in_hands phases actor.Poll n is its = let here = ap count_one its in omega arith
in_hands phases (actor.Worker k) n is its = cc
in_hands phases actor.Ec n is its = cc
in_hands phases (actor.Device k) n is its = cc
in_hands phases (actor.Firmware k) n is its = cc

module _ {B X : Type 0} (lists : X → List (List Event)) (base : B → X) (entries : B → List Entry) (key : B) where
  abbrev Rule : State (Option B) View → Type 0
  Rule = Kept lists base entries key

  -- while a seat has the turn, no actor of another seat holds pins
  others_free : (s : State (Option B) View) (h : Rule s) (id : ℕ) (v : View) (p : Part) → get_elem? s.views id ≡ m.some v → v.who ≡ who.One p → v.stage ≢ stage.Away → OthersFree h.core.phases p.actor
  others_free s h id v p at one inside b apart = by_host (cases_Bool (is_host b))
    where
      seated : is_known b ≡ true → is_holding (h.core.phases b) ≡ false
      seated known = by_seat (cases_eq (h.seat_of b) id)
        where
          o : IsSeated s.views (h.seat_of b) b
          o = h.seated b known

          by_seat : (h.seat_of b ≡ id) ⊎ (h.seat_of b ≢ id) → is_holding (h.core.phases b) ≡ false
          by_seat (inl same) =
              let is_v = some-injective o.view v (sym o.there ∙ ap (get_elem? s.views) same ∙ at) in
              let part = subst (λ w. IsSome (find b (parts_in w))) one (subst (λ (u : View). IsSome (find b (parts_in u.who))) is_v o.part) in
              let found = of_found (λ x. x ≡ p) b (p ∷ []) (refl, tt) part in
              absurd (both_ways (same_actor p.actor b) apart (ap (same_actor p.actor) (sym (sym (ap (λ (x : Part). x.actor) found.1) ∙ found.2)) ∙ actor_self p.actor))
          by_seat (inr other) =
              let fit = h.fits (h.seat_of b) o.view o.there in
              let away = away_of o.view.stage (λ out. other ((fit.holds out).holds ∙ sym ((h.fits id v at).holds inside).holds)) in
              let found = of_found (λ x. Sits h.core h.seat_of (h.seat_of b) x × NotHolding x) b (parts_in o.view.who)
              (both (Sits h.core h.seat_of (h.seat_of b)) NotHolding (parts_in o.view.who) fit.sits (unheld o.view.stage o.view.who away fit.free)) o.part in
              ap is_holding (ap h.core.phases (sym found.2) ∙ sym found.1.0.2.0) ∙ found.1.1

      by_host : (is_host b ≡ true) ⊎ (is_host b ≡ false) → is_holding (h.core.phases b) ≡ false
      by_host (inl is) = seated (host_known b is)
      by_host (inr isnt) = h.sound.pinned.hosts b isnt

  pub collects_keep : (slots id i w : ℕ) (x : Me (Option B) View) → i ≡ w + 2 → w < 5 → x.0.stage ≡ stage.Inside → ForOne (HasCollected w) x.0.who
      → Allows Rule slots id x i (λ _. 0) (Swept (lists (base key)) (step slots i 0 0 m.none) x)
  collects_keep slots id i w x place below inside may s h same at small =
      let sole = for_one (HasCollected w) x.0.who may in
      let n = get_or s.words i 0 in
      let after = kept_after s h at sole.0 sole.1 sole.2.0 sole.2.1 in
      (collects n x.0, keeps, tt, after, (refl, fewer s h at sole.0 sole.1 sole.2.0 after, own_of lists base entries key _ after id (collects n x.0) (set_at s.views id x.0 (collects n x.0) at)))
    where
      out : x.0.stage ≢ stage.Away
      out away = not_away (sym inside ∙ away)
        where
          not_away : stage.Inside ≡ stage.Away → ⊥
          not_away e = cc

      kept_after : (s : State (Option B) View) (h : Rule s) → get_elem? s.views id ≡ m.some x.0 → (p : Part) → x.0.who ≡ who.One p → is_host p.actor ≡ true → length (hand_of p.phase) ≡ w
          → Rule (stepped s i 0 id x.1 (collects (get_or s.words i 0) x.0) keeps)
      kept_after s h at p one host len =
          let n = get_or s.words i 0 in
          let L = lists (base key) in
          let hand = hand_of p.phase in
          let c = h.core in
          let was = phase_in lists base entries key s h id x.0 p at one in
          let q = Holding (λ u. has_collected (c.phases p.actor) u || (u == w)) (λ y. in_hand (c.phases p.actor) y || (c.pins y && (word_of y == w))) in
          let collected_is : ◌≡◌ {A = ℕ → Bool} (λ u. nat_lt u (length (hand ++ n ∷ []))) (λ u. has_collected (c.phases p.actor) u || (u == w)) =
          words_more hand w n (sym len) ∙ (λ j u. (collected_meant p.phase u ∙ ap (λ ph. has_collected ph u) was) j || (u == w)) in
          let hand_is : ◌≡◌ {A = Event → Bool} (pins_of (hand ++ n ∷ [])) (λ y. in_hand (c.phases p.actor) y || (c.pins y && (word_of y == w))) =
          hand_more h.pins hand w n (sym len) (found lists base entries key s h i w place)
          ∙ (λ j y. (hand_meant p.phase y ∙ ap (λ ph. in_hand ph y) was) j || (sym (h.pinned y) j && (word_of y == w))) in
          let unswept : has_collected (c.phases p.actor) w ≡ false = ap (λ ph. has_collected ph w) (sym was) ∙ sym (collected_meant p.phase w) ∙ le-ltb w (length hand) (omega arith) in
          let within : w < length h.pins = let five = h.five in omega arith in
          let words : set s.words i 0 ≡ h.turn ∷ c.word ∷ set h.pins w 0 = ap (λ ws. set ws i 0) h.words ∙ set_past_two h.turn c.word h.pins i w 0 place in
          subst (λ u. Rule (record { words = set s.words i 0; homes = s.homes; views = set s.views id u })) (sym (of_one (sweeping n) x.0 p one))
          (keeps_one lists base entries key s h id x.0 p at one (kept.Holding (hand ++ n ∷ [])) p.tried p.found p.loaded (p.swept + 1) q
          (λ j. Holding (collected_is j) (hand_is j))
          c.word (set h.pins w 0) (λ y. c.pins y && not (word_of y == w)) (set s.words i 0)
          (length-set h.pins w 0 ∙ h.five)
          (λ y. ap (λ b. b && not (word_of y == w)) (h.pinned y) ∙ sym (ap (λ f. f y) (cleared h.pins w within)))
          (core_known_step L c (Collect p.actor w) tt h.sound (host, others_free s h id x.0 p at one out, unswept))
          (λ away. absurd (out away))
          words)

      fewer : (s : State (Option B) View) (h : Rule s) → get_elem? s.views id ≡ m.some x.0 → (p : Part) → x.0.who ≡ who.One p → is_host p.actor ≡ true
          → (after : Rule (stepped s i 0 id x.1 (collects (get_or s.words i 0) x.0) keeps)) → ForOne (λ r. AreFewer (lists (base key)) x.0.seen (hand_of r.phase)) (collects (get_or s.words i 0) x.0).who
      fewer s h at p alone host after =
          subst (ForOne (λ r. AreFewer (lists (base key)) x.0.seen (hand_of r.phase))) (sym (ap (λ (v : View). v.who) (of_one (sweeping n) x.0 p alone))) fewer_there
        where
          n : ℕ
          n = get_or s.words i 0

          after_view : View
          after_view = collects n x.0

          fewer_there : AreFewer (lists (base key)) x.0.seen (hand_of p.phase ++ n ∷ [])
          fewer_there e its =
              let L = lists (base key) in
              let c = after.core in
              let fit = after.fits id after_view (set_at s.views id x.0 after_view at) in
              let turn = fit.holds out in
              let sits = (subst (λ o. EachPart (Sits c after.seat_of id) (parts_in o)) (ap (λ (v : View). v.who) (of_one (sweeping n) x.0 p alone)) fit.sits).0 in
              let held : in_hand (c.phases p.actor) e ≡ true = ap (λ ph. in_hand ph e) (sym sits.2.0) ∙ its in
              let some = in_hands c.phases p.actor e host held in
              let few : latches e (past_in c) + (count_one (c.pins e) + hands c.phases e) ≤ listed_pulses L e = latches_within L c.pins (past_in c) c.phases e after.sound.pinned in
              let here : latches e (reverse x.0.seen) ≡ latches e (past_in c) = ap (λ h. latches e (reverse h)) turn.whole in
              omega arith

  -- the same, where the lists go by another name
  pub collects_keep_as : (slots id i w : ℕ) (x : Me (Option B) View) (named : List (List Event)) → named ≡ lists (base key) → i ≡ w + 2 → w < 5 → x.0.stage ≡ stage.Inside → ForOne (HasCollected w) x.0.who
      → Allows Rule slots id x i (λ _. 0) (Swept named (step slots i 0 0 m.none) x)
  collects_keep_as slots id i w x named are place below inside may = subst (λ L. Allows Rule slots id x i (λ _. 0) (Swept L (step slots i 0 0 m.none) x)) (sym are) (collects_keep slots id i w x place below inside may)
