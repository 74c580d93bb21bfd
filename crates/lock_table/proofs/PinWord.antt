-- A pulse and a collect of a pin word keep the rule.
use Rattle.std.proofs.Common.{◌≡◌, ◌==◌, ◌+◌, ◌*◌, ◌%◌, ◌^◌, ◌<◌, ◌||◌, not, ℕ, suc, List, [], ◌∷◌, ◌++◌, length, get_or, set, bit_or, refl, sym, ap, subst, ◌∙◌, arith, Option, Some, slice_get, length-set}
use mathlib.Core.Option as m
use mathlib.Core.Option.{some-injective}
use lib.ListN.{get_elem?}
use Rattle.std.specs.Int.{bit_at}
use Rattle.atomic_table.specs.Table.{Allows, Me, State, keeps, step, stepped}
use Rattle.acpi_regs.specs.declared.actor.Actor.TheVariants as actor
use Rattle.acpi_regs.specs.declared.entry.Entry.{Entry}
use Rattle.acpi_regs.specs.declared.event.Event.{Event}
use Rattle.acpi_regs.specs.declared.event.Event.TheVariants as event
use Rattle.acpi_regs.specs.Core.{all_events}
use Rattle.acpi_regs.specs.CoreEvents.{Pulses, list_of, next_pulse, one, pulsed, pulses_in}
use Rattle.acpi_regs.specs.CoreSound.{CoreSound}
use Rattle.acpi_regs.specs.Event.{bit_of, event_rank, same_event, word_of}
use Rattle.acpi_regs.specs.Phases.{Pulsed, put}
use Rattle.acpi_regs.proofs.PinSteps.{core_known_step}
use Rattle.lock_table.specs.declared.view.Occupant.TheVariants as who
use Rattle.lock_table.specs.declared.view.Part.{Part}
use Rattle.lock_table.specs.declared.view.SeatPhase.{SeatPhase}
use Rattle.lock_table.specs.declared.view.SeatPhase.TheVariants as kept
use Rattle.lock_table.specs.declared.view.View.{View}
use Rattle.lock_table.specs.Rule.{Kept}
use Rattle.lock_table.specs.Views.{ForOne, IsNext, phase_of, pulses, pulses_of, pulsing}
use Rattle.lock_table.specs.WordPlays.{Raised}
use Rattle.lock_table.proofs.LockWord.{phase_in}
use Rattle.lock_table.proofs.OneStep.{for_one, keeps_one, of_one, own_of, set_at}
use Rattle.lock_table.proofs.PinWords.{set_in}

past_two : (a b : ℕ) (l : List ℕ) (i w : ℕ) → i ≡ w + 2 → get_or (a ∷ b ∷ l) i 0 ≡ get_or l w 0
past_two a b l i w e = let two : i ≡ suc (suc w) = omega arith in ap (λ j. get_or (a ∷ b ∷ l) j 0) two

pub set_past_two : (a b : ℕ) (l : List ℕ) (i w x : ℕ) → i ≡ w + 2 → set (a ∷ b ∷ l) i x ≡ a ∷ b ∷ set l w x
set_past_two a b l i w x e = let two : i ≡ suc (suc w) = omega arith in ap (λ j. set (a ∷ b ∷ l) j x) two

word_small : (n : Event) → event_rank n < all_events → word_of n < 5
word_small (event.Fixed f) h = omega arith
word_small (event.Gpe n) h = omega arith

pulses_meant : (k : SeatPhase) → pulses_of k ≡ pulses_in (phase_of k)
pulses_meant (kept.Lock p) = refl
pulses_meant kept.Free = refl
pulses_meant (kept.Holding hand) = refl
pulses_meant (kept.Pulsed ps) = refl

module _ {B X : Type 0} (lists : X → List (List Event)) (base : B → X) (entries : B → List Entry) (key : B) where
  abbrev Rule : State (Option B) View → Type 0
  Rule = Kept lists base entries key

  -- a pin word
  pub found : (s : State (Option B) View) (h : Rule s) (i w : ℕ) → i ≡ w + 2 → get_or s.words i 0 ≡ get_or h.pins w 0
  found s h i w at = ap (λ ws. get_or ws i 0) h.words ∙ past_two h.turn h.core.word h.pins i w at

  pub pulses_keep : (slots id i mask : ℕ) (e : Event) (x : Me (Option B) View) → i ≡ word_of e + 2 → mask ≡ 1 * 2 ^ bit_of e % 2 ^ 64 → event_rank e < all_events → ForOne (IsNext (lists (base key)) e) x.0.who
      → Allows Rule slots id x i (λ n. bit_or n mask) (Raised e (step slots i mask 0 m.none) x)
  pulses_keep slots id i mask e x place is_mask known next s h same at small =
      let one = for_one (IsNext (lists (base key)) e) x.0.who next in
      let n = get_or s.words i 0 in
      let clear = not (bit_at n (bit_of e) == 1) in
      let after = kept_after s h at one.0 one.1 one.2.0 one.2.1 one.2.2 in
      (pulses e clear x.0, keeps, tt, after, (refl, own_of lists base entries key _ after id (pulses e clear x.0) (set_at s.views id x.0 (pulses e clear x.0) at)))
    where
      kept_after : (s : State (Option B) View) (h : Rule s) → get_elem? s.views id ≡ m.some x.0 → (p : Part) → x.0.who ≡ who.One p
          → (d : ℕ) → p.actor ≡ actor.Device d → slice_get (list_of (lists (base key)) d) (length (pulses_of p.phase)) ≡ Some e
          → Rule (stepped s i (bit_or (get_or s.words i 0) mask) id x.1 (pulses e (not (bit_at (get_or s.words i 0) (bit_of e) == 1)) x.0) keeps)
      kept_after s h at p one d device next =
          let n = get_or s.words i 0 in
          let clear = not (bit_at n (bit_of e) == 1) in
          let w = word_of e in
          let pins = set h.pins w (bit_or (get_or h.pins w 0) mask) in
          let L = lists (base key) in
          let before = pulses_in (h.core.phases (actor.Device d)) in
          let q = Pulsed (before ++ record { event = e; clear = not (h.core.pins e) } ∷ []) in
          let found_n = found s h i w place in
          let same_pulses : pulses_of p.phase ≡ before = pulses_meant p.phase ∙ ap pulses_in (phase_in lists base entries key s h id x.0 p at one ∙ ap h.core.phases device) in
          let same_pin : (bit_at n (bit_of e) == 1) ≡ h.core.pins e = ap (λ t. bit_at t (bit_of e) == 1) found_n ∙ sym (h.pinned e) in
          let is_next : next_pulse L h.core d ≡ Some e = ap (λ ps. slice_get (list_of L d) (length ps)) (sym same_pulses) ∙ next in
          let within : w < length h.pins = let five = h.five in let below = word_small e known in omega arith in
          let words : set s.words i (bit_or n mask) ≡ h.turn ∷ h.core.word ∷ pins =
          ap (λ ws. set ws i (bit_or (get_or ws i 0) mask)) h.words
          ∙ ap (λ t. set (h.turn ∷ h.core.word ∷ h.pins) i (bit_or t mask)) (past_two h.turn h.core.word h.pins i w place)
          ∙ set_past_two h.turn h.core.word h.pins i w (bit_or (get_or h.pins w 0) mask) place in
          subst (λ u. Rule (record { words = set s.words i (bit_or n mask); homes = s.homes; views = set s.views id u })) (sym (of_one (pulsing e clear) x.0 p one))
          (keeps_one lists base entries key s h id x.0 p at one (kept.Pulsed (pulses_of p.phase ++ record { event = e; clear = clear } ∷ [])) p.tried p.found p.loaded p.swept q
          (λ j. Pulsed (same_pulses j ++ record { event = e; clear = not (same_pin j) } ∷ []))
          h.core.word pins (λ y. h.core.pins y || same_event y e) (set s.words i (bit_or n mask))
          (length-set h.pins w (bit_or (get_or h.pins w 0) mask) ∙ h.five)
          (λ y. ap (λ b. b || same_event y e) (h.pinned y) ∙ sym (ap (λ f. f y) (set_in h.pins e w mask refl is_mask within)))
          (subst (λ a. CoreSound L (record { word = h.core.word; pins = λ y. h.core.pins y || same_event y e; history = h.core.history; phases = put a q h.core.phases })) (sym device)
          (subst (λ o. CoreSound L (pulsed h.core d o)) is_next
          (core_known_step L h.core (Pulses d) (λ y is. subst (λ z. event_rank z < all_events) (same_some e y (sym is_next ∙ is)) known) h.sound (e, is_next))))
          (λ _. refl)
          words)
        where
          same_some : (a b : Event) → Some a ≡ Some b → a ≡ b
          same_some a b e = cc
