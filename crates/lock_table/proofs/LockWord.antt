-- The steps on the Global Lock's word keep the rule.
use Rattle.std.proofs.Common.{◌≡◌, ◌==◌, ◌+◌, cond, ℕ, Bool, true, false, List, [], ◌∷◌, ◌++◌, get_or, set, refl, sym, ap, subst, ◌∙◌, Option, Some, None}
use mathlib.Core.Option as m
use lib.ListN.{get_elem?}
use prog.Atomic.{either}
use Rattle.atomic_table.specs.Table.{Allows, Me, State, keeps, step, stepped}
use Rattle.acpi_regs.specs.declared.actor.Actor.{Actor}
use Rattle.acpi_regs.specs.declared.entry.Entry.{Entry}
use Rattle.acpi_regs.specs.declared.event.Event.{Event}
use Rattle.acpi_regs.specs.declared.phase.LockPhase.TheVariants as lock
use Rattle.acpi_regs.specs.Core.{Core}
use Rattle.acpi_regs.specs.CoreEvents.{Exchange, Load, Release, exchanged, loaded, tried}
use Rattle.acpi_regs.specs.CoreSound.{CoreSound, is_word}
use Rattle.acpi_regs.specs.Phases.{Lock, put}
use Rattle.acpi_regs.proofs.Halves.{by_word}
use Rattle.acpi_regs.proofs.PinSteps.{core_known_step}
use Rattle.facs_word.specs.Word.{acquired, is_pending, released}
use Rattle.lock_table.specs.declared.view.Occupant.TheVariants as who
use Rattle.lock_table.specs.declared.view.Part.{Part}
use Rattle.lock_table.specs.declared.view.SeatPhase.TheVariants as kept
use Rattle.lock_table.specs.declared.view.View.{View}
use Rattle.lock_table.specs.Rule.{Kept, Sits}
use Rattle.lock_table.specs.Views.{EachPart, ForOne, HasLoaded, IsQuit, IsSeeking, loading, loads, parts_in, phase_of, releases, releasing, tries, trying}
use Rattle.lock_table.specs.WordPlays.{Exchanged, Loaded, Released}
use Rattle.lock_table.proofs.OneStep.{for_one, keeps_one, of_one, own_of, set_at}

-- an exchange against the loaded word, as a change of the word and of the phase
is_exchanged : (c : Core) (a : Actor) (l : ℕ) → c.phases a ≡ Lock (lock.Seeking (Some l))
    → exchanged c a (loaded (c.phases a)) ≡ record { word = cond (c.word == l) (acquired l) c.word; pins = c.pins; history = c.history; phases = put a (Lock (cond (c.word == l) (tried l) (lock.Seeking None))) c.phases }
is_exchanged c a l at = ap (λ q. exchanged c a (loaded q)) at ∙ by_test (c.word == l)
  where
    by_test : (b : Bool) → cond b (record c { word = acquired l; phases = put a (Lock (tried l)) c.phases }) (record c { phases = put a (Lock (lock.Seeking None)) c.phases })
        ≡ record { word = cond b (acquired l) c.word; pins = c.pins; history = c.history; phases = put a (Lock (cond b (tried l) (lock.Seeking None))) c.phases }
    by_test true = refl
    by_test false = refl

either_is : (b : Bool) (x y : ℕ) → either b x y ≡ cond b x y
either_is true x y = refl
either_is false x y = refl

-- the table's word has no reserved bits, so it is 0 once it is released
frees : (w : ℕ) → is_word w ≡ true → released w ≡ 0
frees w good = by_word w (λ v. released v ≡ 0) good refl refl refl

module _ {B X : Type 0} (lists : X → List (List Event)) (base : B → X) (entries : B → List Entry) (key : B) where
  abbrev Rule : State (Option B) View → Type 0
  Rule = Kept lists base entries key

  -- the lock's word
  found : (s : State (Option B) View) (h : Rule s) → get_or s.words 1 0 ≡ h.core.word
  found s h = ap (λ ws. get_or ws 1 0) h.words

  -- the phase of the one actor that sits there
  pub phase_in : (s : State (Option B) View) (h : Rule s) (id : ℕ) (v : View) (p : Part) → get_elem? s.views id ≡ m.some v → v.who ≡ who.One p → phase_of p.phase ≡ h.core.phases p.actor
  phase_in s h id v p at one = (subst (λ o. EachPart (Sits h.core h.seat_of id) (parts_in o)) one (h.fits id v at).sits).0.2.0

  good_word : (s : State (Option B) View) (h : Rule s) → is_word (get_or s.words 1 0) ≡ true
  good_word s h = ap is_word (found s h) ∙ h.sound.lock.agree.good

  pub loads_keep : (slots id : ℕ) (x : Me (Option B) View) → ForOne IsSeeking x.0.who → Allows Rule slots id x 1 (λ n. n) (Loaded (step slots 1 0 0 m.none) x)
  loads_keep slots id x seeks s h same at small =
      let one = for_one IsSeeking x.0.who seeks in
      let n = get_or s.words 1 0 in
      let after = kept_after s h at one.0 one.1 one.2.0 one.2.1 in
      (loads n x.0, keeps, tt, after, (good_word s h, refl, own_of lists base entries key _ after id (loads n x.0) (set_at s.views id x.0 (loads n x.0) at)))
    where
      kept_after : (s : State (Option B) View) (h : Rule s) → get_elem? s.views id ≡ m.some x.0 → (p : Part) → x.0.who ≡ who.One p → (l : Option ℕ) → p.phase ≡ kept.Lock (lock.Seeking l)
          → Rule (stepped s 1 (get_or s.words 1 0) id x.1 (loads (get_or s.words 1 0) x.0) keeps)
      kept_after s h at p one l is =
          let n = get_or s.words 1 0 in
          let a_phase = sym (phase_in s h id x.0 p at one) ∙ ap phase_of is in
          subst (λ u. Rule (record { words = set s.words 1 n; homes = s.homes; views = set s.views id u })) (sym (of_one (loading n) x.0 p one))
          (keeps_one lists base entries key s h id x.0 p at one (kept.Lock (lock.Seeking (Some n))) p.tried p.found (p.loaded ++ n ∷ []) p.swept (Lock (lock.Seeking (Some h.core.word)))
          (ap (λ w. Lock (lock.Seeking (Some w))) (found s h))
          h.core.word h.pins h.core.pins (set s.words 1 n) h.five h.pinned
          (core_known_step (lists (base key)) h.core (Load p.actor) tt h.sound (l, a_phase))
          (λ _. refl)
          (ap (λ ws. set ws 1 (get_or ws 1 0)) h.words))

  pub exchanges_keep : (slots id l new : ℕ) (x : Me (Option B) View) → new ≡ acquired l → ForOne (HasLoaded l) x.0.who → Allows Rule slots id x 1 (λ n. either (n == l) new n) (Exchanged (step slots 1 l new m.none) x)
  exchanges_keep slots id l new x is_new loaded_l s h same at small =
      let one = for_one (HasLoaded l) x.0.who loaded_l in
      let n = get_or s.words 1 0 in
      let after = kept_after s h at one.0 one.1 one.2 in
      (tries l n x.0, keeps, tt, after, (good_word s h, refl, own_of lists base entries key _ after id (tries l n x.0) (set_at s.views id x.0 (tries l n x.0) at)))
    where
      kept_after : (s : State (Option B) View) (h : Rule s) → get_elem? s.views id ≡ m.some x.0 → (p : Part) → x.0.who ≡ who.One p → p.phase ≡ kept.Lock (lock.Seeking (Some l))
          → Rule (stepped s 1 (either (get_or s.words 1 0 == l) new (get_or s.words 1 0)) id x.1 (tries l (get_or s.words 1 0) x.0) keeps)
      kept_after s h at p one is =
          let n = get_or s.words 1 0 in
          let a_phase = sym (phase_in s h id x.0 p at one) ∙ ap phase_of is in
          let words : set s.words 1 (either (n == l) new n) ≡ h.turn ∷ cond (h.core.word == l) (acquired l) h.core.word ∷ h.pins =
          ap (λ ws. set ws 1 (either (get_or ws 1 0 == l) new (get_or ws 1 0))) h.words
          ∙ ap (λ w. h.turn ∷ w ∷ h.pins) (either_is (h.core.word == l) new h.core.word ∙ ap (λ w. cond (h.core.word == l) w h.core.word) is_new) in
          subst (λ u. Rule (record { words = set s.words 1 (either (n == l) new n); homes = s.homes; views = set s.views id u })) (sym (of_one (trying l n) x.0 p one))
          (keeps_one lists base entries key s h id x.0 p at one (kept.Lock (cond (n == l) (tried l) (lock.Seeking None))) (p.tried + 1) n p.loaded p.swept (Lock (cond (h.core.word == l) (tried l) (lock.Seeking None)))
          (ap (λ w. Lock (cond (w == l) (tried l) (lock.Seeking None))) (found s h))
          (cond (h.core.word == l) (acquired l) h.core.word) h.pins h.core.pins (set s.words 1 (either (n == l) new n)) h.five h.pinned
          (subst (CoreSound (lists (base key))) (is_exchanged h.core p.actor l a_phase) (core_known_step (lists (base key)) h.core (Exchange p.actor) tt h.sound (l, a_phase)))
          (λ _. refl)
          words)

  pub releases_keep : (slots id : ℕ) (x : Me (Option B) View) → ForOne IsQuit x.0.who → Allows Rule slots id x 1 (λ _. 0) (Released (step slots 1 0 0 m.none) x)
  releases_keep slots id x quits s h same at small =
      let one = for_one IsQuit x.0.who quits in
      let n = get_or s.words 1 0 in
      let after = kept_after s h at one.0 one.1 one.2 in
      (releases n x.0, keeps, tt, after, (good_word s h, refl, own_of lists base entries key _ after id (releases n x.0) (set_at s.views id x.0 (releases n x.0) at)))
    where
      kept_after : (s : State (Option B) View) (h : Rule s) → get_elem? s.views id ≡ m.some x.0 → (p : Part) → x.0.who ≡ who.One p → p.phase ≡ kept.Lock lock.Quit
          → Rule (stepped s 1 0 id x.1 (releases (get_or s.words 1 0) x.0) keeps)
      kept_after s h at p one is =
          let n = get_or s.words 1 0 in
          let a_phase = sym (phase_in s h id x.0 p at one) ∙ ap phase_of is in
          subst (λ u. Rule (record { words = set s.words 1 0; homes = s.homes; views = set s.views id u })) (sym (of_one (releasing n) x.0 p one))
          (keeps_one lists base entries key s h id x.0 p at one (kept.Lock (lock.Gone (is_pending n))) (p.tried + 1) n p.loaded p.swept (Lock (lock.Gone (is_pending h.core.word)))
          (ap (λ w. Lock (lock.Gone (is_pending w))) (found s h))
          0 h.pins h.core.pins (set s.words 1 0) h.five h.pinned
          (subst (λ w. CoreSound (lists (base key)) (record h.core { word = w; phases = put p.actor (Lock (lock.Gone (is_pending h.core.word))) h.core.phases }))
          (frees h.core.word h.sound.lock.agree.good) (core_known_step (lists (base key)) h.core (Release p.actor) tt h.sound a_phase))
          (λ _. refl)
          (ap (λ ws. set ws 1 0) h.words))
