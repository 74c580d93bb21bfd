-- A pulse, a collect, and each event of a core keep its pins and hands sound.
use Rattle.std.proofs.Common.{ℕ, zero, suc, ◌+◌, ◌<◌, ◌≤◌, ◌≡◌, ◌==◌, ◌&&◌, ◌||◌, Bool, true, false, not, cond, List, [], ◌∷◌, ◌++◌, length, unwrap_or, slice_get, Option, Some, None, refl, sym, ap, ◌∙◌, subst, arith}
use Rattle.std.proofs.lemmas.Bool.{eqb-true, eqb-false, ne_eqb}
use Rattle.std.proofs.lemmas.Option.{slice_get_within}
use Rattle.acpi_regs.specs.declared.actor.Actor.{Actor}
use Rattle.acpi_regs.specs.declared.actor.Actor.TheVariants as actor
use Rattle.acpi_regs.specs.declared.entry.Deed.{Deed}
use Rattle.acpi_regs.specs.declared.event.Event.{Event}
use Rattle.acpi_regs.specs.declared.phase.LockPhase.TheVariants as phase
use Rattle.acpi_regs.specs.declared.phase.Pulse.{Pulse}
use Rattle.acpi_regs.specs.Actor.{same_actor}
use Rattle.acpi_regs.specs.Core.{Core, all_events, first_core, no_event}
use Rattle.acpi_regs.specs.CoreEvents.{Collect, CoreEvent, Exchange, InRange, IsKnown, IsTurn, Load, MayHappen, OthersFree, Pulses, Release, Turn, collected, exchanged, happens, has_collected, in_hand, is_holding, is_host, list_of, loaded, next_pulse, one, past_in, pulsed, pulses_in, tried, turned}
use Rattle.facs_word.specs.Word.{acquired}
use Rattle.acpi_regs.specs.CoreSound.{CoreSound, IsStart, PinsSound, all_clear, all_pulses, hands, sum_below, times_clear, times_pulsed}
use Rattle.acpi_regs.specs.Event.{event_rank, same_event, word_of}
use Rattle.acpi_regs.specs.Phases.{Free, Holding, Lock, Phase, Pulsed, first_phase, put}
use Rattle.acpi_regs.proofs.LockActors.{actor_true, by_cases, put_other, put_self}
use Rattle.acpi_regs.proofs.LockTurns.{first_kinds, first_lock, kinds_step, lock_step, turned_kinds, turned_lock}
use Rattle.acpi_regs.proofs.Pins.{event_swap, event_true, same_put, still, turned_pins}

both : (x : Bool) → x ≡ true → x ≡ false → ⊥
both x p q = cc

-- ---- a sum in which one part changed

pub sum_apart : (f g : ℕ → ℕ) (k n : ℕ) → ((j : ℕ) → (j == k) ≡ false → g j ≡ f j) → n ≤ k → sum_below g n ≡ sum_below f n
sum_apart f g k zero same most = refl
sum_apart f g k (suc n) same most = let rest = sum_apart f g k n same (omega (arith, most)) in let here = same n (ne_eqb n k (λ e. omega (arith, most, e))) in omega arith

pub sum_changed : (f g : ℕ → ℕ) (k n : ℕ) → ((j : ℕ) → (j == k) ≡ false → g j ≡ f j) → k < n → sum_below g n + f k ≡ sum_below f n + g k
sum_changed f g k zero same less = absurd (omega (arith, less))
sum_changed f g k (suc n) same less =
    by_cases (n == k) (sum_below g (suc n) + f k ≡ sum_below f (suc n) + g k)
    (λ is. let e = eqb-true n k is in let rest = sum_apart f g k n same (omega (arith, e)) in let gs = ap g e in let fs = ap f e in omega arith)
    (λ apart. let rest = sum_changed f g k n same (let ne = eqb-false n k apart in grind (arith, less, ne)) in let here = same n apart in omega arith)

-- ---- a pulse

clear-append : (n : Event) (ps : List Pulse) (p : Pulse) → times_clear n (ps ++ p ∷ []) ≡ times_clear n ps + one (p.clear && same_event p.event n)
clear-append n [] p = omega arith
clear-append n (q ∷ ps) p = let rest = clear-append n ps p in omega arith

pulsed-append : (n : Event) (ps : List Pulse) (p : Pulse) → times_pulsed n (ps ++ p ∷ []) ≡ times_pulsed n ps + one (same_event p.event n)
pulsed-append n [] p = omega arith
pulsed-append n (q ∷ ps) p = let rest = pulsed-append n ps p in omega arith

start_more : (events : List Event) (ps : List Pulse) (p : Pulse) → IsStart events ps → slice_get events (length ps) ≡ Some p.event → IsStart events (ps ++ p ∷ [])
start_more [] [] p start next = cc
start_more (n ∷ events) [] p start next = (some-injective next, tt)
  where
    some-injective : Some n ≡ Some p.event → p.event ≡ n
    some-injective e = cc
start_more [] (q ∷ ps) p start next = start
start_more (n ∷ events) (q ∷ ps) p start next = (start.0, start_more events ps p start.1 next)

-- a device with a pulse has a list
pub device_of : (lists : List (List Event)) (k i : ℕ) (x : Event) → slice_get (list_of lists k) i ≡ Some x → k < length lists
device_of lists k i x next = at (slice_get lists k) refl next
  where
    at : (o : Option (List Event)) → slice_get lists k ≡ o → slice_get (unwrap_or o []) i ≡ Some x → k < length lists
    at None is next = cc
    at (Some list) is next = slice_get_within lists k list is

module _ (lists : List (List Event)) (c : Core) (k : ℕ) (x : Event) (next : next_pulse lists c k ≡ Some x) (h : PinsSound lists c.pins (past_in c) c.phases) where
  abbrev after : Actor → Phase
  after = (pulsed c k (Some x)).phases

  pulse : Pulse
  pulse = record { event = x; clear = not (c.pins x) }

  less : k < length lists
  less = device_of lists k (length (pulses_in (c.phases (actor.Device k)))) x next

  now : pulses_in (after (actor.Device k)) ≡ pulses_in (c.phases (actor.Device k)) ++ record { event = x; clear = not (c.pins x) } ∷ []
  now = ap pulses_in (put_self (actor.Device k) _ c.phases)

  apart_devices : (j : ℕ) → (j == k) ≡ false → same_actor (actor.Device k) (actor.Device j) ≡ false
  apart_devices j apart = ne_eqb k j (λ e. eqb-false j k apart (sym e))

  there : (j : ℕ) → (j == k) ≡ false → pulses_in (after (actor.Device j)) ≡ pulses_in (c.phases (actor.Device j))
  there j apart = ap pulses_in (put_other (actor.Device k) (actor.Device j) _ c.phases (apart_devices j apart))

  clear_more : (n : Event) → all_clear lists after n ≡ all_clear lists c.phases n + one (not (c.pins x) && same_event x n)
  clear_more n =
      let sum = sum_changed (λ j. times_clear n (pulses_in (c.phases (actor.Device j)))) (λ j. times_clear n (pulses_in (after (actor.Device j)))) k (length lists) (λ j apart. ap (times_clear n) (there j apart)) less in
      let here = ap (times_clear n) now ∙ clear-append n (pulses_in (c.phases (actor.Device k))) (record { event = x; clear = not (c.pins x) }) in
      omega arith

  pulse_more : (n : Event) → all_pulses lists after n ≡ all_pulses lists c.phases n + one (same_event x n)
  pulse_more n =
      let sum = sum_changed (λ j. times_pulsed n (pulses_in (c.phases (actor.Device j)))) (λ j. times_pulsed n (pulses_in (after (actor.Device j)))) k (length lists) (λ j apart. ap (times_pulsed n) (there j apart)) less in
      let here = ap (times_pulsed n) now ∙ pulsed-append n (pulses_in (c.phases (actor.Device k))) (record { event = x; clear = not (c.pins x) }) in
      omega arith

  pin_one : (n : Event) → one (c.pins n || same_event n x) ≡ one (c.pins n) + one (not (c.pins x) && same_event x n)
  pin_one n = by_cases (same_event x n) (one (c.pins n || same_event n x) ≡ one (c.pins n) + one (not (c.pins x) && same_event x n)) (λ is. at (c.pins n) (c.pins x) (same_event n x) (same_event x n) (ap c.pins (event_true x n is)) (sym (event_swap x n) ∙ is) is) (λ isnt. none (c.pins n) (c.pins x) (same_event n x) (same_event x n) (sym (event_swap x n) ∙ isnt) isnt)
    where
      at : (p q b b' : Bool) → q ≡ p → b ≡ true → b' ≡ true → one (p || b) ≡ one p + one (not q && b')
      at true true b b' e is is' = refl
      at true false b b' e is is' = cc
      at false true b b' e is is' = cc
      at false false b b' e is is' = let l = ap one is in let r = ap one is' in omega arith

      none : (p q b b' : Bool) → b ≡ false → b' ≡ false → one (p || b) ≡ one p + one (not q && b')
      none true true b b' is is' = refl
      none true false b b' is is' = let r = ap one is' in omega arith
      none false true b b' is is' = let l = ap one is in omega arith
      none false false b b' is is' = let l = ap one is in let r = ap one is' in omega arith

  -- where a pulse finds its pin set, one before it found it clear
  found : (n : Event) → (1 ≤ all_pulses lists c.phases n → 1 ≤ all_clear lists c.phases n) → 1 ≤ all_pulses lists c.phases n + one (same_event x n) → 1 ≤ all_clear lists c.phases n + one (not (c.pins x) && same_event x n)
  found n before some = by_cases (same_event x n) (1 ≤ all_clear lists c.phases n + one (not (c.pins x) && same_event x n)) (λ is. at (c.pins x) refl is) (λ isnt. let none = ap one isnt in let old = before (omega arith) in omega arith)
    where
      at : (q : Bool) → c.pins x ≡ q → same_event x n ≡ true → 1 ≤ all_clear lists c.phases n + one (not q && same_event x n)
      at true set is = let all = h.counts n in let pin = ap (λ y. one (c.pins y)) (sym (event_true x n is)) ∙ ap one set in omega arith
      at false clear is = let here = ap one is in omega arith

  hands_there : (b : Actor) (n : Event) → in_hand (after b) n ≡ in_hand (c.phases b) n
  hands_there b n = by_cases (same_actor (actor.Device k) b) (in_hand (after b) n ≡ in_hand (c.phases b) n) (λ is. subst (λ y. in_hand (after y) n ≡ in_hand (c.phases y) n) (actor_true (actor.Device k) b is) (ap (λ p. in_hand p n) (put_self (actor.Device k) _ c.phases) ∙ sym (none_in (c.phases (actor.Device k)) (h.hosts (actor.Device k) refl)))) (λ apart. ap (λ p. in_hand p n) (put_other (actor.Device k) b _ c.phases apart))
    where
      none_in : (p : Phase) → is_holding p ≡ false → in_hand p n ≡ false
      none_in (Holding words hand) isnt = cc
      none_in (Lock p) isnt = refl
      none_in Free isnt = refl
      none_in (Pulsed ps) isnt = refl

  start_there : (j : ℕ) → IsStart (list_of lists j) (pulses_in (after (actor.Device j)))
  start_there j = by_cases (j == k) (IsStart (list_of lists j) (pulses_in (after (actor.Device j)))) (λ is. subst (λ i. IsStart (list_of lists i) (pulses_in (after (actor.Device i)))) (sym (eqb-true j k is)) (subst (IsStart (list_of lists k)) (sym now) (start_more (list_of lists k) (pulses_in (c.phases (actor.Device k))) (record { event = x; clear = not (c.pins x) }) (h.start k) next))) (λ apart. subst (IsStart (list_of lists j)) (sym (there j apart)) (h.start j))

  pub pulse_keeps : event_rank x < all_events → PinsSound lists (pulsed c k (Some x)).pins (past_in c) after
  pulse_keeps known = record {
    start = start_there;
    counts = λ n. clear_more n ∙ (let old = h.counts n in let pin = pin_one n in let int = ap one (hands_there actor.Int n) in let poll = ap one (hands_there actor.Poll n) in omega arith);
    some_clear = λ n some. subst (λ y. 1 ≤ y) (sym (clear_more n)) (found n (h.some_clear n) (subst (λ y. 1 ≤ y) (pulse_more n) some));
    alone = h.alone;
    hosts = λ a isnt. by_cases (same_actor (actor.Device k) a) (is_holding (after a) ≡ false) (λ is. subst (λ y. is_holding (after y) ≡ false) (actor_true (actor.Device k) a is) (ap is_holding (put_self (actor.Device k) _ c.phases))) (λ apart. ap is_holding (put_other (actor.Device k) a _ c.phases apart) ∙ h.hosts a isnt);
    collected = λ a n its. by_cases (same_actor (actor.Device k) a) (has_collected (after a) (word_of n) ≡ true) (λ is. absurd (both (in_hand (after a) n) its (subst (λ y. in_hand (after y) n ≡ false) (actor_true (actor.Device k) a is) (ap (λ p. in_hand p n) (put_self (actor.Device k) _ c.phases))))) (λ apart. ap (λ p. has_collected p (word_of n)) (put_other (actor.Device k) a _ c.phases apart) ∙ h.collected a n (sym (hands_there a n) ∙ its));
    pins_known = λ n set. pins_known n (c.pins n) refl set;
    hand_known = λ a n its. h.hand_known a n (sym (hands_there a n) ∙ its);
  }
    where
      pins_known : (n : Event) (b : Bool) → c.pins n ≡ b → (b || same_event n x) ≡ true → event_rank n < all_events
      pins_known n true was set = h.pins_known n was
      pins_known n false was set = subst (λ y. event_rank y < all_events) (sym (event_true n x set)) known

-- ---- a collect

parted : (p w : Bool) → one p ≡ one (p && not w) + one (p && w)
parted true true = refl
parted true false = refl
parted false true = refl
parted false false = refl

hand_more : (h p w : Bool) → (h ≡ true → w ≡ false) → one (h || (p && w)) ≡ one h + one (p && w)
hand_more true true true none = absurd (both true refl (none refl))
hand_more true true false none = refl
hand_more true false w none = refl
hand_more false p w none = omega arith

gather : (g c p w : Bool) → (g ≡ true → c ≡ true) → (g || (p && w)) ≡ true → (c || w) ≡ true
gather true true p w its is = refl
gather true false p w its is = absurd (both false (its refl) refl)
gather false true true true its is = refl
gather false false true true its is = refl
gather false c true false its is = cc
gather false c false w its is = cc

known : (g p w : Bool) (P : Type 0) → (g ≡ true → P) → (p ≡ true → P) → (g || (p && w)) ≡ true → P
known true p w P hand pin is = hand refl
known false true w P hand pin is = pin refl
known false false w P hand pin is = absurd (both false is refl)

first_true : (p w : Bool) → (p && w) ≡ true → p ≡ true
first_true true w is = refl
first_true false w is = is

module _ (lists : List (List Event)) (c : Core) (a : Actor) (w : ℕ) (host : is_host a ≡ true) (free : OthersFree c.phases a) (fresh : has_collected (c.phases a) w ≡ false) (h : PinsSound lists c.pins (past_in c) c.phases) where
  abbrev later : Actor → Phase
  later = (collected c a w).phases

  abbrev holding : Phase
  holding = Holding (λ u. has_collected (c.phases a) u || (u == w)) (λ n. in_hand (c.phases a) n || (c.pins n && (word_of n == w)))

  not_yet : (n : Event) → in_hand (c.phases a) n ≡ true → (word_of n == w) ≡ false
  not_yet n its = by_cases (word_of n == w) ((word_of n == w) ≡ false) (λ is. absurd (both (has_collected (c.phases a) w) (ap (has_collected (c.phases a)) (sym (eqb-true (word_of n) w is)) ∙ h.collected a n its) fresh)) (λ e. e)

  mine : later a ≡ holding
  mine = put_self a holding c.phases

  theirs : (b : Actor) → same_actor a b ≡ false → later b ≡ c.phases b
  theirs b apart = put_other a b holding c.phases apart

  no_pulses : (p : Phase) → is_host a ≡ true → (k : ℕ) → same_actor a (actor.Device k) ≡ false
  no_pulses p is k = at a is
    where
      at : (b : Actor) → is_host b ≡ true → same_actor b (actor.Device k) ≡ false
      at actor.Int is = refl
      at actor.Poll is = refl
      at _ is = cc

  pulses_there : (k : ℕ) → pulses_in (later (actor.Device k)) ≡ pulses_in (c.phases (actor.Device k))
  pulses_there k = ap pulses_in (theirs (actor.Device k) (no_pulses Free host k))

  clear_there : (n : Event) → all_clear lists later n ≡ all_clear lists c.phases n
  clear_there n = ap (λ f. sum_below f (length lists)) (λ i k. times_clear n (pulses_there k i))

  all_there : (n : Event) → all_pulses lists later n ≡ all_pulses lists c.phases n
  all_there n = ap (λ f. sum_below f (length lists)) (λ i k. times_pulsed n (pulses_there k i))

  hand_now : (n : Event) → one (in_hand (later a) n) ≡ one (in_hand (c.phases a) n) + one (c.pins n && (word_of n == w))
  hand_now n = ap (λ p. one (in_hand p n)) mine ∙ hand_more (in_hand (c.phases a) n) (c.pins n) (word_of n == w) (not_yet n)

  hands_now : (n : Event) → hands later n ≡ hands c.phases n + one (c.pins n && (word_of n == w))
  hands_now n = at a refl host
    where
      at : (b : Actor) → a ≡ b → is_host b ≡ true → hands later n ≡ hands c.phases n + one (c.pins n && (word_of n == w))
      at actor.Int is host =
          let now = ap (λ b. one (in_hand (later b) n)) (sym is) ∙ (hand_now n ∙ ap (λ b. one (in_hand (c.phases b) n) + one (c.pins n && (word_of n == w))) is) in
          let poll = ap (λ p. one (in_hand p n)) (theirs actor.Poll (ap (λ b. same_actor b actor.Poll) is)) in
          omega arith
      at actor.Poll is host =
          let now = ap (λ b. one (in_hand (later b) n)) (sym is) ∙ (hand_now n ∙ ap (λ b. one (in_hand (c.phases b) n) + one (c.pins n && (word_of n == w))) is) in
          let int = ap (λ p. one (in_hand p n)) (theirs actor.Int (ap (λ b. same_actor b actor.Int) is)) in
          omega arith
      at _ is host = cc

  not_a : (b : Actor) → same_actor a b ≡ false → is_holding (later b) ≡ false
  not_a b apart = ap is_holding (theirs b apart) ∙ free b apart

  pub collect_keeps : PinsSound lists (collected c a w).pins (past_in c) later
  collect_keeps = record {
    start = λ k. subst (IsStart (list_of lists k)) (sym (pulses_there k)) (h.start k);
    counts = λ n. clear_there n ∙ (let old = h.counts n in let pin = parted (c.pins n) (word_of n == w) in let now = hands_now n in omega arith);
    some_clear = λ n some. subst (λ y. 1 ≤ y) (sym (clear_there n)) (h.some_clear n (subst (λ y. 1 ≤ y) (all_there n) some));
    alone = alone a refl host;
    hosts = λ b isnt. not_a b (by_cases (same_actor a b) (same_actor a b ≡ false) (λ is. absurd (both (is_host b) (ap is_host (sym (actor_true a b is)) ∙ host) isnt)) (λ e. e));
    collected = λ b n its. by_cases (same_actor a b) (has_collected (later b) (word_of n) ≡ true)
        (λ is. subst (λ y. has_collected (later y) (word_of n) ≡ true) (actor_true a b is) (ap (λ p. has_collected p (word_of n)) mine ∙ gather (in_hand (c.phases a) n) (has_collected (c.phases a) (word_of n)) (c.pins n) (word_of n == w) (h.collected a n) (ap (λ p. in_hand p n) (sym mine) ∙ (ap (λ y. in_hand (later y) n) (actor_true a b is) ∙ its))))
        (λ apart. ap (λ p. has_collected p (word_of n)) (theirs b apart) ∙ h.collected b n (ap (λ p. in_hand p n) (sym (theirs b apart)) ∙ its));
    pins_known = λ n set. h.pins_known n (first_true (c.pins n) (not (word_of n == w)) set);
    hand_known = λ b n its. by_cases (same_actor a b) (event_rank n < all_events)
        (λ is. known (in_hand (c.phases a) n) (c.pins n) (word_of n == w) (event_rank n < all_events) (h.hand_known a n) (h.pins_known n) (ap (λ p. in_hand p n) (sym mine) ∙ (ap (λ y. in_hand (later y) n) (actor_true a b is) ∙ its)))
        (λ apart. h.hand_known b n (ap (λ p. in_hand p n) (sym (theirs b apart)) ∙ its));
  }
    where
      no_other : (x y : Bool) → y ≡ false → (x && y) ≡ false
      no_other true y is = is
      no_other false y is = refl

      no_first : (x y : Bool) → x ≡ false → (x && y) ≡ false
      no_first x y is = ap (λ z. z && y) is

      alone : (b : Actor) → a ≡ b → is_host b ≡ true → (is_holding (later actor.Int) && is_holding (later actor.Poll)) ≡ false
      alone actor.Int is host = no_other (is_holding (later actor.Int)) (is_holding (later actor.Poll)) (not_a actor.Poll (ap (λ b. same_actor b actor.Poll) is))
      alone actor.Poll is host = no_first (is_holding (later actor.Int)) (is_holding (later actor.Poll)) (not_a actor.Int (ap (λ b. same_actor b actor.Int) is))
      alone _ is host = cc

-- ---- every event

abbrev PinsOf : List (List Event) → Core → Type 0
PinsOf lists c = PinsSound lists c.pins (past_in c) c.phases

exchange_pins : (lists : List (List Event)) (c : Core) (a : Actor) (l : ℕ) → c.phases a ≡ Lock (phase.Seeking (Some l)) → PinsOf lists c → PinsOf lists (exchanged c a (Some l))
exchange_pins lists c a l at h = either (c.word == l)
  where
    either : (b : Bool) → PinsOf lists (cond b (record c { word = acquired l; phases = put a (Lock (tried l)) c.phases }) (record c { phases = put a (Lock (phase.Seeking None)) c.phases }))
    either true = still lists c.pins (past_in c) c.phases (put a (Lock (tried l)) c.phases) (same_put a (phase.Seeking (Some l)) (tried l) c.phases at) h
    either false = still lists c.pins (past_in c) c.phases (put a (Lock (phase.Seeking None)) c.phases) (same_put a (phase.Seeking (Some l)) (phase.Seeking None) c.phases at) h

pins_known_step : (lists : List (List Event)) (c : Core) (e : CoreEvent) → IsKnown lists c e → PinsOf lists c → MayHappen lists c e → PinsOf lists (happens lists c e)
pins_known_step lists c (Load a) known h may = still lists c.pins (past_in c) c.phases (put a (Lock (phase.Seeking (Some c.word))) c.phases) (same_put a (phase.Seeking may.0) (phase.Seeking (Some c.word)) c.phases may.1) h
pins_known_step lists c (Exchange a) known h may = subst (λ o. PinsOf lists (exchanged c a o)) (sym (ap loaded may.1)) (exchange_pins lists c a may.0 may.1 h)
pins_known_step lists c (Release a) known h may = still lists c.pins (past_in c) c.phases (put a (Lock (phase.Gone _)) c.phases) (same_put a phase.Quit (phase.Gone _) c.phases may) h
pins_known_step lists c (Pulses k) known h may = subst (λ o. PinsOf lists (pulsed c k o)) (sym may.1) (pulse_keeps lists c k may.0 may.1 h (known may.0 may.1))
pins_known_step lists c (Collect a w) known h may = collect_keeps lists c a w may.0 may.1 may.2 h
pins_known_step lists c (Turn a ds) known h may = turned_pins lists c a ds may.1.latches h

-- each event of these lists is one that there is
pub all_known : (lists : List (List Event)) (c : Core) (e : CoreEvent) → InRange lists → IsKnown lists c e
all_known lists c (Load a) range = tt
all_known lists c (Exchange a) range = tt
all_known lists c (Release a) range = tt
all_known lists c (Pulses k) range = λ n next. range k (length (pulses_in (c.phases (actor.Device k)))) n next
all_known lists c (Collect a w) range = tt
all_known lists c (Turn a ds) range = tt

pub pins_step : (lists : List (List Event)) (c : Core) (e : CoreEvent) → InRange lists → PinsOf lists c → MayHappen lists c e → PinsOf lists (happens lists c e)
pins_step lists c e range = pins_known_step lists c e (all_known lists c e range)

pub first_pins : (lists : List (List Event)) → PinsSound lists no_event [] first_phase
first_pins lists = record {
  start = λ k. tt;
  counts = λ n. none n (length lists);
  some_clear = λ n some. absurd (let zero_pulses = no_pulses n (length lists) in omega arith);
  alone = refl;
  hosts = λ a isnt. free a;
  collected = λ a n its. absurd (both (in_hand (first_phase a) n) its (empty a n));
  pins_known = λ n set. absurd (both false set refl);
  hand_known = λ a n its. absurd (both (in_hand (first_phase a) n) its (empty a n));
}
  where
    none : (n : Event) (k : ℕ) → sum_below (λ j. times_clear n (pulses_in (first_phase (actor.Device j)))) k ≡ 0
    none n zero = refl
    none n (suc k) = let rest = none n k in omega arith

    no_pulses : (n : Event) (k : ℕ) → sum_below (λ j. times_pulsed n (pulses_in (first_phase (actor.Device j)))) k ≡ 0
    no_pulses n zero = refl
    no_pulses n (suc k) = let rest = no_pulses n k in omega arith

    free : (a : Actor) → is_holding (first_phase a) ≡ false
    free actor.Int = refl
    free actor.Poll = refl
    free (actor.Worker k) = refl
    free actor.Ec = refl
    free (actor.Device k) = refl
    free (actor.Firmware k) = refl

    empty : (a : Actor) (n : Event) → in_hand (first_phase a) n ≡ false
    empty actor.Int n = refl
    empty actor.Poll n = refl
    empty (actor.Worker k) n = refl
    empty actor.Ec n = refl
    empty (actor.Device k) n = refl
    empty (actor.Firmware k) n = refl

-- ---- the core

pub core_known_step : (lists : List (List Event)) (c : Core) (e : CoreEvent) → IsKnown lists c e → CoreSound lists c → MayHappen lists c e → CoreSound lists (happens lists c e)
core_known_step lists c e known h may = record { kinds = kinds_step lists c e h.kinds may; lock = lock_step lists c e h.kinds h.lock may; pinned = pins_known_step lists c e known h.pinned may }

pub core_step : (lists : List (List Event)) (c : Core) (e : CoreEvent) → InRange lists → CoreSound lists c → MayHappen lists c e → CoreSound lists (happens lists c e)
core_step lists c e range = core_known_step lists c e (all_known lists c e range)

pub core_turn : (lists : List (List Event)) (c : Core) (a : Actor) (ds : List Deed) → CoreSound lists c → IsTurn (c.phases a) (past_in c) a ds → CoreSound lists (turned c a ds)
core_turn lists c a ds h is = record { kinds = turned_kinds c a ds h.kinds; lock = turned_lock c a ds h.kinds is.few is.each h.lock; pinned = turned_pins lists c a ds is.latches h.pinned }

pub core_first : (lists : List (List Event)) → CoreSound lists first_core
core_first lists = record { kinds = first_kinds; lock = first_lock; pinned = first_pins lists }
