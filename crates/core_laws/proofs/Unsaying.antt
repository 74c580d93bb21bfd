-- The sentences give the numbers: a core that is sound by the sentences is sound.
use Rattle.std.proofs.Common.{ℕ, zero, suc, ◌+◌, ◌*◌, ◌<◌, ◌≤◌, ◌≡◌, ◌==◌, ◌&&◌, inl, inr, Bool, true, false, not, cond, List, [], ◌∷◌, length, slice_get, Option, Some, None, refl, sym, ap, ◌∙◌, subst, arith, if◌then◌else◌}
use Rattle.std.proofs.lemmas.Bool.{eqb-true}
use Rattle.acpi_regs.specs.declared.actor.Actor.{Actor}
use Rattle.acpi_regs.specs.declared.actor.Actor.TheVariants as actor
use Rattle.acpi_regs.specs.declared.actor.Side.{Side}
use Rattle.acpi_regs.specs.declared.actor.Side.TheVariants as side
use Rattle.acpi_regs.specs.declared.entry.Deed.{Deed}
use Rattle.acpi_regs.specs.declared.entry.Deed.TheVariants as deed
use Rattle.acpi_regs.specs.declared.entry.Entry.{Entry}
use Rattle.acpi_regs.specs.declared.event.Event.{Event}
use Rattle.acpi_regs.specs.declared.phase.LockPhase.{LockPhase}
use Rattle.acpi_regs.specs.declared.phase.LockPhase.TheVariants as phase
use Rattle.acpi_regs.specs.declared.phase.Pulse.{Pulse}
use Rattle.acpi_regs.specs.Actor.{same_actor, stands_on}
use Rattle.acpi_regs.specs.Core.{Core, all_events}
use Rattle.acpi_regs.specs.CoreEvents.{entry, in_hand, is_holding, is_host, list_of, one, past_in, pulses_in}
use Rattle.acpi_regs.specs.CoreSound.{Fits, IsStart, LockSound, PinsSound, all_clear, competes, hands, has_good_word, holds, is_kind, is_signalled, lock_phase, lock_phases, phase_at, sum_below, tells, times_clear, waits}
use Rattle.acpi_regs.specs.Event.{event_rank, same_event}
use Rattle.acpi_regs.specs.Lock.{busies, has_disowned, has_owned, is_busy, is_someone, leaves, other, owner, seeker, seeker_after}
use Rattle.acpi_regs.specs.Phases.{Free, Holding, Lock, Phase, Pulsed, is_gone, is_idle, is_marked}
use Rattle.acpi_regs.proofs.LockActors.{actor_self, apart, by_cases, someone_is, someone_self}
use Rattle.acpi_regs.proofs.LockTurns.{side_of_kind}
use Rattle.acpi_regs.proofs.Pins.{event_true}
use Rattle.machine_desc.specs.Kept.{IsMachine}
use Rattle.machine_desc.specs.Machine.{MachineData}
use Rattle.machine_history.specs.Legal.{Allowed, LegalPast, runs_scripts}
use Rattle.machine_history.proofs.Known.{hold}
use Rattle.core_laws.specs.Said.{AreDistinct, Reason, SoundAsSaid, count_in, is_among}
use Rattle.core_laws.specs.Sound.{Sound}
use Rattle.core_laws.proofs.Asking.{codes_sound}
use Rattle.core_laws.proofs.Ranges.{in_range}

both : (x : Bool) → x ≡ true → x ≡ false → ⊥
both x p q = cc

some-injective : (x y : Actor) → Some x ≡ Some y → x ≡ y
some-injective x y e = cc

not_false : (b : Bool) → false ≡ not b → b ≡ true
not_false true e = refl
not_false false e = cc

-- ---- each seeker is of its side

abbrev SeeksFor : MachineData → Side → Option Actor → Type 0
SeeksFor m s None = Unit {0}
SeeksFor m s (Some a) = competes s a ≡ true

seeks_for : (m : MachineData) (past : List Entry) (s : Side) → LegalPast m past → SeeksFor m s (seeker s past)
seeks_for m [] s legal = tt
seeks_for m (e ∷ past) s legal = at e.actor e.deed legal.0 (seeks_for m past s legal.1)
  where
    competing : (s : Side) (a : Actor) → runs_scripts m a ≡ true → stands_on s a ≡ true → competes s a ≡ true
    competing side.Os (actor.Worker k) runs on = refl
    competing side.Firmware (actor.Firmware k) runs on = refl
    competing side.Os (actor.Firmware k) runs on = cc
    competing side.Firmware (actor.Worker k) runs on = cc
    competing s actor.Int runs on = cc
    competing s actor.Poll runs on = cc
    competing s actor.Ec runs on = cc
    competing s (actor.Device k) runs on = cc

    sought : (b : Bool) (a : Actor) → stands_on s a ≡ b → runs_scripts m a ≡ true → SeeksFor m s (seeker s past) → SeeksFor m s (if b then Some a else seeker s past)
    sought true a on runs before = competing s a runs on
    sought false a on runs before = before

    left : (b : Bool) → SeeksFor m s (seeker s past) → SeeksFor m s (if b then None else seeker s past)
    left true before = tt
    left false before = before

    at : (a : Actor) (d : Deed) → Allowed m past (entry a d) → SeeksFor m s (seeker s past) → SeeksFor m s (seeker_after s a d (seeker s past))
    at a deed.Seek ok before = sought (stands_on s a) a refl (hold m past a deed.Seek ok).0 before
    at a (deed.Leave x) ok before = left (stands_on s a) before
    at a _ ok before = before

-- ---- what is pulsed is known

clear_known : (n : Event) (events : List Event) (ps : List Pulse) → IsStart events ps → ((i : ℕ) (x : Event) → slice_get events i ≡ Some x → event_rank x < all_events) → 1 ≤ times_clear n ps → event_rank n < all_events
clear_known n events [] start known some = absurd (omega arith)
clear_known n [] (p ∷ ps) start known some = absurd start
clear_known n (x ∷ events) (p ∷ ps) start known some = at (same_event p.event n) refl (λ rest. clear_known n events ps start.1 (λ i y at. known (suc i) y at) rest)
  where
    none : (c b : Bool) → b ≡ false → one (c && b) ≡ 0
    none true b e = ap one e
    none false b e = refl

    at : (b : Bool) → same_event p.event n ≡ b → (1 ≤ times_clear n ps → event_rank n < all_events) → event_rank n < all_events
    at true is rest = subst (λ y. event_rank y < all_events) (event_true p.event n is) (known zero p.event (ap Some (sym start.0)))
    at false isnt rest = let here = none p.clear (same_event p.event n) isnt in rest (omega arith)

some_part : (g : ℕ → ℕ) (n : ℕ) → 1 ≤ sum_below g n → (k : ℕ) × (1 ≤ g k)
some_part g zero some = absurd (omega arith)
some_part g (suc n) some = at (g n) refl (λ rest. some_part g n rest)
  where
    at : (x : ℕ) → g n ≡ x → (1 ≤ sum_below g n → (k : ℕ) × (1 ≤ g k)) → (k : ℕ) × (1 ≤ g k)
    at zero is rest = rest (omega (arith, is, some))
    at (suc x) is rest = (n, omega (arith, is))

module _ (m : MachineData) (c : Core) (ok : IsMachine m) (h : SoundAsSaid m c) where
  abbrev past : List Entry
  past = past_in c

  abbrev f : Actor → LockPhase
  f = lock_phases c.phases

  lock_at : (s : Side) (a : Actor) → competes s a ≡ true → (p : LockPhase) × (c.phases a ≡ Lock p)
  lock_at s a is = at s a (c.phases a) is (h.kinds a)
    where
      at : (s : Side) (a : Actor) (q : Phase) → competes s a ≡ true → is_kind a q ≡ true → (p : LockPhase) × (q ≡ Lock p)
      at side.Os (actor.Worker k) (Lock p) is kind = (p, refl)
      at side.Firmware (actor.Firmware k) (Lock p) is kind = (p, refl)
      at side.Os (actor.Worker k) _ is kind = cc
      at side.Firmware (actor.Firmware k) _ is kind = cc
      at side.Os _ q is kind = cc
      at side.Firmware _ q is kind = cc

  seekers : (s : Side) (a : Actor) → seeker s past ≡ Some a → competes s a ≡ true
  seekers s a is = subst (SeeksFor m s) is (seeks_for m past s h.legal)

  seeks_at : (s : Side) (a : Actor) → competes s a ≡ true → is_idle (f a) ≡ false → seeker s past ≡ Some a
  seeks_at s a is busy = someone_is a (seeker s past) (not_false (is_someone a (seeker s past)) (sym busy ∙ h.lock.idle s a is))

  -- who is not idle competes for a side
  sides : (a : Actor) → is_idle (f a) ≡ false → (s : Side) × (competes s a ≡ true)
  sides a busy = at (c.phases a) refl busy
    where
      at : (q : Phase) → c.phases a ≡ q → is_idle (lock_phase q) ≡ false → (s : Side) × (competes s a ≡ true)
      at (Lock p) is busy = side_of_kind a p (ap (is_kind a) (sym is) ∙ h.kinds a)
      at Free is busy = cc
      at (Holding words hand) is busy = cc
      at (Pulsed ps) is busy = cc

  fits : (s : Side) (a : Actor) → competes s a ≡ true → Fits past s a (f a)
  fits s a is =
      let p = lock_at s a is in
      record {
        seeker = h.lock.idle s a is;
        owner = h.lock.owning a;
        since = ap (λ q. tells (lock_phase q) (has_owned a past) (has_disowned a past) (is_busy a past)) p.1 ∙ h.lock.since a p.0 p.1;
        loaded = ap (λ q. has_good_word (lock_phase q)) p.1 ∙ good p.0 p.1;
      }
    where
      good : (p : LockPhase) → c.phases a ≡ Lock p → has_good_word p ≡ true
      good (phase.Seeking (Some l)) at = h.lock.loaded_good a l at
      good (phase.Seeking None) at = refl
      good phase.Idle at = refl
      good phase.Marked at = refl
      good phase.Waiting at = refl
      good phase.Won at = refl
      good phase.Owning at = refl
      good phase.Quit at = refl
      good (phase.Gone s) at = refl

  -- ---- the word and its holder

  busy_holds : (p : LockPhase) → holds p ≡ true → is_idle p ≡ false
  busy_holds phase.Won is = refl
  busy_holds phase.Owning is = refl
  busy_holds phase.Quit is = refl
  busy_holds _ is = cc

  none_half : (o : Option Actor) → ((a : Actor) → o ≡ Some a → holds (f a) ≡ true → ⊥) → holds (phase_at f o) ≡ false
  none_half None none = refl
  none_half (Some a) none = by_cases (holds (f a)) (holds (f a) ≡ false) (λ its. absurd (none a refl its)) (λ e. e)

  abbrev held : Side → ℕ
  held s = one (holds (phase_at f (seeker s past)))

  -- where one holds it, nobody of the other side does
  one_side : (s : Side) (a : Actor) → competes s a ≡ true → holds (f a) ≡ true → ((b : Actor) → holds (f b) ≡ true → a ≡ b) → (held s ≡ 1) × (held (other s) ≡ 0)
  one_side s a is its only = (
    ap (λ o. one (holds (phase_at f o))) (seeks_at s a is (busy_holds (f a) its)) ∙ ap one its,
    ap one (none_half (seeker (other s) past) (λ b at holds_b. both (same_actor a b) (ap (λ x. same_actor a x) (sym (only b holds_b)) ∙ actor_self a) (apart s a b is (seekers (other s) b at)))),
  )

  owned : one (not (c.word == 0)) ≡ held side.Os + held side.Firmware
  owned = at (c.word == 0) refl
    where
      sum : (s : Side) → (held s ≡ 1) × (held (other s) ≡ 0) → 1 ≡ held side.Os + held side.Firmware
      sum side.Os p = let x = p.0 in let y = p.1 in omega arith
      sum side.Firmware p = let x = p.0 in let y = p.1 in omega arith

      at : (b : Bool) → (c.word == 0) ≡ b → one (not b) ≡ held side.Os + held side.Firmware
      at true free =
          let none = h.lock.none_holds (eqb-true c.word 0 free) in
          let os = ap one (none_half (seeker side.Os past) (λ a at its. none a its)) in
          let firmware = ap one (none_half (seeker side.Firmware past) (λ a at its. none a its)) in
          omega arith
      at false taken = let one_actor = h.lock.one_holds taken in let s = sides one_actor.0 (busy_holds (f one_actor.0) one_actor.1) in sum s.0 (one_side s.0 one_actor.0 s.1 one_actor.1 one_actor.2)

  -- ---- why one waits

  waits_half : (s : Side) → one (waits (phase_at f (seeker s past))) ≤ one (c.word == 3) + (one (is_gone true (phase_at f (seeker (other s) past))) + one (is_signalled s past))
  waits_half s = at (seeker s past) refl
    where
      some : Reason c s → 1 ≤ one (c.word == 3) + (one (is_gone true (phase_at f (seeker (other s) past))) + one (is_signalled s past))
      some (inl three) = let full = ap (λ w. one (w == 3)) three in omega arith
      some (inr (inl (b, is, gone))) =
          let its = seeks_at (other s) b is (ap (λ q. is_idle (lock_phase q)) gone) in
          let left = ap (λ o. one (is_gone true (phase_at f o))) its ∙ ap (λ q. one (is_gone true (lock_phase q))) gone in
          omega arith
      some (inr (inr signal)) = let given = ap one signal in omega arith

      at : (o : Option Actor) → seeker s past ≡ o → one (waits (phase_at f o)) ≤ one (c.word == 3) + (one (is_gone true (phase_at f (seeker (other s) past))) + one (is_signalled s past))
      at None is = omega arith
      at (Some a) is = by_cases (waits (f a)) (one (waits (f a)) ≤ one (c.word == 3) + (one (is_gone true (phase_at f (seeker (other s) past))) + one (is_signalled s past)))
          (λ waiting. (let here = ap one waiting in let reason = some (h.lock.reason s a (seekers s a is) waiting) in omega arith))
          (λ none. (let here = ap one none in omega arith))

  -- ---- signals: the sentence for the two seekers

  abbrev with_some : Option Actor → List Actor → List Actor
  with_some None actors = actors
  with_some (Some a) actors = a ∷ actors

  abbrev two : List Actor
  two = with_some (seeker side.Os past) (with_some (seeker side.Firmware past) [])

  distinct : AreDistinct two
  distinct = at (seeker side.Os past) (seeker side.Firmware past) refl refl
    where
      at : (x y : Option Actor) → seeker side.Os past ≡ x → seeker side.Firmware past ≡ y → AreDistinct (with_some x (with_some y []))
      at None None is is' = tt
      at None (Some b) is is' = (refl, tt)
      at (Some a) None is is' = (refl, tt)
      at (Some a) (Some b) is is' = (ap (λ z. cond z true false) (apart side.Os a b (seekers side.Os a is) (seekers side.Firmware b is')), (refl, tt))

  among : (t : Side) (a : Actor) → seeker t past ≡ Some a → is_among a two ≡ true
  among side.Os a is = ap (λ o. is_among a (with_some o (with_some (seeker side.Firmware past) []))) is ∙ ap (λ z. cond z true (is_among a (with_some (seeker side.Firmware past) []))) (actor_self a)
  among side.Firmware a is = ap (λ o. is_among a (with_some (seeker side.Os past) (with_some o []))) is ∙ behind (seeker side.Os past)
    where
      last : (z : Bool) → cond z true (cond (same_actor a a) true false) ≡ true
      last true = refl
      last false = ap (λ z. cond z true false) (actor_self a)

      behind : (o : Option Actor) → is_among a (with_some o (a ∷ [])) ≡ true
      behind None = ap (λ z. cond z true false) (actor_self a)
      behind (Some b) = last (same_actor a b)

  -- no actor competes for both sides
  foreign : (s : Side) (a : Actor) → competes (other s) a ≡ true → competes s a ≡ false
  foreign side.Os (actor.Firmware k) is = refl
  foreign side.Firmware (actor.Worker k) is = refl
  foreign side.Os _ is = cc
  foreign side.Firmware _ is = cc

  counted : (test : LockPhase → Bool) (s : Side) → test phase.Idle ≡ false → count_in test c.phases s two ≡ one (test (phase_at f (seeker s past)))
  counted test s idle = at s (seeker side.Os past) (seeker side.Firmware past) refl refl
    where
      own : (b x : Bool) → b ≡ true → one (b && x) ≡ one x
      own b x is = ap (λ z. one (z && x)) is

      none : (b x : Bool) → b ≡ false → one (b && x) ≡ 0
      none b x is = ap (λ z. one (z && x)) is

      at : (s : Side) (x y : Option Actor) → seeker side.Os past ≡ x → seeker side.Firmware past ≡ y → count_in test c.phases s (with_some x (with_some y [])) ≡ one (test (phase_at f (seeker s past)))
      at side.Os None None is is' = sym (ap (λ o. one (test (phase_at f o))) is ∙ ap one idle)
      at side.Firmware None None is is' = sym (ap (λ o. one (test (phase_at f o))) is' ∙ ap one idle)
      at side.Os (Some a) None is is' = let mine = own (competes side.Os a) (test (f a)) (seekers side.Os a is) in let seek = ap (λ o. one (test (phase_at f o))) is in omega arith
      at side.Firmware (Some a) None is is' = let theirs = none (competes side.Firmware a) (test (f a)) (foreign side.Firmware a (seekers side.Os a is)) in let seek = ap (λ o. one (test (phase_at f o))) is' ∙ ap one idle in omega arith
      at side.Os None (Some b) is is' = let theirs = none (competes side.Os b) (test (f b)) (foreign side.Os b (seekers side.Firmware b is')) in let seek = ap (λ o. one (test (phase_at f o))) is ∙ ap one idle in omega arith
      at side.Firmware None (Some b) is is' = let mine = own (competes side.Firmware b) (test (f b)) (seekers side.Firmware b is') in let seek = ap (λ o. one (test (phase_at f o))) is' in omega arith
      at side.Os (Some a) (Some b) is is' = let mine = own (competes side.Os a) (test (f a)) (seekers side.Os a is) in let theirs = none (competes side.Os b) (test (f b)) (foreign side.Os b (seekers side.Firmware b is')) in let seek = ap (λ o. one (test (phase_at f o))) is in omega arith
      at side.Firmware (Some a) (Some b) is is' = let mine = own (competes side.Firmware b) (test (f b)) (seekers side.Firmware b is') in let theirs = none (competes side.Firmware a) (test (f a)) (foreign side.Firmware a (seekers side.Os a is)) in let seek = ap (λ o. one (test (phase_at f o))) is' in omega arith

  signals_half : (s : Side) → leaves s past + (one (is_gone true (phase_at f (seeker s past))) + one ((c.word == 3) && holds (phase_at f (seeker s past)))) ≤ busies (other s) past + one (is_marked (phase_at f (seeker (other s) past)))
  signals_half s =
      let said = h.lock.signals s two distinct among in
      let gone = counted (is_gone true) s refl in
      let marked = counted is_marked (other s) refl in
      let product = times_one (c.word == 3) (holds (phase_at f (seeker s past))) in
      let same = ap (λ k. one (c.word == 3) * k) (counted holds s refl) in
      omega arith
    where
      times_one : (w b : Bool) → one w * one b ≡ one (w && b)
      times_one true true = refl
      times_one true false = refl
      times_one false true = refl
      times_one false false = refl

  lock_sound : LockSound c.word past f
  lock_sound = record {
    agree = record { good = h.lock.word_good; owned = owned; waits_x = waits_half side.Os; waits_y = waits_half side.Firmware; signals_x = signals_half side.Os; signals_y = signals_half side.Firmware };
    fits = fits;
    sides = sides;
    seekers = seekers;
    owners = λ a is. h.lock.owning a ∙ someone_self a (owner past) is;
  }

  -- ---- pins and hands

  hosts : (a : Actor) → is_host a ≡ false → is_holding (c.phases a) ≡ false
  hosts a isnt = at a (c.phases a) isnt (h.kinds a)
    where
      at : (a : Actor) (q : Phase) → is_host a ≡ false → is_kind a q ≡ true → is_holding q ≡ false
      at a (Lock p) isnt kind = refl
      at a Free isnt kind = refl
      at a (Pulsed ps) isnt kind = refl
      at actor.Int (Holding words hand) isnt kind = cc
      at actor.Poll (Holding words hand) isnt kind = cc
      at _ (Holding words hand) isnt kind = cc

  known : (n : Event) → 1 ≤ all_clear m.devices c.phases n → event_rank n < all_events
  known n some =
      let k = some_part (λ j. times_clear n (pulses_in (c.phases (actor.Device j)))) (length m.devices) some in
      clear_known n (list_of m.devices k.0) (pulses_in (c.phases (actor.Device k.0))) (h.pulses.start k.0) (in_range m ok k.0) k.1

  holds_hand : (p : Phase) (n : Event) → in_hand p n ≡ true → is_holding p ≡ true
  holds_hand (Holding words hand) n its = refl
  holds_hand (Lock p) n its = cc
  holds_hand Free n its = cc
  holds_hand (Pulsed ps) n its = cc

  hand_counts : (a : Actor) (n : Event) → in_hand (c.phases a) n ≡ true → 1 ≤ hands c.phases n
  hand_counts a n its = at a (by_cases (is_host a) (is_host a ≡ true) (λ e. e) (λ isnt. absurd (both (is_holding (c.phases a)) (holds_hand (c.phases a) n its) (hosts a isnt)))) its
    where
      at : (a : Actor) → is_host a ≡ true → in_hand (c.phases a) n ≡ true → 1 ≤ hands c.phases n
      at actor.Int host its = let here = ap one its in omega arith
      at actor.Poll host its = let here = ap one its in omega arith
      at _ host its = cc

  alone : (is_holding (c.phases actor.Int) && is_holding (c.phases actor.Poll)) ≡ false
  alone = at (is_holding (c.phases actor.Int)) (is_holding (c.phases actor.Poll)) refl refl
    where
      two_actors : actor.Int ≡ actor.Poll → ⊥
      two_actors e = cc

      at : (x y : Bool) → is_holding (c.phases actor.Int) ≡ x → is_holding (c.phases actor.Poll) ≡ y → (x && y) ≡ false
      at true true i p = absurd (two_actors (h.lock.one_turn actor.Int actor.Poll i p))
      at true false i p = refl
      at false y i p = refl

  pins_sound : PinsSound m.devices c.pins past c.phases
  pins_sound = record {
    start = h.pulses.start;
    counts = h.pulses.counts;
    some_clear = h.pulses.some_clear;
    alone = alone;
    hosts = hosts;
    collected = h.pulses.collected;
    pins_known = λ n set. known n (let all = h.pulses.counts n in let here = ap one set in omega arith);
    hand_known = λ a n its. known n (let all = h.pulses.counts n in let here = hand_counts a n its in omega arith);
  }

  pub unsaid : Sound m c
  unsaid = record { legal = h.legal; core = record { kinds = h.kinds; lock = lock_sound; pinned = pins_sound }; codes = codes_sound m ok past h.legal }
