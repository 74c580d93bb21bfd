-- What is pinned or in a hand was pulsed more often than it was latched; and one actor at most holds the word.
use Rattle.std.proofs.Common.{ℕ, zero, suc, ◌+◌, ◌≤◌, ◌≡◌, ◌==◌, ◌&&◌, Bool, true, false, not, List, [], ◌∷◌, length, sum_by, Option, Some, None, refl, sym, ap, ◌∙◌, arith}
use Rattle.std.proofs.lemmas.List.Sums.{sum_by-cons}
use Rattle.acpi_regs.specs.declared.actor.Actor.{Actor}
use Rattle.acpi_regs.specs.declared.actor.Actor.TheVariants as actor
use Rattle.acpi_regs.specs.declared.actor.Side.{Side}
use Rattle.acpi_regs.specs.declared.actor.Side.TheVariants as side
use Rattle.acpi_regs.specs.declared.entry.Entry.{Entry}
use Rattle.acpi_regs.specs.declared.event.Event.{Event}
use Rattle.acpi_regs.specs.declared.phase.LockPhase.{LockPhase}
use Rattle.acpi_regs.specs.declared.phase.LockPhase.TheVariants as phase
use Rattle.acpi_regs.specs.declared.phase.Pulse.{Pulse}
use Rattle.acpi_regs.specs.CoreEvents.{list_of, one, pulses_in}
use Rattle.acpi_regs.specs.CoreSound.{IsStart, LockSound, PinsSound, hands, holds, latches, listed_pulses, phase_at, sum_below, times, times_clear}
use Rattle.acpi_regs.specs.Event.{same_event}
use Rattle.acpi_regs.specs.Lock.{seeker}
use Rattle.acpi_regs.specs.Phases.{Phase, is_idle}
use Rattle.acpi_regs.proofs.Halves.{one_most}
use Rattle.acpi_regs.proofs.LockSteps.{seeker_at}

-- ---- latches

clear_within : (n : Event) (events : List Event) (ps : List Pulse) → IsStart events ps → times_clear n ps ≤ times n events
clear_within n events [] start = omega arith
clear_within n [] (p ∷ ps) start = absurd start
clear_within n (x ∷ events) (p ∷ ps) start =
    let rest = clear_within n events ps start.1 in
    let here = at p.clear (same_event p.event n) (same_event x n) (ap (λ y. same_event y n) start.0) in
    omega arith
  where
    at : (c b b' : Bool) → b ≡ b' → one (c && b) ≤ one b'
    at true b b' e = let same = ap one e in omega arith
    at false b b' e = omega arith

sum_less : (f g : ℕ → ℕ) (k : ℕ) → ((j : ℕ) → f j ≤ g j) → sum_below f k ≤ sum_below g k
sum_less f g zero less = omega arith
sum_less f g (suc k) less = let rest = sum_less f g k less in let here = less k in omega arith

sum_first : (f : ℕ → ℕ) (k : ℕ) → sum_below f (suc k) ≡ f 0 + sum_below (λ j. f (suc j)) k
sum_first f zero = refl
sum_first f (suc k) = let rest = sum_first f k in omega arith

sum_lists : (n : Event) (lists : List (List Event)) → sum_below (λ k. times n (list_of lists k)) (length lists) ≡ sum_by (times n) lists
sum_lists n [] = refl
sum_lists n (list ∷ lists) = let rest = sum_lists n lists in let here = sum_by-cons (times n) list lists in sum_first (λ k. times n (list_of (list ∷ lists) k)) (length lists) ∙ (let same : times n (list_of (list ∷ lists) 0) ≡ times n list = refl in omega arith)

pub latches_within : (lists : List (List Event)) (pins : Event → Bool) (past : List Entry) (phases : Actor → Phase) (n : Event) → PinsSound lists pins past phases → latches n past + (one (pins n) + hands phases n) ≤ listed_pulses lists n
latches_within lists pins past phases n h =
    let all = h.counts n in
    let less = sum_less (λ k. times_clear n (pulses_in (phases (actor.Device k)))) (λ k. times n (list_of lists k)) (length lists) (λ k. clear_within n (list_of lists k) (pulses_in (phases (actor.Device k))) (h.start k)) in
    let sum = sum_lists n lists in
    omega arith

-- ---- who holds the word

both : (x : Bool) → x ≡ true → x ≡ false → ⊥
both x p q = cc

some-injective : (x y : Actor) → Some x ≡ Some y → x ≡ y
some-injective x y e = cc

holds_busy : (p : LockPhase) → holds p ≡ true → is_idle p ≡ false
holds_busy phase.Won is = refl
holds_busy phase.Owning is = refl
holds_busy phase.Quit is = refl
holds_busy _ is = cc

held_at : (w : ℕ) (past : List Entry) (f : Actor → LockPhase) (a : Actor) → holds (f a) ≡ true → LockSound w past f → (s : Side) × (seeker s past ≡ Some a)
held_at w past f a is h = let s = h.sides a (holds_busy (f a) is) in (s.0, seeker_at w past f a s.0 (f a) s.1 refl (holds_busy (f a) is) h)

held_half : (past : List Entry) (f : Actor → LockPhase) (a : Actor) (s : Side) → seeker s past ≡ Some a → holds (f a) ≡ true → one (holds (phase_at f (seeker s past))) ≡ 1
held_half past f a s its is = ap (λ o. one (holds (phase_at f o))) its ∙ ap one is

pub one_holds : (w : ℕ) (past : List Entry) (f : Actor → LockPhase) (a b : Actor) → LockSound w past f → holds (f a) ≡ true → holds (f b) ≡ true → a ≡ b
one_holds w past f a b h mine its =
    let s = held_at w past f a mine h in
    let t = held_at w past f b its h in
    at s.0 t.0 s.1 t.1
  where
    two : one (holds (phase_at f (seeker side.Os past))) ≡ 1 → one (holds (phase_at f (seeker side.Firmware past))) ≡ 1 → ⊥
    two x y = let most = one_most (not (w == 0)) in let sum = h.agree.owned in omega arith

    at : (s t : Side) → seeker s past ≡ Some a → seeker t past ≡ Some b → a ≡ b
    at side.Os side.Os x y = some-injective a b (sym x ∙ y)
    at side.Firmware side.Firmware x y = some-injective a b (sym x ∙ y)
    at side.Os side.Firmware x y = absurd (two (held_half past f a side.Os x mine) (held_half past f b side.Firmware y its))
    at side.Firmware side.Os x y = absurd (two (held_half past f b side.Os y its) (held_half past f a side.Firmware x mine))

-- where the word is free nobody holds it
pub none_holds : (past : List Entry) (f : Actor → LockPhase) (a : Actor) → LockSound 0 past f → holds (f a) ≡ true → ⊥
none_holds past f a h is = let s = held_at 0 past f a is h in at s.0 s.1
  where
    at : (s : Side) → seeker s past ≡ Some a → ⊥
    at side.Os x = let held = held_half past f a side.Os x is in let sum = h.agree.owned in omega arith
    at side.Firmware x = let held = held_half past f a side.Firmware x is in let sum = h.agree.owned in omega arith

-- where it is owned somebody does
pub someone_holds : (w : ℕ) (past : List Entry) (f : Actor → LockPhase) → LockSound w past f → (w == 0) ≡ false → (a : Actor) × (holds (f a) ≡ true)
someone_holds w past f h owned = at (holds (phase_at f (seeker side.Os past))) (holds (phase_at f (seeker side.Firmware past))) refl refl
  where
    from : (o : Option Actor) → holds (phase_at f o) ≡ true → (a : Actor) × (holds (f a) ≡ true)
    from None is = cc
    from (Some a) is = (a, is)

    at : (x y : Bool) → holds (phase_at f (seeker side.Os past)) ≡ x → holds (phase_at f (seeker side.Firmware past)) ≡ y → (a : Actor) × (holds (f a) ≡ true)
    at true y is is' = from (seeker side.Os past) is
    at false true is is' = from (seeker side.Firmware past) is'
    at false false is is' = absurd (let sum = h.agree.owned in let one_owned = ap (λ b. one (not b)) owned in let x = ap one is in let y = ap one is' in omega arith)
