-- Each event of a core keeps its pins and hands sound.
use Rattle.std.proofs.Common.{ℕ, zero, suc, ◌+◌, ◌<◌, ◌≤◌, ◌≡◌, ◌==◌, ◌&&◌, ◌⊎◌, inl, inr, Bool, true, false, not, cond, List, [], ◌∷◌, ◌++◌, length, map, nat_lt, refl, sym, ap, ◌∙◌, subst, arith}
use Rattle.std.proofs.lemmas.Bool.{eqb-true, eqb-false, eq-eqb, ne_eqb, cases_Bool, ltb-true, ltb-false}
use Rattle.acpi_regs.specs.declared.actor.Actor.{Actor}
use Rattle.acpi_regs.specs.declared.actor.Actor.TheVariants as actor
use Rattle.acpi_regs.specs.declared.entry.Deed.{Deed}
use Rattle.acpi_regs.specs.declared.entry.Deed.TheVariants as deed
use Rattle.acpi_regs.specs.declared.entry.Entry.{Entry}
use Rattle.acpi_regs.specs.declared.event.Event.{Event}
use Rattle.acpi_regs.specs.declared.event.Event.TheVariants as event
use Rattle.acpi_regs.specs.declared.event.Fixed.{Fixed}
use Rattle.acpi_regs.specs.declared.event.Fixed.TheVariants as fixed
use Rattle.acpi_regs.specs.declared.phase.LockPhase.{LockPhase}
use Rattle.acpi_regs.specs.Actor.{same_actor}
use Rattle.acpi_regs.specs.Core.{Core, all_events, event_at, events_below, events_of, if_in}
use Rattle.acpi_regs.specs.CoreEvents.{LatchesFirst, entry, freed, has_collected, has_no_latch, in_hand, is_holding, is_host, is_latch, list_of, moved_all, moved_in, one, past_in, pulses_in, turned}
use Rattle.acpi_regs.specs.CoreSound.{IsStart, PinsSound, all_clear, all_pulses, hands, latch_in, latches, sum_below, times, times_clear, times_pulsed}
use Rattle.acpi_regs.specs.Event.{event_rank, fixed_rank, same_event, word_of}
use Rattle.acpi_regs.specs.Phases.{Free, Holding, Lock, Phase, Pulsed, put}
use Rattle.acpi_regs.proofs.LockActors.{actor_true, by_cases, put_other, put_self}
use Rattle.acpi_regs.proofs.LockTurns.{add_all, turn_past}

both : (x : Bool) → x ≡ true → x ≡ false → ⊥
both x p q = cc

-- ---- events

same_fixed : (f g : Fixed) → (fixed_rank f == fixed_rank g) ≡ true → f ≡ g
same_fixed fixed.Tmr fixed.Tmr same = refl
same_fixed fixed.Gbl fixed.Gbl same = refl
same_fixed fixed.Pwr fixed.Pwr same = refl
same_fixed fixed.Slp fixed.Slp same = refl
same_fixed fixed.Rtc fixed.Rtc same = refl
same_fixed _ _ same = cc

pub event_true : (x n : Event) → same_event x n ≡ true → x ≡ n
event_true (event.Fixed f) (event.Fixed g) same = ap event.Fixed (same_fixed f g same)
event_true (event.Gpe j) (event.Gpe k) same = ap event.Gpe (eqb-true j k same)
event_true (event.Fixed f) (event.Gpe k) same = cc
event_true (event.Gpe j) (event.Fixed g) same = cc

pub event_self : (n : Event) → same_event n n ≡ true
event_self (event.Fixed f) = eq-eqb (fixed_rank f) (fixed_rank f) refl
event_self (event.Gpe k) = eq-eqb k k refl

pub event_swap : (x n : Event) → same_event x n ≡ same_event n x
event_swap x n = by_cases (same_event x n) (same_event x n ≡ same_event n x) (λ is. is ∙ sym (ap (λ y. same_event n y) (event_true x n is) ∙ event_self n)) (λ apart. by_cases (same_event n x) (same_event x n ≡ same_event n x) (λ is. absurd (both (same_event n x) is (subst (λ y. same_event x y ≡ false → same_event y x ≡ false) (sym (event_true n x is)) (λ e. e) apart))) (λ apart'. apart ∙ sym apart'))

at_rank : (n : Event) → event_at (event_rank n) ≡ n
at_rank (event.Fixed fixed.Tmr) = refl
at_rank (event.Fixed fixed.Gbl) = refl
at_rank (event.Fixed fixed.Pwr) = refl
at_rank (event.Fixed fixed.Slp) = refl
at_rank (event.Fixed fixed.Rtc) = refl
at_rank (event.Gpe k) = ap event_at five
  where
    five : 5 + k ≡ suc (suc (suc (suc (suc k))))
    five = omega arith

pub rank_at : (k : ℕ) → event_rank (event_at k) ≡ k
rank_at zero = refl
rank_at (suc zero) = refl
rank_at (suc (suc zero)) = refl
rank_at (suc (suc (suc zero))) = refl
rank_at (suc (suc (suc (suc zero)))) = refl
rank_at (suc (suc (suc (suc (suc k))))) = omega arith

times-append : (n : Event) (xs ys : List Event) → times n (xs ++ ys) ≡ times n xs + times n ys
times-append n [] ys = omega arith
times-append n (x ∷ xs) ys = let rest = times-append n xs ys in omega arith

times_here : (set : Event → Bool) (n x : Event) → x ≡ n → times n (if_in set x) ≡ one (set n)
times_here set n x is = subst (λ y. times n (if_in set y) ≡ one (set n)) (sym is) (at (set n))
  where
    at : (b : Bool) → times n (cond b (n ∷ []) []) ≡ one b
    at true = let self = ap one (event_self n) in omega arith
    at false = refl

times_apart : (set : Event → Bool) (n x : Event) → same_event x n ≡ false → times n (if_in set x) ≡ 0
times_apart set n x apart = at (set x)
  where
    at : (b : Bool) → times n (cond b (x ∷ []) []) ≡ 0
    at true = let none = ap one apart in omega arith
    at false = refl

rank_apart : (k : ℕ) (n : Event) → (event_rank n == k) ≡ false → same_event (event_at k) n ≡ false
rank_apart k n apart = by_cases (same_event (event_at k) n) (same_event (event_at k) n ≡ false) (λ is. absurd (eqb-false (event_rank n) k apart (ap event_rank (sym (event_true (event_at k) n is)) ∙ rank_at k))) (λ e. e)

times_past : (set : Event → Bool) (n : Event) (k : ℕ) → k ≤ event_rank n → times n (events_below set k) ≡ 0
unfolding events_below
times_past set n zero most = refl
times_past set n (suc k) most =
    let before = times_past set n k (omega (arith, most)) in
    let here = times_apart set n (event_at k) (rank_apart k n (ne_eqb (event_rank n) k (λ e. omega (arith, most, e)))) in
    times-append n (events_below set k) (if_in set (event_at k)) ∙ omega arith

times_below : (set : Event → Bool) (n : Event) (k : ℕ) → event_rank n < k → times n (events_below set k) ≡ one (set n)
unfolding events_below
times_below set n zero less = absurd (omega (arith, less))
times_below set n (suc k) less =
    by_cases (event_rank n == k) (times n (events_below set (suc k)) ≡ one (set n))
    (λ is.
    let e = eqb-true (event_rank n) k is in
    let before = times_past set n k (omega (arith, e)) in
    let here = times_here set n (event_at k) (ap event_at (sym e) ∙ at_rank n) in
    times-append n (events_below set k) (if_in set (event_at k)) ∙ omega arith)
    (λ apart.
    let before = times_below set n k (let ne = eqb-false (event_rank n) k apart in grind (arith, less, ne)) in
    let here = times_apart set n (event_at k) (rank_apart k n apart) in
    times-append n (events_below set k) (if_in set (event_at k)) ∙ omega arith)

-- the events of a set that has only events that there are
pub times_of : (set : Event → Bool) (n : Event) → (set n ≡ true → event_rank n < all_events) → times n (events_of set) ≡ one (set n)
times_of set n known = by_cases (set n) (times n (events_of set) ≡ one (set n)) (λ is. times_below set n all_events (known is)) (λ isnt. either (cases_Bool (nat_lt (event_rank n) all_events)) isnt)
  where
    either : (nat_lt (event_rank n) all_events ≡ true) ⊎ (nat_lt (event_rank n) all_events ≡ false) → set n ≡ false → times n (events_of set) ≡ one (set n)
    either (inl less) isnt = times_below set n all_events (ltb-true (event_rank n) all_events less)
    either (inr more) isnt = let most = ltb-false (event_rank n) all_events more in times_past set n all_events (omega (arith, most)) ∙ sym (ap one isnt)

-- ---- latches of a turn

abbrev deed_sum : Event → List Deed → ℕ
deed_sum n [] = 0
deed_sum n (d ∷ ds) = latch_in n d + deed_sum n ds

pub turn_latches : (n : Event) (a : Actor) (ds : List Deed) (past : List Entry) → latches n (add_all a ds past) ≡ deed_sum n ds + latches n past
turn_latches n a [] past = omega arith
turn_latches n a (d ∷ ds) past = let rest = turn_latches n a ds (entry a d ∷ past) in omega arith

sum-append : (n : Event) (xs ys : List Deed) → deed_sum n (xs ++ ys) ≡ deed_sum n xs + deed_sum n ys
sum-append n [] ys = omega arith
sum-append n (x ∷ xs) ys = let rest = sum-append n xs ys in omega arith

none_in : (n : Event) (ds : List Deed) → has_no_latch ds ≡ true → deed_sum n ds ≡ 0
none_in n [] none = refl
none_in n (d ∷ ds) none = let here = no_latch d (parts (not (is_latch d)) (has_no_latch ds) none).0 in let rest = none_in n ds (parts (not (is_latch d)) (has_no_latch ds) none).1 in omega arith
  where
    parts : (x y : Bool) → (x && y) ≡ true → (x ≡ true) × (y ≡ true)
    parts true y h = (refl, h)
    parts false y h = cc

    no_latch : (d : Deed) → not (is_latch d) ≡ true → latch_in n d ≡ 0
    no_latch (deed.Latch x) h = cc
    no_latch _ h = refl

latch_list : (n : Event) (es : List Event) → deed_sum n (map deed.Latch es) ≡ times n es
latch_list n [] = refl
latch_list n (x ∷ es) = let rest = latch_list n es in omega arith

pub turn_hand : (p : Phase) (ds : List Deed) (n : Event) → (in_hand p n ≡ true → event_rank n < all_events) → LatchesFirst p ds → deed_sum n ds ≡ one (in_hand p n)
turn_hand p ds n known first =
    let split = ap (deed_sum n) first.1 ∙ sum-append n (map deed.Latch (events_of (in_hand p))) first.0 in
    let latched = latch_list n (events_of (in_hand p)) ∙ times_of (in_hand p) n known in
    let rest = none_in n first.0 first.2 in
    omega arith

-- ---- where the phases show the same pulses and hands

pub record Same (f g : Actor → Phase) : Type 0 where
  pub pulses : (a : Actor) → pulses_in (g a) ≡ pulses_in (f a)
  pub holding : (a : Actor) → is_holding (g a) ≡ is_holding (f a)
  pub hand : (a : Actor) (n : Event) → in_hand (g a) n ≡ in_hand (f a) n
  pub words : (a : Actor) (w : ℕ) → has_collected (g a) w ≡ has_collected (f a) w

clear_same : (lists : List (List Event)) (f g : Actor → Phase) (n : Event) → ((a : Actor) → pulses_in (g a) ≡ pulses_in (f a)) → all_clear lists g n ≡ all_clear lists f n
clear_same lists f g n same = ap (λ h. sum_below h (length lists)) (λ i k. times_clear n (same (actor.Device k) i))

pulses_same : (lists : List (List Event)) (f g : Actor → Phase) (n : Event) → ((a : Actor) → pulses_in (g a) ≡ pulses_in (f a)) → all_pulses lists g n ≡ all_pulses lists f n
pulses_same lists f g n same = ap (λ h. sum_below h (length lists)) (λ i k. times_pulsed n (same (actor.Device k) i))

pub still : (lists : List (List Event)) (pins : Event → Bool) (past : List Entry) (f g : Actor → Phase) → Same f g → PinsSound lists pins past f → PinsSound lists pins past g
still lists pins past f g same h = record {
  start = λ k. subst (IsStart (list_of lists k)) (sym (same.pulses (actor.Device k))) (h.start k);
  counts = λ n. clear_same lists f g n same.pulses ∙ (h.counts n ∙ ap (λ x. latches n past + (one (pins n) + x)) (sym (ap (λ b. one b + one (in_hand (g actor.Poll) n)) (same.hand actor.Int n) ∙ ap (λ b. one (in_hand (f actor.Int) n) + one b) (same.hand actor.Poll n))));
  some_clear = λ n some. subst (λ x. 1 ≤ x) (sym (clear_same lists f g n same.pulses)) (h.some_clear n (subst (λ x. 1 ≤ x) (pulses_same lists f g n same.pulses) some));
  alone = ap (λ b. b && is_holding (g actor.Poll)) (same.holding actor.Int) ∙ (ap (λ b. is_holding (f actor.Int) && b) (same.holding actor.Poll) ∙ h.alone);
  hosts = λ a isnt. same.holding a ∙ h.hosts a isnt;
  collected = λ a n its. same.words a (word_of n) ∙ h.collected a n (sym (same.hand a n) ∙ its);
  pins_known = h.pins_known;
  hand_known = λ a n its. h.hand_known a n (sym (same.hand a n) ∙ its);
}

at_put : {X : Type 0} (q : Phase → X) (a : Actor) (p : Phase) (f : Actor → Phase) → q p ≡ q (f a) → (b : Actor) → q (put a p f b) ≡ q (f b)
at_put q a p f same b = by_cases (same_actor a b) (q (put a p f b) ≡ q (f b)) (λ is. subst (λ x. q (put a p f x) ≡ q (f x)) (actor_true a b is) (ap q (put_self a p f) ∙ same)) (λ apart. ap q (put_other a b p f apart))

-- a change from one phase of the lock to another
pub same_put : (a : Actor) (p q : LockPhase) (f : Actor → Phase) → f a ≡ Lock p → Same f (put a (Lock q) f)
same_put a p q f at = record {
  pulses = at_put pulses_in a (Lock q) f (sym (ap pulses_in at));
  holding = at_put is_holding a (Lock q) f (sym (ap is_holding at));
  hand = λ b n. at_put (λ x. in_hand x n) a (Lock q) f (sym (ap (λ x. in_hand x n) at)) b;
  words = λ b w. at_put (λ x. has_collected x w) a (Lock q) f (sym (ap (λ x. has_collected x w) at)) b;
}

-- ---- a turn

none_in_hand : (p : Phase) (n : Event) → is_holding p ≡ false → in_hand p n ≡ false
none_in_hand (Holding words hand) n isnt = cc
none_in_hand (Lock p) n isnt = refl
none_in_hand Free n isnt = refl
none_in_hand (Pulsed ps) n isnt = refl

holds_hand : (p : Phase) (n : Event) → in_hand p n ≡ true → is_holding p ≡ true
holds_hand (Holding words hand) n its = refl
holds_hand (Lock p) n its = cc
holds_hand Free n its = cc
holds_hand (Pulsed ps) n its = cc

moved_pulses : (d : Deed) (p : Phase) → pulses_in (moved_in d p) ≡ pulses_in p
moved_pulses d (Lock p) = refl
moved_pulses d Free = refl
moved_pulses d (Holding words hand) = refl
moved_pulses d (Pulsed ps) = refl

all_moved_pulses : (ds : List Deed) (p : Phase) → pulses_in (moved_all ds p) ≡ pulses_in p
all_moved_pulses [] p = refl
all_moved_pulses (d ∷ ds) p = all_moved_pulses ds (moved_in d p) ∙ moved_pulses d p

freed_pulses : (p : Phase) → pulses_in (freed p) ≡ pulses_in p
freed_pulses (Lock p) = refl
freed_pulses Free = refl
freed_pulses (Holding words hand) = refl
freed_pulses (Pulsed ps) = refl

freed_holding : (p : Phase) → is_holding (freed p) ≡ false
freed_holding (Lock p) = refl
freed_holding Free = refl
freed_holding (Holding words hand) = refl
freed_holding (Pulsed ps) = refl

-- the turn of a, whose new phase holds nothing
turn_keeps : (lists : List (List Event)) (pins : Event → Bool) (past later : List Entry) (f : Actor → Phase) (a : Actor) (q : Phase) → pulses_in q ≡ pulses_in (f a) → is_holding q ≡ false → ((n : Event) → latches n later ≡ one (in_hand (f a) n) + latches n past)
    → PinsSound lists pins past f → PinsSound lists pins later (put a q f)
turn_keeps lists pins past later f a q pulses free latched h = record {
  start = λ k. subst (IsStart (list_of lists k)) (sym (same (actor.Device k))) (h.start k);
  counts = λ n. clear_same lists f (put a q f) n same ∙ (h.counts n ∙ (let given = in_hands n in let more = latched n in omega arith));
  some_clear = λ n some. subst (λ x. 1 ≤ x) (sym (clear_same lists f (put a q f) n same)) (h.some_clear n (subst (λ x. 1 ≤ x) (pulses_same lists f (put a q f) n same) some));
  alone = fewer (is_holding (f actor.Int)) (is_holding (put a q f actor.Int)) (is_holding (f actor.Poll)) (is_holding (put a q f actor.Poll)) (less actor.Int) (less actor.Poll) h.alone;
  hosts = λ b isnt. not_more (is_holding (f b)) (is_holding (put a q f b)) (less b) (h.hosts b isnt);
  collected = λ b n its. let e = other b n its in ap (λ p. has_collected p (word_of n)) e ∙ h.collected b n (ap (λ p. in_hand p n) (sym e) ∙ its);
  pins_known = h.pins_known;
  hand_known = λ b n its. h.hand_known b n (ap (λ p. in_hand p n) (sym (other b n its)) ∙ its);
}
  where
    same : (b : Actor) → pulses_in (put a q f b) ≡ pulses_in (f b)
    same = at_put pulses_in a q f pulses

    -- who still has something in hand is another
    other : (b : Actor) (n : Event) → in_hand (put a q f b) n ≡ true → put a q f b ≡ f b
    other b n its = by_cases (same_actor a b) (put a q f b ≡ f b) (λ is. absurd (both (in_hand q n) (ap (λ p. in_hand p n) (sym (put_self a q f) ∙ ap (put a q f) (actor_true a b is)) ∙ its) (none_in_hand q n free))) (λ apart. put_other a b q f apart)

    less : (b : Actor) → is_holding (put a q f b) ≡ true → is_holding (f b) ≡ true
    less b its = by_cases (same_actor a b) (is_holding (f b) ≡ true) (λ is. absurd (both (is_holding q) (ap is_holding (sym (put_self a q f) ∙ ap (put a q f) (actor_true a b is)) ∙ its) free)) (λ apart. ap is_holding (sym (put_other a b q f apart)) ∙ its)

    not_more : (x y : Bool) → (y ≡ true → x ≡ true) → x ≡ false → y ≡ false
    not_more x true up isnt = absurd (both x (up refl) isnt)
    not_more x false up isnt = refl

    fewer : (x x' y y' : Bool) → (x' ≡ true → x ≡ true) → (y' ≡ true → y ≡ true) → (x && y) ≡ false → (x' && y') ≡ false
    fewer x true y true up up' none = absurd (both (x && y) (and_both x y (up refl) (up' refl)) none)
      where
        and_both : (x y : Bool) → x ≡ true → y ≡ true → (x && y) ≡ true
        and_both x y p q = ap (λ z. z && y) p ∙ q
    fewer x true y false up up' none = refl
    fewer x false y y' up up' none = refl

    hand_put : (b : Actor) (n : Event) → same_actor a b ≡ false → one (in_hand (put a q f b) n) ≡ one (in_hand (f b) n)
    hand_put b n apart = ap (λ p. one (in_hand p n)) (put_other a b q f apart)

    hand_self : (n : Event) → one (in_hand (put a q f a) n) ≡ 0
    hand_self n = ap (λ p. one (in_hand p n)) (put_self a q f) ∙ ap one (none_in_hand q n free)

    in_hands : (n : Event) → one (in_hand (f a) n) + hands (put a q f) n ≡ hands f n
    in_hands n =
        by_cases (same_actor a actor.Int) (one (in_hand (f a) n) + hands (put a q f) n ≡ hands f n)
        (λ is. subst (λ b. same_actor b actor.Poll ≡ false → one (in_hand (put b q f b) n) ≡ 0 → one (in_hand (put b q f actor.Poll) n) ≡ one (in_hand (f actor.Poll) n) → one (in_hand (f b) n) + hands (put b q f) n ≡ hands f n) (sym (actor_true a actor.Int is)) (λ apart gone there. omega arith) (subst (λ b. same_actor b actor.Poll ≡ false) (sym (actor_true a actor.Int is)) refl) (hand_self n) (hand_put actor.Poll n (subst (λ b. same_actor b actor.Poll ≡ false) (sym (actor_true a actor.Int is)) refl)))
        (λ not_int.
        let int_there = hand_put actor.Int n not_int in
        by_cases (same_actor a actor.Poll) (one (in_hand (f a) n) + hands (put a q f) n ≡ hands f n)
        (λ is. let mine = ap (λ b. one (in_hand (f b) n)) (actor_true a actor.Poll is) in let gone = ap (λ b. one (in_hand (put a q f b) n)) (sym (actor_true a actor.Poll is)) ∙ hand_self n in omega arith)
        (λ not_poll. let poll_there = hand_put actor.Poll n not_poll in let none = ap one (none_in_hand (f a) n (h.hosts a (no_host a not_int not_poll))) in omega arith))
      where
        no_host : (a : Actor) → same_actor a actor.Int ≡ false → same_actor a actor.Poll ≡ false → is_host a ≡ false
        no_host actor.Int i p = cc
        no_host actor.Poll i p = cc
        no_host _ i p = refl

pub turned_pins : (lists : List (List Event)) (c : Core) (a : Actor) (ds : List Deed) → LatchesFirst (c.phases a) ds → PinsSound lists c.pins (past_in c) c.phases → PinsSound lists c.pins (past_in (turned c a ds)) (turned c a ds).phases
turned_pins lists c a ds first h =
    turn_keeps lists c.pins (past_in c) (past_in (turned c a ds)) c.phases a (freed (moved_all ds (c.phases a)))
    (freed_pulses (moved_all ds (c.phases a)) ∙ all_moved_pulses ds (c.phases a)) (freed_holding (moved_all ds (c.phases a)))
    (λ n. ap (latches n) (turn_past c a ds) ∙ (turn_latches n a ds (past_in c) ∙ ap (λ x. x + latches n (past_in c)) (turn_hand (c.phases a) ds n (h.hand_known a n) first)))
    h
