-- What the seats of a race bring back into the root.
use Rattle.std.proofs.Common.{◌≡◌, ℕ, zero, suc, ◌+◌, ◌<◌, ◌≤◌, ◌⊎◌, inl, inr, not, true, false, cond, List, [], ◌∷◌, ◌++◌, append-nil, length, map, get_or, Some, None, is_none, refl, sym, ap, subst, ◌∙◌, arith}
use Rattle.std.proofs.lemmas.Bool.{and_from, and_parts, false_from_ne_true, not-true, or_parts}
use Rattle.std.proofs.lemmas.List.Elements.{All-cons, All-nil}
use Rattle.std.proofs.lemmas.List.Sums.{sum_by-cons}
use Rattle.std.specs.List.{All}
use Rattle.std.specs.Prelude.{slice_get, sum_by, unwrap_or}
use Rattle.acpi_regs.specs.declared.actor.Actor.{Actor}
use Rattle.acpi_regs.specs.declared.actor.Actor.TheVariants as actor
use Rattle.acpi_regs.specs.Actor.{same_actor}
use Rattle.acpi_regs.specs.Phases.{first_phase}
use Rattle.acpi_regs.proofs.LockActors.{actor_self, actor_true}
use Rattle.atomic_table.specs.Seated.{TableId}
use Rattle.lock_table.specs.declared.view.Occupant.TheVariants as who
use Rattle.lock_table.specs.declared.view.Part.{Part}
use Rattle.lock_table.specs.declared.view.View.{View}
use Rattle.lock_table.specs.Calls.{Pass}
use Rattle.lock_table.specs.Roots.{HasAllBut, HasFreshBut, is_among}
use Rattle.lock_table.specs.Views.{ForOne, find, first_kept, fresh, phase_of, pulses_of, root_parts}
use Rattle.lock_table.proofs.OneStep.{for_one}
use Rattle.lock_table.proofs.Rooting.{fresh_has, has_all}
use Rattle.machine_desc.specs.Actors.{actors_of}
use Rattle.machine_desc.specs.Machine.{MachineData}
use Rattle.machine_desc.specs.Weight.{weight_of}
use Rattle.machine_history.specs.Steps.{pulses}
use Rattle.acpi_regs.specs.declared.event.Event.{Event}
use Rattle.sci_threads.specs.declared.any.AnyActor.{AnyActor}
use Rattle.sci_threads.specs.declared.shared.ActorSeat.{ActorSeat}
use Rattle.sci_threads.specs.Actors.{stands, who as who_of}
use Rattle.sci_threads.specs.Seats.{IsFirst, IsRootOf, names_of, part_back, parts_back}
use Rattle.sci_threads.specs.Shared.{Agrees, IsAtEnd, IsOf, Ran, RanOn, ends_as, steps_as, steps_in}
use Rattle.sci_threads.proofs.Once.{AllOnce, absent}
use Rattle.threaded_run.specs.Raced.{AreBack, IsBack, turns_of}

-- ---- at the start

pub first_is : (a : Actor) → phase_of (first_kept a) ≡ first_phase a
first_is actor.Int = refl
first_is actor.Poll = refl
first_is (actor.Worker k) = refl
first_is actor.Ec = refl
first_is (actor.Device k) = refl
first_is (actor.Firmware k) = refl

pub first_agrees : (id : TableId) (x : ActorSeat) → IsFirst id x → Agrees id x
first_agrees id x h = record {
  table = h.table;
  away = h.away;
  part = subst (ForOne (IsOf (who_of x.actor) (stands x.actor))) (sym h.fresh) (refl, first_is (who_of x.actor) ∙ sym h.stands);
}

-- ---- one seat that ran

-- at its end, or so many steps are told
abbrev pub RanOut : MachineData → ℕ → AnyActor → Part → Type 0
RanOut m turns x p = IsOf (who_of x) (stands x) p × (IsAtEnd m p ⊎ (turns ≤ steps_as p.actor p))

abbrev pub Ended : MachineData → ℕ → ActorSeat → Type 0
Ended m turns y = (p : Part) × (y.seat.view.who ≡ who.One p) × RanOut m turns y.actor p

pub ended : (m : MachineData) (id : TableId) (turns : ℕ) (x y : ActorSeat) → RanOn m id turns x y → Ended m turns y
ended m id turns x y h =
    let one = for_one (IsOf (who_of y.actor) (stands y.actor)) y.seat.view.who h.agrees.part in
    (one.0, one.1, (one.2, of one.0 one.1 h.ran))
  where
    of : (p : Part) → y.seat.view.who ≡ who.One p → Ran m turns x.seat.view.who y.seat.view.who → IsAtEnd m p ⊎ (turns ≤ steps_as p.actor p)
    of p is (inl end) = inl (subst (ForOne (IsAtEnd m)) is end)
    of p is (inr told) = let steps = ap steps_in (sym is) ∙ told in inr (omega arith)

-- ---- a device's list is no longer than the weight

beyond : {X : Type 0} (xs : List X) (n : ℕ) → length xs ≤ n → slice_get xs n ≡ None
beyond [] n h = refl
beyond (x ∷ xs) zero h = absurd (omega arith)
beyond (x ∷ xs) (suc n) h = beyond xs n (omega arith)

less-left : (a b : ℕ) → a ≤ a + b
less-left a b = omega arith

less-right : (a b c : ℕ) → c ≤ b → c ≤ a + b
less-right a b c h = omega arith

within_sum : (devices : List (List Event)) (k : ℕ) → length (unwrap_or (slice_get devices k) []) ≤ sum_by length devices
within_sum [] k = omega arith
within_sum (d ∷ devices) zero = subst (λ s. length d ≤ s) (sym (sum_by-cons length d devices)) (less-left (length d) (sum_by length devices))
within_sum (d ∷ devices) (suc k) =
    subst (λ s. length (unwrap_or (slice_get devices k) []) ≤ s) (sym (sum_by-cons length d devices)) (less-right (length d) (sum_by length devices) (length (unwrap_or (slice_get devices k) [])) (within_sum devices k))

within_weight : (m : MachineData) (k : ℕ) → length (pulses m k) ≤ weight_of m
unfolding weight_of
within_weight m k = let rest = within_sum m.devices k in omega arith

-- of a device that tells of so many pulses the list is through, and every other actor tried so often
pub has_ran : (m : MachineData) (p : Part) → IsAtEnd m p ⊎ (turns_of m ≤ steps_as p.actor p) → IsAtEnd m p ⊎ (turns_of m ≤ p.tried)
has_ran m p (inl end) = inl end
has_ran m p (inr told) = by_actor p.actor refl
  where
    by_actor : (a : Actor) → p.actor ≡ a → IsAtEnd m p ⊎ (turns_of m ≤ p.tried)
    by_actor (actor.Device k) is =
        let steps : turns_of m ≤ length (pulses_of p.phase) = subst (λ b. turns_of m ≤ steps_as b p) is told in
        let short = within_weight m k in
        inl (subst (λ b. ends_as m b p ≡ true) (sym is) (ap is_none (beyond (pulses m k) (length (pulses_of p.phase)) (omega arith))))
    by_actor actor.Int is = inr (subst (λ b. turns_of m ≤ steps_as b p) is told)
    by_actor actor.Poll is = inr (subst (λ b. turns_of m ≤ steps_as b p) is told)
    by_actor actor.Ec is = inr (subst (λ b. turns_of m ≤ steps_as b p) is told)
    by_actor (actor.Worker k) is = inr (subst (λ b. turns_of m ≤ steps_as b p) is told)
    by_actor (actor.Firmware k) is = inr (subst (λ b. turns_of m ≤ steps_as b p) is told)

-- ---- many seats

-- each has its actor, which ran
abbrev pub AllEnded : MachineData → ℕ → List ActorSeat → Type 0
AllEnded m turns [] = Unit {0}
AllEnded m turns (y ∷ seats) = Ended m turns y × AllEnded m turns seats

-- what running them beside one another tells of all
pub record HaveRun (m : MachineData) (id : TableId) (turns : ℕ) (olds news : List ActorSeat) : Type 0 where
  pub names : names_of news ≡ names_of olds
  pub agree : All (Agrees id) news
  pub ended : AllEnded m turns news

pub have_run : (m : MachineData) (id : TableId) (turns : ℕ) (olds news : List ActorSeat) → length news ≡ length olds → ((i : ℕ) (d : ActorSeat) → i < length olds → RanOn m id turns (get_or olds i d) (get_or news i d)) → HaveRun m id turns olds news
have_run m id turns [] [] same each = record { names = refl; agree = All-nil (Agrees id); ended = tt }
have_run m id turns [] (y ∷ news) same each = absurd (omega arith)
have_run m id turns (x ∷ olds) [] same each = absurd (omega arith)
have_run m id turns (x ∷ olds) (y ∷ news) same each =
    let first = each 0 x (omega arith) in
    let rest = have_run m id turns olds news (omega arith) (λ i d less. each (suc i) d (omega arith)) in
    record {
      names = (λ i. first.same_actor i ∷ rest.names i);
      agree = All-cons (Agrees id) y news first.agrees rest.agree;
      ended = (ended m id turns x y first, rest.ended);
    }

-- ---- back in the root

no_false : {X : Type 0} → false ≡ true → X
no_false e = absurd (let x = e in cc)

pub actor_swap : (a b : Actor) → same_actor a b ≡ false → same_actor b a ≡ false
actor_swap a b apart = false_from_ne_true (same_actor b a) (λ same. no_false (sym apart ∙ subst (λ x. same_actor x b ≡ true) (actor_true b a same) (actor_self b)))

-- what is found of an actor stays where others come back
pub not_back : (m : MachineData) (turns : ℕ) (seats : List ActorSeat) (parts : List Part) (a : Actor) → AllEnded m turns seats → absent a (names_of seats) ≡ true → find a (parts_back seats parts) ≡ find a parts
not_back m turns [] parts a all none = refl
not_back m turns (y ∷ seats) parts a all none =
    let p = all.0.0 in
    let apart = and_parts (not (same_actor a (who_of y.actor))) (absent a (names_of seats)) none in
    let other : same_actor a p.actor ≡ false = subst (λ b. same_actor a b ≡ false) (sym all.0.2.0.0) (not-true (same_actor a (who_of y.actor)) apart.0) in
    not_back m turns seats (part_back y.seat.view.who parts) a all.1 apart.1
    ∙ (ap (λ o. find a (part_back o parts)) all.0.1 ∙ ap (λ b. cond b (Some p) (find a parts)) other)

-- each actor is back
pub all_back : (m : MachineData) (seats : List ActorSeat) (parts : List Part) → AllEnded m (turns_of m) seats → AllOnce (names_of seats) → All (IsBack m (turns_of m) (parts_back seats parts)) (map (λ (x : ActorSeat). x.actor) seats)
all_back m [] parts all once = All-nil (IsBack m (turns_of m) parts)
all_back m (y ∷ seats) parts all once =
    let p = all.0.0 in
    let back = part_back y.seat.view.who parts in
    let own : same_actor (who_of y.actor) p.actor ≡ true = subst (λ b. same_actor (who_of y.actor) b ≡ true) (sym all.0.2.0.0) (actor_self (who_of y.actor)) in
    let there : find (who_of y.actor) (parts_back seats back) ≡ Some p = not_back m (turns_of m) seats back (who_of y.actor) all.1 once.0
    ∙ (ap (λ o. find (who_of y.actor) (part_back o parts)) all.0.1 ∙ ap (λ b. cond b (Some p) (find (who_of y.actor) parts)) own) in
    All-cons (IsBack m (turns_of m) (parts_back seats back)) y.actor (map (λ (x : ActorSeat). x.actor) seats)
    (record { part = p; there = there; phase = all.0.2.0.1; ran = has_ran m p all.0.2.1 }) (all_back m seats back all.1 once.1)

-- an actor of none of the seats
absent_of : (a : Actor) (names : List Actor) → is_among a names ≡ false → absent a names ≡ true
absent_of a [] none = refl
absent_of a (b ∷ names) none =
    let parts = or_parts (same_actor a b) (is_among a names) none in
    and_from (not (same_actor a b)) (absent a names) (ap not parts.0) (absent_of a names parts.1)

pub others_stay : (m : MachineData) (turns : ℕ) (seats : List ActorSeat) (v w : View) → AllEnded m turns seats → root_parts w.who ≡ parts_back seats (root_parts v.who) → HasFreshBut (names_of seats) v → HasFreshBut (names_of seats) w
others_stay m turns seats v w all back fresh a known among = ap (find a) back ∙ (not_back m turns seats (root_parts v.who) a all (absent_of a (names_of seats) among) ∙ fresh a known among)

-- ---- the root with every actor

pub is_back : (m base : MachineData) (id : TableId) (start root : Pass) (olds news : List ActorSeat) (actors : List AnyActor) → AllOnce (actors_of m) → base ≡ m
    → names_of olds ≡ actors_of m → HasFreshBut (actors_of m) start.view → HaveRun m id (turns_of m) olds news
    → IsRootOf id root → root_parts root.view.who ≡ parts_back news (root_parts start.view.who) → ((away : List Actor) → HasAllBut (names_of news ++ away) start.view → HasAllBut away root.view)
    → actors ≡ map (λ (x : ActorSeat). x.actor) news → AreBack m base id root actors
is_back m base id start root olds news actors once same whole fresh_are ran rooted parts back items =
    let named : names_of news ≡ actors_of m = ran.names ∙ whole in
    let fresh_now : HasFreshBut (names_of news) start.view = subst (λ l. HasFreshBut l start.view) (sym named) fresh_are in
    record {
      same = same;
      root_is = rooted;
      all = has_all root.view (back [] (subst (λ l. HasAllBut l start.view) (sym (append-nil (names_of news))) (fresh_has (names_of news) start.view fresh_now)));
      whole = ap (map who_of) items ∙ (names_are news ∙ named);
      back = subst (All (IsBack m (turns_of m) (root_parts root.view.who))) (sym items)
          (subst (λ l. All (IsBack m (turns_of m) l) (map (λ (x : ActorSeat). x.actor) news)) (sym parts)
          (all_back m news (root_parts start.view.who) ran.ended (subst AllOnce (sym named) once)));
      others = subst (λ l. HasFreshBut l root.view) named (others_stay m (turns_of m) news start.view root.view ran.ended parts fresh_now);
    }
  where
    names_are : (seats : List ActorSeat) → map who_of (map (λ (x : ActorSeat). x.actor) seats) ≡ names_of seats
    names_are [] = refl
    names_are (x ∷ seats) = ap (λ l. who_of x.actor ∷ l) (names_are seats)
