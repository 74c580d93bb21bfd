-- The phases of actors in a row, where one of them is changed.
use Rattle.std.proofs.Common.{◌≡◌, ℕ, zero, suc, not, Bool, true, false, List, [], ◌∷◌, ◌++◌, map, slice_get, slice_set, Some, if◌then◌else◌, refl, sym, ap, ◌∙◌, subst}
use Rattle.std.proofs.lemmas.Bool.{and_parts}
use Rattle.acpi_regs.specs.declared.actor.Actor.{Actor}
use Rattle.acpi_regs.specs.Actor.{same_actor}
use Rattle.acpi_regs.specs.Phases.{Phase, first_phase, put}
use Rattle.machine_core.proofs.Standing.{same_actor-true, same_actor-refl}
use Rattle.sci_threads.specs.declared.any.AnyActor.{AnyActor}
use Rattle.machine_desc.specs.Machine.{MachineData}
use Rattle.machine_history.specs.Steps.{gives}
use Rattle.sci_threads.specs.Actors.{core_in, phases_of, stands, who}
use Rattle.sci_threads.proofs.Once.{AllOnce, absent}
use Rattle.world.specs.declared.outcome.StepOutcome.{StepOutcome}
use Rattle.world.specs.Serial.{Serial, core_of}
use Rattle.world.specs.Stepping.{after_step, is_stepped}

no : {X : Type 0} → false ≡ true → X
no e = absurd (let x = e in cc)

off : (b : Bool) → not b ≡ true → b ≡ false
off true e = no e
off false e = refl

some : {X : Type 0} (x y : X) → Some x ≡ Some y → x ≡ y
some x y e = cc

-- an actor that stands at a place is not absent
found : (actors : List AnyActor) (k : ℕ) (x : AnyActor) (a : Actor) → slice_get actors k ≡ Some x → absent a (map who actors) ≡ true → same_actor a (who x) ≡ false
found [] k x a at none = cc
found (y ∷ actors) zero x a at none = subst (λ z. same_actor a (who z) ≡ false) (some y x at) (off (same_actor a (who y)) (and_parts (not (same_actor a (who y))) (absent a (map who actors)) none).0)
found (y ∷ actors) (suc k) x a at none = found actors k x a at (and_parts (not (same_actor a (who y))) (absent a (map who actors)) none).1

pub phase-at : (actors : List AnyActor) (k : ℕ) (x : AnyActor) → AllOnce (map who actors) → slice_get actors k ≡ Some x → phases_of actors (who x) ≡ stands x
phase-at [] k x once at = cc
phase-at (y ∷ actors) zero x once at = subst (λ z. phases_of (y ∷ actors) (who z) ≡ stands z) (some y x at) (rw (same_actor-refl (who y)) refl)
phase-at (y ∷ actors) (suc k) x once at = rw (found actors k x (who y) at once.0) (phase-at actors k x once.1 at)

pub names-set : (actors : List AnyActor) (k : ℕ) (x x' : AnyActor) → slice_get actors k ≡ Some x → who x' ≡ who x → map who (slice_set actors k x') ≡ map who actors
names-set [] k x x' at same = cc
names-set (y ∷ actors) zero x x' at same = ap (λ a. a ∷ map who actors) (same ∙ ap who (sym (some y x at)))
names-set (y ∷ actors) (suc k) x x' at same = ap (λ l. who y ∷ l) (names-set actors k x x' at same)

-- an actor that is in front of another
passed : (b c : Bool) (p q r : Phase) → (b ≡ true → c ≡ true → p ≡ q) → (if b then p else (if c then q else r)) ≡ (if c then q else (if b then p else r))
passed true true p q r h = h refl refl
passed true false p q r h = refl
passed false true p q r h = refl
passed false false p q r h = refl

pub phases-set : (actors : List AnyActor) (k : ℕ) (x x' : AnyActor) → AllOnce (map who actors) → slice_get actors k ≡ Some x → who x' ≡ who x → (b : Actor) → phases_of (slice_set actors k x') b ≡ put (who x) (stands x') (phases_of actors) b
phases-set [] k x x' once at same b = cc
phases-set (y ∷ actors) zero x x' once at same b =
    (λ i. if same_actor (same i) b then stands x' else phases_of actors b) ∙ by_same (same_actor (who x) b) (same_actor (who y) b) (ap (λ z. same_actor (who z) b) (some y x at)) (stands x') (stands y) (phases_of actors b)
  where
    by_same : (c d : Bool) → d ≡ c → (p q r : Phase) → (if c then p else r) ≡ (if c then p else (if d then q else r))
    by_same true d is p q r = refl
    by_same false true is p q r = no (sym is)
    by_same false false is p q r = refl
phases-set (y ∷ actors) (suc k) x x' once at same b =
    ap (λ p. if same_actor (who y) b then stands y else p) (phases-set actors k x x' once.1 at same b)
    ∙ passed (same_actor (who y) b) (same_actor (who x) b) (stands y) (stands x') (phases_of actors b) (λ one two. no (sym (found actors k x (who y) at once.0) ∙ apart one two))
  where
    apart : same_actor (who y) b ≡ true → same_actor (who x) b ≡ true → same_actor (who y) (who x) ≡ true
    apart one two = subst (λ a. same_actor (who y) a ≡ true) (sym (same_actor-true (who x) b two)) one

-- at their start all actors are in their first phases
pub phases-first : (actors : List AnyActor) (names : List Actor) → map who actors ≡ names → map stands actors ≡ map first_phase names → (b : Actor) → phases_of actors b ≡ first_phase b
phases-first [] names who_are stands_are b = refl
phases-first (y ∷ actors) [] who_are stands_are b = cc
phases-first (y ∷ actors) (a ∷ names) who_are stands_are b = by_same (same_actor (who y) b) refl (phases-first actors names (let e : map who actors ≡ names = cc in e) (let e : map stands actors ≡ map first_phase names = cc in e) b)
  where
    by_same : (c : Bool) → same_actor (who y) b ≡ c → phases_of actors b ≡ first_phase b → (if c then stands y else phases_of actors b) ≡ first_phase b
    by_same true is rest =
        let named : who y ≡ a = cc in
        let stood : stands y ≡ first_phase a = cc in
        stood ∙ ap first_phase (sym named ∙ same_actor-true (who y) b is)
    by_same false is rest = rest

-- one actor more, at its start
pub push-names : (actors : List AnyActor) (x : AnyActor) → map who (actors ++ x ∷ []) ≡ map who actors ++ who x ∷ []
push-names [] x = refl
push-names (y ∷ actors) x = ap (λ l. who y ∷ l) (push-names actors x)

pub push-stands : (actors : List AnyActor) (x : AnyActor) → map stands (actors ++ x ∷ []) ≡ map stands actors ++ stands x ∷ []
push-stands [] x = refl
push-stands (y ∷ actors) x = ap (λ l. stands y ∷ l) (push-stands actors x)

pub push-first : (names : List Actor) (a : Actor) → map first_phase (names ++ a ∷ []) ≡ map first_phase names ++ first_phase a ∷ []
push-first [] a = refl
push-first (y ∷ names) a = ap (λ l. first_phase y ∷ l) (push-first names a)

-- ---- one step of the actor at a place

name-at : (actors : List AnyActor) (k : ℕ) (x : AnyActor) → slice_get actors k ≡ Some x → slice_get (map who actors) k ≡ Some (who x)
name-at [] k x at = cc
name-at (y ∷ actors) zero x at = ap (λ z. Some (who z)) (some y x at)
name-at (y ∷ actors) (suc k) x at = name-at actors k x at

-- the actor of that name
pub named-at : (names : List Actor) (actors : List AnyActor) (k : ℕ) (x : AnyActor) (a : Actor) → map who actors ≡ names → slice_get actors k ≡ Some x → slice_get names k ≡ Some a → a ≡ who x
named-at names actors k x a is at named = some a (who x) (sym named ∙ (ap (λ l. slice_get l k) (sym is) ∙ name-at actors k x at))

put-own : (a : Actor) (p : Phase) (phases : Actor → Phase) → phases a ≡ p → (b : Actor) → put a p phases b ≡ phases b
put-own a p phases at b = by_same (same_actor a b) refl
  where
    by_same : (c : Bool) → same_actor a b ≡ c → (if c then p else phases b) ≡ phases b
    by_same true is = sym at ∙ ap phases (same_actor-true a b is)
    by_same false is = refl

-- where its step is what it is given, so is the step of the row
pub record PlacedStep (m : MachineData) (w w' : Serial) (actors actors' : List AnyActor) (a : Actor) (o : StepOutcome) : Type 0 where
  pub given : gives m (core_in w actors) a ≡ after_step o (core_in w' actors')
  pub idle : is_stepped o ≡ false → core_in w' actors' ≡ core_in w actors

pub placed-step : (m : MachineData) (w w' : Serial) (actors : List AnyActor) (k : ℕ) (x x' : AnyActor) (o : StepOutcome) → AllOnce (map who actors) → slice_get actors k ≡ Some x → who x' ≡ who x
    → ((phases : Actor → Phase) → phases (who x) ≡ stands x → gives m (core_of w phases) (who x) ≡ after_step o (core_of w' (put (who x) (stands x') phases)))
    → (is_stepped o ≡ false → ((phases : Actor → Phase) → core_of w' phases ≡ core_of w phases) × (stands x' ≡ stands x))
    → PlacedStep m w w' actors (slice_set actors k x') (who x) o
placed-step m w w' actors k x x' o once at same given still =
    let own = phase-at actors k x once at in
    let set : phases_of (slice_set actors k x') ≡ put (who x) (stands x') (phases_of actors) = λ i b. phases-set actors k x x' once at same b i in
    record {
      given = given (phases_of actors) own ∙ (λ i. after_step o (core_of w' (sym set i)));
      idle = λ none. (let stays = still none in
          (λ i. core_of w' (set i)) ∙ ((λ i. core_of w' (λ b. put-own (who x) (stands x') (phases_of actors) (own ∙ sym stays.1) b i)) ∙ stays.0 (phases_of actors)));
    }
