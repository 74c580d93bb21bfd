-- Actors, the sides for which they compete, and phases of which one is changed.
use Rattle.std.proofs.Common.{◌≡◌, Bool, true, false, cond, Option, Some, None, refl, sym, ap, ◌∙◌, subst, if◌then◌else◌}
use Rattle.std.proofs.lemmas.Bool.{eq-eqb, eqb-true}
use Rattle.acpi_regs.specs.declared.actor.Actor.{Actor}
use Rattle.acpi_regs.specs.declared.actor.Actor.TheVariants as actor
use Rattle.acpi_regs.specs.declared.actor.Side.{Side}
use Rattle.acpi_regs.specs.declared.actor.Side.TheVariants as side
use Rattle.acpi_regs.specs.declared.phase.LockPhase.{LockPhase}
use Rattle.acpi_regs.specs.Actor.{same_actor, stands_on}
use Rattle.acpi_regs.specs.CoreSound.{competes, lock_phase, lock_phases, phase_at}
use Rattle.acpi_regs.specs.Lock.{is_someone, other}
use Rattle.acpi_regs.specs.Phases.{Phase, put}

-- ---- one actor or two

pub actor_self : (a : Actor) → same_actor a a ≡ true
actor_self actor.Int = refl
actor_self actor.Poll = refl
actor_self (actor.Worker k) = eq-eqb k k refl
actor_self actor.Ec = refl
actor_self (actor.Device k) = eq-eqb k k refl
actor_self (actor.Firmware k) = eq-eqb k k refl

pub actor_true : (a b : Actor) → same_actor a b ≡ true → a ≡ b
actor_true actor.Int actor.Int same = refl
actor_true actor.Poll actor.Poll same = refl
actor_true (actor.Worker j) (actor.Worker k) same = ap actor.Worker (eqb-true j k same)
actor_true actor.Ec actor.Ec same = refl
actor_true (actor.Device j) (actor.Device k) same = ap actor.Device (eqb-true j k same)
actor_true (actor.Firmware j) (actor.Firmware k) same = ap actor.Firmware (eqb-true j k same)
actor_true _ _ same = cc

pub by_cases : (b : Bool) (P : Type 0) → (b ≡ true → P) → (b ≡ false → P) → P
by_cases true P is isnt = is refl
by_cases false P is isnt = isnt refl

pub actor_swap : (a b : Actor) → same_actor a b ≡ false → same_actor b a ≡ false
actor_swap a b apart = by_cases (same_actor b a) (same_actor b a ≡ false) (λ same. (let self = actor_self a in let not_self = subst (λ x. same_actor a x ≡ false) (actor_true b a same) apart in absurd (both (same_actor a a) self not_self))) (λ e. e)
  where
    both : (x : Bool) → x ≡ true → x ≡ false → ⊥
    both x p q = cc

pub someone_is : (a : Actor) (o : Option Actor) → is_someone a o ≡ true → o ≡ Some a
someone_is a None is = cc
someone_is a (Some b) is = ap Some (sym (actor_true a b is))

pub someone_self : (a : Actor) (o : Option Actor) → o ≡ Some a → is_someone a o ≡ true
someone_self a o is = ap (is_someone a) is ∙ actor_self a

-- ---- sides

pub competes_stands : (s : Side) (a : Actor) → competes s a ≡ true → stands_on s a ≡ true
competes_stands side.Os (actor.Worker k) is = refl
competes_stands side.Firmware (actor.Firmware k) is = refl
competes_stands side.Os _ is = cc
competes_stands side.Firmware _ is = cc

pub one_side : (s t : Side) (a : Actor) → competes s a ≡ true → stands_on t a ≡ true → t ≡ s
one_side side.Os side.Os a is at = refl
one_side side.Firmware side.Firmware a is at = refl
one_side side.Os side.Firmware (actor.Worker k) is at = cc
one_side side.Os side.Firmware _ is at = cc
one_side side.Firmware side.Os (actor.Firmware k) is at = cc
one_side side.Firmware side.Os _ is at = cc

-- who competes for two sides is two
pub apart : (s : Side) (a b : Actor) → competes s a ≡ true → competes (other s) b ≡ true → same_actor a b ≡ false
apart side.Os (actor.Worker k) (actor.Firmware j) is at = refl
apart side.Firmware (actor.Firmware k) (actor.Worker j) is at = refl
apart side.Os (actor.Worker k) _ is at = cc
apart side.Os _ _ is at = cc
apart side.Firmware (actor.Firmware k) _ is at = cc
apart side.Firmware _ _ is at = cc

-- ---- phases of which one is changed

abbrev pub set : Actor → LockPhase → (Actor → LockPhase) → Actor → LockPhase
set a p f b = if same_actor a b then p else f b

pub set_self : (a : Actor) (p : LockPhase) (f : Actor → LockPhase) → set a p f a ≡ p
set_self a p f = ap (λ b. cond b p (f a)) (actor_self a)

pub set_other : (a b : Actor) (p : LockPhase) (f : Actor → LockPhase) → same_actor a b ≡ false → set a p f b ≡ f b
set_other a b p f other = ap (λ x. cond x p (f b)) other

pub set_same : (a : Actor) (f : Actor → LockPhase) → set a (f a) f ≡ f
set_same a f = λ i b. at b i
  where
    at : (b : Actor) → set a (f a) f b ≡ f b
    at b = by_cases (same_actor a b) (set a (f a) f b ≡ f b) (λ same. ap (λ x. cond x (f a) (f b)) same ∙ ap f (actor_true a b same)) (λ apart. set_other a b (f a) f apart)

pub put_self : (a : Actor) (p : Phase) (f : Actor → Phase) → put a p f a ≡ p
put_self a p f = ap (λ b. cond b p (f a)) (actor_self a)

pub put_other : (a b : Actor) (p : Phase) (f : Actor → Phase) → same_actor a b ≡ false → put a p f b ≡ f b
put_other a b p f other = ap (λ x. cond x p (f b)) other

pub put_same : (a : Actor) (f : Actor → Phase) → put a (f a) f ≡ f
put_same a f = λ i b. at b i
  where
    at : (b : Actor) → put a (f a) f b ≡ f b
    at b = by_cases (same_actor a b) (put a (f a) f b ≡ f b) (λ same. ap (λ x. cond x (f a) (f b)) same ∙ ap f (actor_true a b same)) (λ apart. put_other a b (f a) f apart)

pub put_put : (a : Actor) (p q : Phase) (f : Actor → Phase) → put a p (put a q f) ≡ put a p f
put_put a p q f = λ i b. at (same_actor a b) (f b) i
  where
    at : (x : Bool) (r : Phase) → cond x p (cond x q r) ≡ cond x p r
    at true r = refl
    at false r = refl

-- what the lock sees of a change of a phase
pub set_put : (a : Actor) (p : Phase) (q : Phase) (f : Actor → Phase) → set a (lock_phase p) (lock_phases (put a q f)) ≡ lock_phases (put a p f)
set_put a p q f = λ i b. at (same_actor a b) (f b) i
  where
    at : (x : Bool) (r : Phase) → cond x (lock_phase p) (lock_phase (cond x q r)) ≡ lock_phase (cond x p r)
    at true r = refl
    at false r = refl

-- a phase of which the lock sees nothing
pub set_unseen : (a : Actor) (p : Phase) (f : Actor → Phase) → lock_phase p ≡ lock_phase (f a) → lock_phases (put a p f) ≡ lock_phases f
set_unseen a p f same = λ i b. at b i
  where
    at : (b : Actor) → lock_phase (put a p f b) ≡ lock_phase (f b)
    at b = by_cases (same_actor a b) (lock_phase (put a p f b) ≡ lock_phase (f b)) (λ is. ap (λ x. lock_phase (cond x p (f b))) is ∙ (same ∙ ap (λ x. lock_phase (f x)) (actor_true a b is))) (λ apart. ap lock_phase (put_other a b p f apart))

-- the seeker of the other side is another
pub at_other : (s : Side) (a : Actor) (p : LockPhase) (f : Actor → LockPhase) (o : Option Actor) → competes s a ≡ true → ((b : Actor) → o ≡ Some b → competes (other s) b ≡ true) → phase_at (set a p f) o ≡ phase_at f o
at_other s a p f None is each = refl
at_other s a p f (Some b) is each = set_other a b p f (apart s a b is (each b refl))
