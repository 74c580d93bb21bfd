-- Small facts: the conditions of a row, and values that are the same.
use Rattle.std.proofs.Common.{ℕ, ◌≡◌, Bool, true, false, cond, ◌==◌, List, [], ◌∷◌, Option, Some, None, is_none, refl, sym, ap, ◌∙◌, inl, inr}
use Rattle.std.proofs.lemmas.Bool.{and_from, and_parts, cases_Bool, eq-eqb, eqb-true, ne_eqb, eqb-false}
use Rattle.acpi_regs.specs.declared.actor.Actor.{Actor}
use Rattle.acpi_regs.specs.declared.actor.Actor.TheVariants as actor
use Rattle.acpi_regs.specs.declared.entry.Cell.{Cell}
use Rattle.acpi_regs.specs.declared.entry.Deed.{Deed}
use Rattle.acpi_regs.specs.declared.entry.Entry.{Entry}
use Rattle.acpi_regs.specs.declared.entry.Request.{Request}
use Rattle.acpi_regs.specs.declared.entry.Request.TheVariants as request
use Rattle.acpi_regs.specs.declared.event.Event.{Event}
use Rattle.acpi_regs.specs.declared.event.Event.TheVariants as event
use Rattle.acpi_regs.specs.declared.event.Fixed.{Fixed}
use Rattle.acpi_regs.specs.declared.event.Fixed.TheVariants as fixed
use Rattle.acpi_regs.specs.Actor.{same_actor}
use Rattle.acpi_regs.specs.Event.{fixed_rank, same_event}
use Rattle.acpi_regs.specs.Lock.{is_someone}
use Rattle.machine_desc.specs.Machine.{MachineData}
use Rattle.machine_history.specs.declared.rule.LogRule.{LogRule}
use Rattle.machine_history.specs.Legal.{Allowed, conditions, first_failing, same_request}
use Rattle.machine_history.specs.Values.{same_cell}

pub some-injective : {X : Type 0} (x y : X) → Some x ≡ Some y → x ≡ y
some-injective x y same = cc

pub is_none-none : {X : Type 0} (o : Option X) → is_none o ≡ true → o ≡ None
is_none-none None none = refl
is_none-none (Some x) none = cc

-- ---- conditions

-- each condition holds
abbrev pub AllHold : List (LogRule × Bool) → Type 0
AllHold [] = Unit {0}
AllHold (condition ∷ conditions) = (condition.1 ≡ true) × AllHold conditions

pub first_failing-none : (conditions : List (LogRule × Bool)) → first_failing conditions ≡ None → AllHold conditions
first_failing-none [] none = tt
first_failing-none (condition ∷ conditions) none = both condition.1 none (λ rest. first_failing-none conditions rest)
  where
    both : (b : Bool) → cond b (first_failing conditions) (Some condition.0) ≡ None → (first_failing conditions ≡ None → AllHold conditions) → (b ≡ true) × AllHold conditions
    both true none rest = (refl, rest none)
    both false none rest = cc

pub none_failing : (conditions : List (LogRule × Bool)) → AllHold conditions → first_failing conditions ≡ None
none_failing [] all = refl
none_failing (condition ∷ conditions) all = rw all.0 (none_failing conditions all.1)

-- the conditions of an entry that is allowed
pub hold : (m : MachineData) (past : List Entry) (a : Actor) (d : Deed) → Allowed m past (record { actor = a; deed = d }) → AllHold (conditions m past a d)
hold m past a d allowed = first_failing-none (conditions m past a d) allowed

-- ---- actors

pub same_self : (a : Actor) → same_actor a a ≡ true
same_self actor.Int = refl
same_self actor.Poll = refl
same_self (actor.Worker k) = eq-eqb k k refl
same_self actor.Ec = refl
same_self (actor.Device k) = eq-eqb k k refl
same_self (actor.Firmware k) = eq-eqb k k refl

pub same_actor-true : (a b : Actor) → same_actor a b ≡ true → a ≡ b
same_actor-true actor.Int actor.Int same = refl
same_actor-true actor.Poll actor.Poll same = refl
same_actor-true (actor.Worker j) (actor.Worker k) same = ap actor.Worker (eqb-true j k same)
same_actor-true actor.Ec actor.Ec same = refl
same_actor-true (actor.Device j) (actor.Device k) same = ap actor.Device (eqb-true j k same)
same_actor-true (actor.Firmware j) (actor.Firmware k) same = ap actor.Firmware (eqb-true j k same)
same_actor-true _ _ same = cc

pub none_someone : (a : Actor) (o : Option Actor) → is_none o ≡ true → is_someone a o ≡ false
none_someone a None none = refl
none_someone a (Some b) none = cc

-- where b is this one, another is not
pub other_someone : (a b : Actor) (o : Option Actor) → same_actor a b ≡ false → is_someone b o ≡ true → is_someone a o ≡ false
other_someone a b None other is = cc
other_someone a b (Some c) other is = rw (← same_actor-true b c is) other

-- ---- events, cells and requests

pub same_fixed : (f g : Fixed) → (fixed_rank f == fixed_rank g) ≡ true → f ≡ g
same_fixed fixed.Tmr fixed.Tmr same = refl
same_fixed fixed.Gbl fixed.Gbl same = refl
same_fixed fixed.Pwr fixed.Pwr same = refl
same_fixed fixed.Slp fixed.Slp same = refl
same_fixed fixed.Rtc fixed.Rtc same = refl
same_fixed _ _ same = cc

pub same_event-true : (x n : Event) → same_event x n ≡ true → x ≡ n
same_event-true (event.Fixed f) (event.Fixed g) same = ap event.Fixed (same_fixed f g same)
same_event-true (event.Gpe j) (event.Gpe k) same = ap event.Gpe (eqb-true j k same)
same_event-true (event.Fixed f) (event.Gpe k) same = cc
same_event-true (event.Gpe j) (event.Fixed g) same = cc

pub same_event-self : (n : Event) → same_event n n ≡ true
same_event-self (event.Fixed f) = eq-eqb (fixed_rank f) (fixed_rank f) refl
same_event-self (event.Gpe k) = eq-eqb k k refl

pub equal_swap : (j k : ℕ) → (j == k) ≡ (k == j)
equal_swap j k = elim (cases_Bool (k == j)) [
  | inl same ↦ eq-eqb j k (sym (eqb-true k j same)) ∙ sym same
  | inr other ↦ ne_eqb j k (λ same. eqb-false k j other (sym same)) ∙ sym other
]

pub same_event-swap : (x n : Event) → same_event x n ≡ same_event n x
same_event-swap (event.Fixed f) (event.Fixed g) = equal_swap (fixed_rank f) (fixed_rank g)
same_event-swap (event.Gpe j) (event.Gpe k) = equal_swap j k
same_event-swap (event.Fixed f) (event.Gpe k) = refl
same_event-swap (event.Gpe j) (event.Fixed g) = refl

abbrev pub cell_at : ℕ → ℕ → Cell
cell_at region offset = record { region = region; offset = offset }

pub same_cell-true : (c d : Cell) → same_cell c d ≡ true → c ≡ d
same_cell-true c d same =
    let parts = and_parts _ _ same in
    ap (λ region. cell_at region c.offset) (eqb-true _ _ parts.0) ∙ ap (λ offset. cell_at d.region offset) (eqb-true _ _ parts.1)

pub same_cell-self : (c : Cell) → same_cell c c ≡ true
same_cell-self c = and_from _ _ (eq-eqb c.region c.region refl) (eq-eqb c.offset c.offset refl)

pub same_request-true : (r s : Request) → same_request r s ≡ true → r ≡ s
same_request-true (request.Rd x) (request.Rd y) same = ap request.Rd (eqb-true x y same)
same_request-true (request.Wr x v) (request.Wr y w) same =
    let parts = and_parts _ _ same in
    ap (λ z. request.Wr z v) (eqb-true x y parts.0) ∙ ap (request.Wr y) (eqb-true v w parts.1)
same_request-true request.Be request.Be same = refl
same_request-true request.Bd request.Bd same = refl
same_request-true request.Qr request.Qr same = refl
same_request-true _ _ same = cc
