-- Each actor stands once in the order in which they are served.
use Rattle.std.proofs.Common.{◌≡◌, ℕ, zero, suc, ◌+◌, ◌≤◌, ◌==◌, ◌&&◌, not, Bool, true, false, List, [], ◌∷◌, ◌++◌, append-nil, length, map, Option, Some, None, refl, ap, ◌∙◌, subst, arith}
use Rattle.std.specs.List.{range_with_len}
use Rattle.std.proofs.lemmas.Bool.{and_from, and_parts, ne_eqb}
use Rattle.acpi_regs.specs.declared.actor.Actor.{Actor}
use Rattle.acpi_regs.specs.declared.actor.Actor.TheVariants as actor
use Rattle.acpi_regs.specs.Actor.{same_actor}
use Rattle.machine_desc.specs.declared.machine.ControllerDesc.{ControllerDesc}
use Rattle.machine_desc.specs.Actors.{actors_of, numbered, of_controller}
use Rattle.machine_desc.specs.Machine.{MachineData}

-- the actor is none of these
abbrev pub absent : Actor → List Actor → Bool
absent a [] = true
absent a (b ∷ names) = not (same_actor a b) && absent a names

abbrev pub AllOnce : List Actor → Type 0
AllOnce [] = Unit {0}
AllOnce (a ∷ names) = (absent a names ≡ true) × AllOnce names

absent-append : (a : Actor) (xs ys : List Actor) → absent a xs ≡ true → absent a ys ≡ true → absent a (xs ++ ys) ≡ true
absent-append a [] ys h k = k
absent-append a (x ∷ xs) ys h k = let parts = and_parts (not (same_actor a x)) (absent a xs) h in and_from (not (same_actor a x)) (absent a (xs ++ ys)) parts.0 (absent-append a xs ys parts.1 k)

-- none of a kind from this number on
absent-kind : (a : Actor) (make : ℕ → Actor) (from n : ℕ) → ((j : ℕ) → from ≤ j → same_actor a (make j) ≡ false) → absent a (map make (range_with_len from n)) ≡ true
absent-kind a make from zero other = refl
absent-kind a make from (suc n) other =
    let first : not (same_actor a (make from)) ≡ true = ap not (other from (omega arith)) in
    and_from (not (same_actor a (make from))) (absent a (map make (range_with_len (from + 1) n))) first (absent-kind a make (from + 1) n (λ j less. other j (omega arith)))

-- one kind, and what stands behind it
once-kind : (make : ℕ → Actor) (from n : ℕ) (rest : List Actor) → ((i j : ℕ) → same_actor (make i) (make j) ≡ (i == j)) → ((j : ℕ) → absent (make j) rest ≡ true) → AllOnce rest → AllOnce (map make (range_with_len from n) ++ rest)
once-kind make from zero rest same none once = once
once-kind make from (suc n) rest same none once = (
  absent-append (make from) (map make (range_with_len (from + 1) n)) rest (absent-kind (make from) make (from + 1) n (λ j less. same from j ∙ ne_eqb from j (λ e. (omega arith)))) (none from),
  once-kind make (from + 1) n rest same none once,
)

absent-controller : (a : Actor) (c : Option ControllerDesc) → same_actor a actor.Ec ≡ false → absent a (of_controller c) ≡ true
absent-controller a None other = refl
absent-controller a (Some c) other = and_from (not (same_actor a actor.Ec)) true (ap not other) refl

once-controller : (c : Option ControllerDesc) (rest : List Actor) → absent actor.Ec rest ≡ true → AllOnce rest → AllOnce (of_controller c ++ rest)
once-controller None rest none once = once
once-controller (Some c) rest none once = (none, once)

abbrev firmware : MachineData → List Actor
firmware m = numbered actor.Firmware (length m.firmware)

abbrev devices : MachineData → List Actor
devices m = numbered actor.Device (length m.devices) ++ firmware m

abbrev from_controller : MachineData → List Actor
from_controller m = of_controller m.controller ++ devices m

abbrev workers : MachineData → List Actor
workers m = numbered actor.Worker m.workers ++ from_controller m

-- a kind that is none of these
absent-firmware : (m : MachineData) (a : Actor) → ((j : ℕ) → same_actor a (actor.Firmware j) ≡ false) → absent a (firmware m) ≡ true
absent-firmware m a other = absent-kind a actor.Firmware 0 (length m.firmware) (λ j less. other j)

absent-devices : (m : MachineData) (a : Actor) → ((j : ℕ) → same_actor a (actor.Firmware j) ≡ false) → ((j : ℕ) → same_actor a (actor.Device j) ≡ false) → absent a (devices m) ≡ true
absent-devices m a f d = absent-append a (numbered actor.Device (length m.devices)) (firmware m) (absent-kind a actor.Device 0 (length m.devices) (λ j less. d j)) (absent-firmware m a f)

absent-from : (m : MachineData) (a : Actor) → ((j : ℕ) → same_actor a (actor.Firmware j) ≡ false) → ((j : ℕ) → same_actor a (actor.Device j) ≡ false) → same_actor a actor.Ec ≡ false → absent a (from_controller m) ≡ true
absent-from m a f d c = absent-append a (of_controller m.controller) (devices m) (absent-controller a m.controller c) (absent-devices m a f d)

absent-workers : (m : MachineData) (a : Actor) → ((j : ℕ) → same_actor a (actor.Firmware j) ≡ false) → ((j : ℕ) → same_actor a (actor.Device j) ≡ false) → same_actor a actor.Ec ≡ false → ((j : ℕ) → same_actor a (actor.Worker j) ≡ false) → absent a (workers m) ≡ true
absent-workers m a f d c w = absent-append a (numbered actor.Worker m.workers) (from_controller m) (absent-kind a actor.Worker 0 m.workers (λ j less. w j)) (absent-from m a f d c)

once-devices : (m : MachineData) → AllOnce (devices m)
once-devices m = once-kind actor.Device 0 (length m.devices) (firmware m) (λ i j. refl) (λ j. absent-firmware m (actor.Device j) (λ i. refl)) (subst AllOnce (append-nil (firmware m)) (once-kind actor.Firmware 0 (length m.firmware) [] (λ i j. refl) (λ j. refl) tt))

once-from : (m : MachineData) → AllOnce (from_controller m)
once-from m = once-controller m.controller (devices m) (absent-devices m actor.Ec (λ j. refl) (λ j. refl)) (once-devices m)

once-workers : (m : MachineData) → AllOnce (workers m)
once-workers m = once-kind actor.Worker 0 m.workers (from_controller m) (λ i j. refl) (λ j. absent-from m (actor.Worker j) (λ i. refl) (λ i. refl) refl) (once-from m)

pub actors-once : (m : MachineData) → AllOnce (actors_of m)
unfolding actors_of
actors-once m =
    (absent-workers m actor.Int (λ j. refl) (λ j. refl) refl (λ j. refl), (absent-workers m actor.Poll (λ j. refl) (λ j. refl) refl (λ j. refl), once-workers m))
