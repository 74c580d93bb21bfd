-- Each actor in the order in which they are served is one of the machine's.
use Rattle.std.proofs.Common.{◌≡◌, ℕ, zero, suc, ◌+◌, ◌<◌, true, List, [], ◌∷◌, ◌++◌, append-nil, length, map, is_some, slice_get, Option, Some, None, refl, ap, subst, arith}
use Rattle.std.specs.List.{range_with_len}
use Rattle.std.proofs.lemmas.Bool.{lt-ltb}
use Rattle.acpi_regs.specs.declared.actor.Actor.{Actor}
use Rattle.acpi_regs.specs.declared.actor.Actor.TheVariants as actor
use Rattle.machine_desc.specs.declared.machine.ControllerDesc.{ControllerDesc}
use Rattle.machine_desc.specs.Actors.{actors_of, numbered, of_controller}
use Rattle.machine_desc.specs.Kept.{counts_in}
use Rattle.machine_desc.specs.Machine.{MachineData}
use Rattle.machine_desc.specs.Rules.{has_actor}

abbrev AllKnown : MachineData → List Actor → Type 0
AllKnown m [] = Unit {0}
AllKnown m (a ∷ names) = (has_actor (counts_in m) a ≡ true) × AllKnown m names

at : (m : MachineData) (names : List Actor) (k : ℕ) (a : Actor) → AllKnown m names → slice_get names k ≡ Some a → has_actor (counts_in m) a ≡ true
at m [] k a all is = cc
at m (x ∷ names) zero a all is = subst (λ y. has_actor (counts_in m) y ≡ true) (let e : x ≡ a = cc in e) all.0
at m (x ∷ names) (suc k) a all is = at m names k a all.1 is

-- one kind, and what stands behind it
of_kind : (m : MachineData) (make : ℕ → Actor) (from n : ℕ) (rest : List Actor) → ((j : ℕ) → j < from + n → has_actor (counts_in m) (make j) ≡ true) → AllKnown m rest → AllKnown m (map make (range_with_len from n) ++ rest)
of_kind m make from zero rest has all = all
of_kind m make from (suc n) rest has all = (has from (omega arith), of_kind m make (from + 1) n rest (λ j less. has j (omega arith)) all)

controller : (m : MachineData) (c : Option ControllerDesc) (rest : List Actor) → m.controller ≡ c → AllKnown m rest → AllKnown m (of_controller c ++ rest)
controller m None rest is all = all
controller m (Some c) rest is all = (ap is_some is, all)

below : (j n : ℕ) → j < 0 + n → j < n
below j n less = omega arith

all_known : (m : MachineData) → AllKnown m (actors_of m)
unfolding actors_of
all_known m =
    let firmware = of_kind m actor.Firmware 0 (length m.firmware) [] (λ j less. lt-ltb j (length m.firmware) (below j (length m.firmware) less)) tt in
    let devices = of_kind m actor.Device 0 (length m.devices) (numbered actor.Firmware (length m.firmware)) (λ j less. lt-ltb j (length m.devices) (below j (length m.devices) less)) (subst (AllKnown m) (append-nil (numbered actor.Firmware (length m.firmware))) firmware) in
    let behind = controller m m.controller (numbered actor.Device (length m.devices) ++ numbered actor.Firmware (length m.firmware)) refl devices in
    (refl, (refl, of_kind m actor.Worker 0 m.workers (of_controller m.controller ++ (numbered actor.Device (length m.devices) ++ numbered actor.Firmware (length m.firmware))) (λ j less. lt-ltb j m.workers (below j m.workers less)) behind))

pub known : (m : MachineData) (k : ℕ) (a : Actor) → slice_get (actors_of m) k ≡ Some a → has_actor (counts_in m) a ≡ true
known m k a is = at m (actors_of m) k a (all_known m) is
