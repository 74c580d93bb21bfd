-- Where an actor of the machine stands in the order in which actors are served.
use Rattle.std.proofs.Common.{◌≡◌, ℕ, ◌+◌, true, false, length, Option, Some, None, is_some, slice_get, refl}
use Rattle.std.proofs.lemmas.Bool.{ltb-true}
use Rattle.acpi_regs.specs.declared.actor.Actor.TheVariants as actor
use Rattle.machine_desc.specs.declared.machine.ControllerDesc.{ControllerDesc}
use Rattle.machine_desc.specs.Actors.{actors_of, ec_count}
use Rattle.machine_desc.specs.Kept.{counts_in}
use Rattle.machine_desc.specs.Machine.{MachineData}
use Rattle.machine_desc.specs.Rules.{has_actor}
use Rattle.machine_desc.proofs.Order.{device_at, ec_at, firmware_at, worker_at}

pub worker_place : (m : MachineData) (k j : ℕ) → has_actor (counts_in m) (actor.Worker j) ≡ true → k ≡ 2 + j → slice_get (actors_of m) k ≡ Some (actor.Worker j)
worker_place m k j has is = worker_at m k j is (ltb-true j m.workers has)

pub ec_place : (m : MachineData) (k : ℕ) → has_actor (counts_in m) actor.Ec ≡ true → k ≡ 2 + m.workers → slice_get (actors_of m) k ≡ Some actor.Ec
ec_place m k has is = ec_at m k is (there m.controller has)
  where
    there : (c : Option ControllerDesc) → is_some c ≡ true → ec_count c ≡ 1
    there None some = absurd (let x : false ≡ true = some in cc)
    there (Some c) some = refl

pub device_place : (m : MachineData) (k j : ℕ) → has_actor (counts_in m) (actor.Device j) ≡ true → k ≡ 2 + m.workers + ec_count m.controller + j → slice_get (actors_of m) k ≡ Some (actor.Device j)
device_place m k j has is = device_at m k j is (ltb-true j (length m.devices) has)

pub firmware_place : (m : MachineData) (k j : ℕ) → has_actor (counts_in m) (actor.Firmware j) ≡ true → k ≡ 2 + m.workers + ec_count m.controller + length m.devices + j → slice_get (actors_of m) k ≡ Some (actor.Firmware j)
firmware_place m k j has is = firmware_at m k j is (ltb-true j (length m.firmware) has)
