-- A definition reads a machine's version and controller through what their upgrade leaves as it is. So it computes to the same
-- for a machine and its upgrade, once it is known whether there is a controller.
use Rattle.std.proofs.Common.{ℕ, ◌<◌, ◌≡◌, ◌↔◌, ◌||◌, Bool, false, List, length, reverse, Option, Some, None, refl, sym, ap, ◌∙◌, subst}
use Rattle.std.specs.Option.{option_map}
use Rattle.acpi_regs.specs.declared.actor.Actor.TheVariants as actor
use Rattle.acpi_regs.specs.declared.entry.Entry.{Entry}
use Rattle.acpi_regs.specs.declared.event.Event.{Event}
use Rattle.acpi_regs.specs.Core.{events_of}
use Rattle.handler_script.specs.Plan.{End}
use Rattle.machine_desc.specs.declared.machine.ControllerDesc.{ControllerDesc}
use Rattle.machine_desc.specs.Actors.{actors_of}
use Rattle.machine_desc.specs.Machine.{MachineData}
use Rattle.machine_desc.specs.Upgrade.{up, up_controller}
use Rattle.machine_desc.specs.Weight.{events_moves, events_size, firmware_moves, firmware_size, queries_moves, queries_size, weight_of}
use Rattle.machine_history.specs.Complete.{Complete}
use Rattle.machine_history.specs.Events.{parked, pending}
use Rattle.machine_history.specs.Jobs.{jobs, starts}
use Rattle.machine_history.specs.Legal.{Legal, refusal}
use Rattle.machine_history.specs.Played.{Played}
use Rattle.machine_history.specs.Scripts.{plan_left}
use Rattle.machine_history.specs.Steps.{gives}
use Rattle.core_laws.specs.Upgrade.{SameComplete, SameGives, SameLegal, SamePlayed, SameRefusal, SameStuck, SameWeight, UpgradesOnce}

-- the machine with this controller or none, and its upgrade
abbrev with : MachineData → Option ControllerDesc → MachineData
with m c = record m { controller = c }

abbrev up_with : MachineData → Option ControllerDesc → MachineData
up_with m c = record m { version = 2; controller = option_map (up_controller m.version) c }

same : {X : Type 0} (D : MachineData → X) → ((m : MachineData) → D (up_with m None) ≡ D (with m None)) → ((m : MachineData) (c : ControllerDesc) → D (up_with m (Some c)) ≡ D (with m (Some c))) → (m : MachineData) → D (up m) ≡ D m
same D none some m = at m.controller
  where
    at : (o : Option ControllerDesc) → D (up_with m o) ≡ D (with m o)
    at None = none m
    at (Some c) = some m c

both : (P : MachineData → Type 0) → ((m : MachineData) → P (with m None) ↔ P (up_with m None)) → ((m : MachineData) (c : ControllerDesc) → P (with m (Some c)) ↔ P (up_with m (Some c))) → (m : MachineData) → P m ↔ P (up m)
both P none some m = at m.controller
  where
    at : (o : Option ControllerDesc) → P (with m o) ↔ P (up_with m o)
    at None = none m
    at (Some c) = some m c

pub same_refusal : SameRefusal
same_refusal m past e = same (λ x. refusal x past e) (λ m. refl) (λ m c. refl) m

pub same_gives : SameGives
same_gives m c a = same (λ x. gives x c a) (λ m. refl) (λ m c. refl) m

pub same_stuck : SameStuck
same_stuck m h = same (λ x. events_of (parked x (reverse h))) (λ m. refl) (λ m c. refl) m

pub same_weight : SameWeight
unfolding weight_of firmware_size firmware_moves events_size events_moves queries_size queries_moves
same_weight m = same weight_of (λ m. refl) (λ m c. refl) m

pub same_legal : SameLegal
same_legal m h = both (λ x. Legal x h) (λ m. (λ p. p, λ p. p)) (λ m c. (λ p. p, λ p. p)) m

pub same_played : SamePlayed
unfolding actors_of
same_played m h = both (λ x. Played x h) (λ m. (λ p. p, λ p. p)) (λ m c. (λ p. p, λ p. p)) m

-- what a complete history says of its machine
abbrev Parts : MachineData → List Entry → Type 0
Parts m h =
    Legal m h
    × ((n : Event) → pending m (reverse h) n ≡ false)
    × (starts (reverse h) ≡ length (jobs m (reverse h)))
    × ((k : ℕ) → k < length m.firmware → plan_left m (reverse h) (actor.Firmware k) ≡ End)

same_parts : (h : List Entry) (m : MachineData) → Parts m h ↔ Parts (up m) h
same_parts h m = both (λ x. Parts x h) (λ m. (λ p. p, λ p. p)) (λ m c. (λ p. p, λ p. p)) m

pub same_complete : SameComplete
same_complete m h = (there, back)
  where
    there : Complete m h → Complete (up m) h
    there c =
        let p = (same_parts h m).0 (c.legal, c.rest.quiet, c.rest.all_started, c.ended) in
        record {
          legal = p.0;
          rest = record {
            quiet = p.1;
            no_code = c.rest.no_code;
            all_started = p.2;
            none_runs = c.rest.none_runs;
            none_open = c.rest.none_open;
            no_owner = c.rest.no_owner;
            no_seeker = c.rest.no_seeker;
          };
          ended = p.3;
          latched = c.latched;
          signals = c.signals;
        }

    back : Complete (up m) h → Complete m h
    back c =
        let p = (same_parts h m).1 (c.legal, c.rest.quiet, c.rest.all_started, c.ended) in
        record {
          legal = p.0;
          rest = record {
            quiet = p.1;
            no_code = c.rest.no_code;
            all_started = p.2;
            none_runs = c.rest.none_runs;
            none_open = c.rest.none_open;
            no_owner = c.rest.no_owner;
            no_seeker = c.rest.no_seeker;
          };
          ended = p.3;
          latched = c.latched;
          signals = c.signals;
        }

pub upgrades_once : UpgradesOnce
upgrades_once m two = at m.controller
  where
    same_controller : (version : ℕ) (c : ControllerDesc) → version ≡ 2 → up_controller version c ≡ c
    same_controller version c two = subst (λ v. up_controller v c ≡ c) (sym two) refl

    at : (o : Option ControllerDesc) → up_with m o ≡ with m o
    at None = ap (λ v. record m { version = v; controller = None }) (sym two)
    at (Some c) = ap (λ v. record m { version = v; controller = Some (up_controller m.version c) }) (sym two) ∙ ap (λ d. record m { controller = Some d }) (same_controller m.version c two)
