-- What the entries of int and poll are: allowed, no latches and none of the lock.
use Rattle.std.proofs.Common.{◌≡◌, true, false, List, [], ◌∷◌, ◌++◌, append-nil, map, not, Option, Some, None, refl, sym, ap, ◌∙◌}
use Rattle.std.specs.Option.{option_map}
use Rattle.acpi_regs.specs.declared.actor.Actor.{Actor}
use Rattle.acpi_regs.specs.declared.entry.Deed.{Deed}
use Rattle.acpi_regs.specs.declared.entry.Deed.TheVariants as deed
use Rattle.acpi_regs.specs.declared.entry.Entry.{Entry}
use Rattle.acpi_regs.specs.declared.event.Event.{Event}
use Rattle.acpi_regs.specs.Phases.{is_lock_deed}
use Rattle.machine_desc.specs.Machine.{MachineData}
use Rattle.machine_history.specs.Legal.{Allowed}
use Rattle.machine_history.specs.Steps.{entry, first_pending, host_entry, host_move, is_empty, latch, where_may}
use Rattle.os_actors.specs.Hosts.{host_adds}
use Rattle.world.specs.declared.turn.Acted.TheVariants as acted
use Rattle.world.specs.Duties.{IsAllowed, IsTurn, added, did, is_latch}
use Rattle.world.proofs.Entries.{Each, otherwise-each}
use Rattle.world.proofs.FreeTurns.{Plain, plain}

pub host_entry-plain : (m : MachineData) (past : List Entry) (a : Actor) → Each (Plain m past a) (host_entry m past a)
host_entry-plain m past a =
    otherwise-each (Plain m past a) (where_may m past a (option_map deed.Step (host_move m past))) (where_may m past a (option_map deed.Claim (first_pending m past)))
    (plain m past a deed.Step (λ x. refl) (λ x. refl) (host_move m past))
    (plain m past a deed.Claim (λ x. refl) (λ x. refl) (first_pending m past))

no : {X : Type 0} → false ≡ true → X
no e = absurd (let x = e in cc)

-- a turn that latched what it collected
pub latch-turn : (a : Actor) (before : List Entry) (events : List Event) → is_empty events ≡ false → IsTurn a None before (before ++ map (latch a) events) events acted.Did
latch-turn a before [] some = no (sym some)
latch-turn a before (n ∷ events) some = record { deeds = []; adds = ap (λ l. before ++ l) (sym (append-nil (map (latch a) (n ∷ events)))); latches_first = tt; locks = tt; answers = refl }

-- ---- what such a turn adds, by the events that it collected

pub latched-adds : (m : MachineData) (a : Actor) (past : List Entry) (events : List Event) → is_empty events ≡ false → (host_adds m a past events ≡ map (latch a) events) × (did (host_adds m a past events) ≡ acted.Did)
latched-adds m a past [] some = no (sym some)
latched-adds m a past (n ∷ events) some = (refl, refl)

pub none_in : (events : List Event) → not (is_empty events) ≡ false → events ≡ []
none_in [] none = refl
none_in (n ∷ events) none = no (sym none)

pub some_in : (events : List Event) → not (is_empty events) ≡ true → is_empty events ≡ false
some_in [] some = no some
some_in (n ∷ events) some = refl
