-- Turns of actors that are free between their steps: their entries are no latches and none of the lock.
use Rattle.std.proofs.Common.{◌≡◌, Bool, true, false, List, [], ◌++◌, Option, Some, None, refl, sym, ◌∙◌}
use Rattle.std.specs.Option.{option_map}
use Rattle.acpi_regs.specs.declared.actor.Actor.{Actor}
use Rattle.acpi_regs.specs.declared.entry.Deed.{Deed}
use Rattle.acpi_regs.specs.declared.entry.Entry.{Entry}
use Rattle.acpi_regs.specs.Phases.{is_lock_deed}
use Rattle.machine_desc.specs.Machine.{MachineData}
use Rattle.machine_history.specs.Legal.{Allowed}
use Rattle.machine_history.specs.Steps.{entry, where_may}
use Rattle.world.specs.Duties.{IsAllowed, IsTurn, added, did, is_latch}
use Rattle.world.specs.Stepping.{did_outcome, is_stepped}
use Rattle.world.proofs.Entries.{Each, each-map, each-of, made-turn, where_may-each}

-- allowed, no latch, and no entry of the lock
pub record Plain (m : MachineData) (past : List Entry) (a : Actor) (d : Deed) : Type 0 where
  pub allowed : Allowed m past (entry a d)
  pub no_latch : is_latch d ≡ false
  pub no_lock : is_lock_deed d ≡ false

pub plain : {A : Type 0} (m : MachineData) (past : List Entry) (a : Actor) (make : A → Deed) → ((x : A) → is_latch (make x) ≡ false) → ((x : A) → is_lock_deed (make x) ≡ false) → (o : Option A) → Each (Plain m past a) (where_may m past a (option_map make o))
plain m past a make no_latch no_lock o =
    where_may-each (Plain m past a) m past a (option_map make o)
    (each-map (λ d. Allowed m past (entry a d) → Plain m past a d) make (λ x ok. record { allowed = ok; no_latch = no_latch x; no_lock = no_lock x }) o)

pub plain-allowed : (m : MachineData) (past : List Entry) (a : Actor) (o : Option Deed) → Each (Plain m past a) o → IsAllowed m past a o
plain-allowed m past a None h = tt
plain-allowed m past a (Some d) h = h.allowed

no : {X : Type 0} → false ≡ true → X
no e = absurd (let x = e in cc)

-- a turn that collected nothing
pub plain-turn : (m : MachineData) (past : List Entry) (a : Actor) (before : List Entry) (made : Option Deed) → Each (Plain m past a) made → IsTurn a None before (before ++ added a made) [] (did (added a made))
plain-turn m past a before made h = made-turn a None before made (each-of (Plain m past a) (λ d. (is_latch d ≡ false) × (is_lock_deed d ≡ true → None ≡ Some d)) (λ d is. (is.no_latch, λ lock. no (sym is.no_lock ∙ lock))) made h)

-- where nothing was done there is no entry
pub idle-made : (a : Actor) (made : Option Deed) → is_stepped (did_outcome (did (added a made))) ≡ false → added a made ≡ []
idle-made a None idle = refl
idle-made a (Some d) idle = no (sym idle)
