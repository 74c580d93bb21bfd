-- The first rule of the whole table is the first of its groups.
use Rattle.std.proofs.Common.{◌≡◌, refl, sym, subst, ap, ◌∙◌, true, false, List, [], ◌∷◌, length, map, Option, Some, None, is_some}
use Rattle.acpi_regs.specs.Geometry.{Blocks}
use Rattle.machine_desc.specs.declared.fault.BadMachine.{BadMachine}
use Rattle.machine_desc.specs.declared.parts.MachineParts.{MachineParts}
use Rattle.machine_desc.specs.Faults.{first_of}
use Rattle.machine_desc.specs.Groups.{actors_fault, handlers_fault, space_fault}
use Rattle.machine_desc.specs.Machine.{listed_part}
use Rattle.machine_desc.specs.Rules.{blocks, controller_fault, counts, devices_fault, event_of, events_fault, fields_fault, firmware_fault, first_fault, forbids, gpe_fault, queries_fault, queries_of, regions_fault, schedule_fault, workers_fault}

-- the first of three lists is the first of their first
pub in_three : {A : Type 0} (o a b c d e f g h i : Option A) → first_of (o ∷ a ∷ b ∷ c ∷ d ∷ e ∷ f ∷ g ∷ h ∷ i ∷ []) ≡ first_of (o ∷ first_of (a ∷ b ∷ c ∷ []) ∷ first_of (d ∷ e ∷ f ∷ []) ∷ first_of (g ∷ h ∷ i ∷ []) ∷ [])
in_three (Some x) a b c d e f g h i = refl
in_three None (Some x) b c d e f g h i = refl
in_three None None (Some x) c d e f g h i = refl
in_three None None None (Some x) d e f g h i = refl
in_three None None None None (Some x) e f g h i = refl
in_three None None None None None (Some x) f g h i = refl
in_three None None None None None None (Some x) g h i = refl
in_three None None None None None None None (Some x) h i = refl
in_three None None None None None None None None (Some x) i = refl
in_three None None None None None None None None None i = refl

pub in_groups : (p : MachineParts) (b : Blocks) → b ≡ blocks p → first_fault p ≡ first_of (gpe_fault p.version b ∷ space_fault p ∷ handlers_fault b p ∷ actors_fault p ∷ [])
unfolding first_fault
in_groups p b e = subst (λ b. first_fault p ≡ first_of (gpe_fault p.version b ∷ space_fault p ∷ handlers_fault b p ∷ actors_fault p ∷ [])) (sym e) (whole p)
  where
    whole : (p : MachineParts) → first_fault p ≡ first_of (gpe_fault p.version (blocks p) ∷ space_fault p ∷ handlers_fault (blocks p) p ∷ actors_fault p ∷ [])
    whole p = in_three
        (gpe_fault p.version (blocks p))
        (workers_fault p.workers)
        (regions_fault (is_some p.controller) p.regions)
        (fields_fault p.regions p.fields)
        (events_fault p.version (blocks p) (event_of p.controller) (length p.fields) p.events)
        (controller_fault (blocks p) (event_of p.controller))
        (queries_fault (forbids (map listed_part p.events) (event_of p.controller)) (length p.fields) (queries_of p.controller))
        (firmware_fault (forbids (map listed_part p.events) (event_of p.controller)) (length p.fields) p.firmware)
        (devices_fault (map listed_part p.events) (event_of p.controller) p.devices)
        (schedule_fault (counts p) p.schedule)

-- where the GPE blocks break no rule, the groups behind them decide
pub behind_blocks : (p : MachineParts) (b : Blocks) → b ≡ blocks p → gpe_fault p.version (blocks p) ≡ None → first_fault p ≡ first_of (space_fault p ∷ handlers_fault b p ∷ actors_fault p ∷ [])
behind_blocks p b same kept =
    in_groups p b same
    ∙ ap (λ (o : Option BadMachine). first_of (o ∷ space_fault p ∷ handlers_fault b p ∷ actors_fault p ∷ [])) (ap (gpe_fault p.version) same ∙ kept)

-- a fault that is there is the first, and one that is not is passed over
pub stops : {A : Type 0} (o y : Option A) (rest : List (Option A)) → is_some o ≡ true → first_of (o ∷ y ∷ rest) ≡ o
stops None y rest e = cc
stops (Some x) y rest e = refl

pub goes_on : {A : Type 0} (o y : Option A) (rest : List (Option A)) → is_some o ≡ false → first_of (o ∷ y ∷ rest) ≡ first_of (y ∷ rest)
goes_on None y rest e = refl
goes_on (Some x) y rest e = cc
