-- The upgrade of a machine keeps the rules, and its acts go by the same fields.
use Rattle.std.proofs.Common.{◌≡◌, ℕ, ◌≤◌, ◌==◌, ◌&&◌, ◌||◌, ◌⊎◌, inr, refl, sym, ap, ◌∙◌, subst, Bool, true, false, nat_lt, All, List, [], ◌∷◌, length, map, Option, Some, None, is_some, arith}
use Rattle.std.proofs.lemmas.Bool.{le-ltb}
use Rattle.std.specs.Option.{option_map}
use Rattle.acpi_regs.specs.declared.event.Event.{Event}
use Rattle.acpi_regs.specs.Geometry.{Blocks, bad_field, end_of}
use Rattle.machine_desc.specs.declared.fault.BadMachine.{BadMachine}
use Rattle.machine_desc.specs.declared.fault.Part.TheVariants as part
use Rattle.machine_desc.specs.declared.fault.Part.{Part}
use Rattle.machine_desc.specs.declared.fault.Rule.TheVariants as rule
use Rattle.machine_desc.specs.declared.fault.Spot.{Spot}
use Rattle.field_units.specs.Field.{Field}
use Rattle.machine_desc.specs.declared.machine.ControllerDesc.{ControllerDesc}
use Rattle.machine_desc.specs.declared.parts.ControllerPart.{ControllerPart}
use Rattle.machine_desc.specs.declared.parts.EventPart.{EventPart}
use Rattle.machine_desc.specs.declared.parts.MachineParts.{MachineParts}
use Rattle.machine_desc.specs.Faults.{breaks, first_of, in_item, in_items, items_from}
use Rattle.machine_desc.specs.Given.{HasGlk, HasQueries, IsDescribed, IsGiven, IsKept}
use Rattle.machine_desc.specs.Machine.{MachineData, act_fields, act_fields_of, controller_of, described, glk_in, listed_part}
use Rattle.machine_desc.specs.Rules.{blocks, event_fault, event_of, events_fault, first_fault, forbids, gpe_fault, gpe_rows, machine_rows, most_events, most_gpes}
use Rattle.machine_desc.specs.Upgrade.{up, up_controller}
use Rattle.machine_desc.proofs.Acting.{few_events, few_gpes}
use Rattle.machine_desc.proofs.EachItem.{AllNone, none}
use Rattle.machine_desc.proofs.Facts.{RulesKept, kept}

-- ---- the parts that describe the upgrade

abbrev up_part : ℕ → ControllerPart → ControllerPart
up_part version c = record c { glk = (version == 1) || c.glk }

abbrev up_with : MachineParts → Option ControllerPart → MachineParts
up_with p c = record p { version = 2; controller = option_map (up_part p.version) c }

abbrev up_parts : MachineParts → MachineParts
up_parts p = up_with p p.controller

same_controller : (version : ℕ) (c : Option ControllerPart) → option_map controller_of (option_map (up_part version) c) ≡ option_map (up_controller version) (option_map controller_of c)
same_controller version None = refl
same_controller version (Some c) = refl

same_described : (p : MachineParts) → described (up_parts p) ≡ up (described p)
same_described p = ap (λ c. record (described p) { version = 2; controller = c }) (same_controller p.version p.controller)

up_glk : (version : ℕ) (c : Option ControllerPart) → HasGlk 2 (option_map (up_part version) c)
up_glk version None = tt
up_glk version (Some c) = λ one. cc

up_queries : (version : ℕ) (c : Option ControllerPart) → HasQueries c → HasQueries (option_map (up_part version) c)
up_queries version None h = tt
up_queries version (Some c) h = h

up_given : (p : MachineParts) → IsGiven p → IsGiven (up_parts p)
up_given p g = record {
  version = inr refl;
  glk = up_glk p.version p.controller;
  events = g.events;
  queries = up_queries p.version p.controller g.queries;
  firmware = g.firmware;
}

-- ---- version 2 has all that version 1 has

more_gpes : (version : ℕ) (b : Blocks) → bad_field b ≡ None → end_of b ≤ most_gpes version → gpe_fault 2 b ≡ None
unfolding gpe_fault
more_gpes version b sound less =
    let most = few_gpes version in
    let fits : nat_lt 256 (end_of b) ≡ false = le-ltb 256 (end_of b) (omega (arith, most, less)) in
    rw (sound, fits) refl

-- a part that breaks no rule breaks none under a greater limit
more_items : {A : Type 0} (its_part : Part) (most greater : ℕ) (fault : List A → A → Option Spot) (items : List A) → length items ≤ most → most ≤ greater
    → in_items its_part (breaks (nat_lt most (length items)) rule.TooMany) fault items ≡ in_items its_part (breaks (nat_lt greater (length items)) rule.TooMany) fault items
more_items its_part most greater fault items less more =
    let one = le-ltb most (length items) less in
    let two = le-ltb greater (length items) (omega (arith, less, more)) in
    rw (one, two) refl

more_events : (version : ℕ) (b : Blocks) (own : Option Event) (fields : ℕ) (events : List EventPart) → length events ≤ most_events version → events_fault version b own fields events ≡ None → events_fault 2 b own fields events ≡ None
unfolding events_fault
more_events version b own fields events less e =
    sym (more_items part.Event (most_events version) 260 (event_fault b own (forbids (map listed_part events) own) fields) events less (few_events version)) ∙ e

all_none : {A : Type 0} (xs : List (Option A)) → AllNone xs → first_of xs ≡ None
all_none [] h = refl
all_none (x ∷ []) h = h.0
all_none (x ∷ y ∷ rest) h = rw h.0 (all_none (y ∷ rest) h.1)

up_kept : (p : MachineParts) (c : Option ControllerPart) → first_fault (record p { controller = c }) ≡ None → first_fault (up_with p c) ≡ None
unfolding first_fault
up_kept p None e =
    let q = record p { controller = None } in
    let k = kept q e in
    let rows = none (machine_rows q) e in
    all_none (machine_rows (up_with p None)) (
      more_gpes p.version (blocks q) k.geometry k.few_gpes,
      (
        rows.1.0,
        (
          rows.1.1.0,
          (
            rows.1.1.1.0,
            (more_events p.version (blocks q) None (length p.fields) p.events k.events.few_items rows.1.1.1.1.0, rows.1.1.1.1.1),
          ),
        ),
      ),
    )
up_kept p (Some c) e =
    let q = record p { controller = Some c } in
    let k = kept q e in
    let rows = none (machine_rows q) e in
    all_none (machine_rows (up_with p (Some c))) (
      more_gpes p.version (blocks q) k.geometry k.few_gpes,
      (
        rows.1.0,
        (
          rows.1.1.0,
          (
            rows.1.1.1.0,
            (more_events p.version (blocks q) (Some c.event) (length p.fields) p.events k.events.few_items rows.1.1.1.1.0, rows.1.1.1.1.1),
          ),
        ),
      ),
    )

up_described : (m : MachineData) → IsDescribed m → IsDescribed (up m)
up_described m d = record {
  parts = up_parts d.parts;
  given = up_given d.parts d.given;
  kept = up_kept d.parts d.parts.controller d.kept;
  same = same_described d.parts ∙ ap up d.same;
}

-- ---- the fields that acts go by

same_glk : (version : ℕ) (c : Option ControllerDesc) → glk_in version c ≡ glk_in 2 (option_map (up_controller version) c)
same_glk version None = refl
same_glk version (Some c) = refl

pub upgraded : (acting : List Field) (m : MachineData) → IsKept acting m → IsKept acting (up m)
upgraded acting m k = record {
  described = up_described m k.described;
  acts = k.acts ∙ ap (λ needs. act_fields_of needs m.fields) (same_glk m.version m.controller);
}
