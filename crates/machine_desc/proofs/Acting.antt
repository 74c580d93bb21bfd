-- The fields that acts go by: as many as the description's, in the same places, and as sound.
use Rattle.std.proofs.Common.{◌≡◌, ℕ, ◌≤◌, Bool, true, false, List, length, map, All, Option, Some, None, slice_get, refl, sym, ap, ◌∙◌, subst, if◌then◌else◌, arith, ◌==◌}
use Rattle.std.proofs.lemmas.List.{length-map}
use Rattle.std.proofs.lemmas.Option.{slice_get-map}
use Rattle.std.specs.Option.{option_map}
use Rattle.field_units.specs.Field.{Field}
use Rattle.machine_desc.specs.Kept.{IsField, IsMachine}
use Rattle.machine_desc.specs.Machine.{MachineData, act_fields, act_fields_of, acting, glk}
use Rattle.machine_desc.specs.Rules.{most_events, most_gpes}
use Rattle.machine_desc.proofs.EachItem.{all_each, each_all}

pub as_many : (needs : Bool) (fields : List Field) → length (act_fields_of needs fields) ≡ length fields
unfolding act_fields_of
as_many needs fields = length-map fields (acting needs)

-- the field that acts go by, at a place of the description's fields
pub acting_at : (needs : Bool) (fields : List Field) (f : ℕ) → slice_get (act_fields_of needs fields) f ≡ option_map (acting needs) (slice_get fields f)
unfolding act_fields_of
acting_at needs fields f = slice_get-map (acting needs) fields f

-- it is the description's field at that place, under another lock rule perhaps
pub record Acts (needs : Bool) (fields : List Field) (f : ℕ) (field : Field) : Type 0 where
  pub given : Field
  pub named : slice_get fields f ≡ Some given
  pub same : acting needs given ≡ field

pub acts_at : (needs : Bool) (fields : List Field) (f : ℕ) (field : Field) → slice_get (act_fields_of needs fields) f ≡ Some field → Acts needs fields f field
acts_at needs fields f field at = found (slice_get fields f) refl (sym (acting_at needs fields f) ∙ at)
  where
    found : (o : Option Field) → slice_get fields f ≡ o → option_map (acting needs) o ≡ Some field → Acts needs fields f field
    found None named is = cc
    found (Some given) named is = let same : acting needs given ≡ field = cc in record { given = given; named = named; same = same }

acting_sound : (m : MachineData) (needs : Bool) (given : Field) → IsField m given → IsField m (acting needs given)
acting_sound m needs given is = record { region = is.region; named = is.named; kind = is.kind; len = is.len; fits = is.fits }

-- each field that acts go by fits into its region
pub act_field : (m : MachineData) → IsMachine m → (f : ℕ) (field : Field) → slice_get (act_fields m) f ≡ Some field → IsField m field
act_field m ok f field at =
    let a = acts_at (glk m) m.fields f field at in
    subst (IsField m) a.same (acting_sound m (glk m) a.given (each_all (IsField m) m.fields ok.fields f a.given a.named))

pub act_fields_sound : (m : MachineData) → IsMachine m → All (IsField m) (act_fields m)
act_fields_sound m ok = all_each (IsField m) (act_fields m) (act_field m ok)

-- ---- what both versions have in common

pub few_events : (version : ℕ) → most_events version ≤ 260
few_events version = at (version == 1)
  where
    at : (b : Bool) → (if b then 132 else 260) ≤ 260
    at true = omega arith
    at false = omega arith

pub few_gpes : (version : ℕ) → most_gpes version ≤ 256
few_gpes version = at (version == 1)
  where
    at : (b : Bool) → (if b then 128 else 256) ≤ 256
    at true = omega arith
    at false = omega arith
