-- The bytes of the controller's space at the start.
use Rattle.std.proofs.Common.{ℕ, zero, suc, ◌+◌, ◌≡◌, Bool, true, false, cond, List, [], ◌∷◌, replicate, slice_get, slice_index, Option, Some, None, refl, sym, ◌∙◌, ap, subst, arith}
use Rattle.field_units.specs.Field.{RegionData, is_controller}
use Rattle.machine_desc.specs.Kept.{IsMachine, IsRegion}
use Rattle.machine_desc.specs.Machine.{MachineData}
use Rattle.machine_desc.proofs.EachItem.{each_all}
use Rattle.machine_core.specs.Wire.{IsSpace, controller_region}
use Rattle.machine_history.specs.Acts.{is_memory}
use Rattle.machine_history.specs.Cells.{byte_at}
use Rattle.machine_history.specs.Machine.{controller_place}

behind : (region : RegionData) (regions : List RegionData) (n : ℕ) → slice_get (region ∷ regions) (1 + n) ≡ slice_get regions n
behind region regions n = let e : 1 + n ≡ suc n = omega arith in rw e refl

-- the region stands at its place
region_at : (regions : List RegionData) → slice_get regions (controller_place regions) ≡ controller_region regions
region_at [] = refl
region_at (region ∷ regions) = by_kind (is_controller region.kind) (region_at regions)
  where
    by_kind : (b : Bool) → slice_get regions (controller_place regions) ≡ controller_region regions → slice_get (region ∷ regions) (cond b 0 (1 + controller_place regions)) ≡ cond b (Some region) (controller_region regions)
    by_kind true rest = refl
    by_kind false rest = behind region regions (controller_place regions) ∙ rest

is_kind : (regions : List RegionData) (r : RegionData) → controller_region regions ≡ Some r → is_controller r.kind ≡ true
is_kind [] r found = cc
is_kind (region ∷ regions) r found = by_kind (is_controller region.kind) refl (is_kind regions r) found
  where
    by_kind : (b : Bool) → is_controller region.kind ≡ b → (controller_region regions ≡ Some r → is_controller r.kind ≡ true) → cond b (Some region) (controller_region regions) ≡ Some r → is_controller r.kind ≡ true
    by_kind true is rest found = subst (λ x. is_controller x.kind ≡ true) (let same : region ≡ r = cc in same) is
    by_kind false is rest found = rest found

pub space_of : (m : MachineData) → IsMachine m → (r : RegionData) → controller_region m.regions ≡ Some r → IsSpace m r.cells
space_of m ok r found =
    let at : slice_get m.regions (controller_place m.regions) ≡ Some r = region_at m.regions ∙ found in
    record {
      size = (each_all (IsRegion m) m.regions ok.regions (controller_place m.regions) r at).address (is_kind m.regions r found);
      bytes = λ x below. ap (λ o. byte_at o x) (sym at);
    }

zeros : (n x : ℕ) → slice_index (replicate n 0) x ≡ 0
zeros zero x = refl
zeros (suc n) zero = refl
zeros (suc n) (suc x) = zeros n x

pub no_space : (m : MachineData) → controller_region m.regions ≡ None → IsSpace m (replicate 256 0)
no_space m none =
    let at : slice_get m.regions (controller_place m.regions) ≡ None = region_at m.regions ∙ none in
    record {
      size = refl;
      bytes = λ x below. zeros 256 x ∙ ap (λ o. byte_at o x) (sym at);
    }

-- no memory region stands at the controller's place
pub no_memory : (regions : List RegionData) → is_memory (slice_get regions (controller_place regions)) ≡ true → ⊥
no_memory regions plain = by_region (controller_region regions) refl (subst (λ r. is_memory r ≡ true) (region_at regions) plain)
  where
    by_region : (r : Option RegionData) → controller_region regions ≡ r → is_memory r ≡ true → ⊥
    by_region None found plain = cc
    by_region (Some region) found plain = let kind : is_controller region.kind ≡ true = is_kind regions region found in cc
