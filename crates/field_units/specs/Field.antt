-- Regions and fields as plain data (ACPI 6.5, sections 5.5.2.4 and 19.6.48).
use Rattle.std.specs.Prelude.{ℕ, ◌+◌, ◌*◌, Bool, true, false, ◌||◌, nat_lt, List, Option, Some, None, if◌then◌else◌}
use Rattle.field_units.specs.declared.fault.FieldFault.{FieldFault}
use Rattle.field_units.specs.declared.fault.FieldFault.TheVariants as fault
use Rattle.field_units.specs.declared.rules.LockRule.{LockRule}
use Rattle.field_units.specs.declared.rules.LockRule.TheVariants as lock
use Rattle.field_units.specs.declared.rules.RegionKind.{RegionKind}
use Rattle.field_units.specs.declared.rules.RegionKind.TheVariants as kind
use Rattle.field_units.specs.declared.rules.UpdateRule.{UpdateRule}

-- a region, with the byte that each cell begins with
pub record RegionData : Type 0 where
  pub kind : RegionKind
  pub cells : List ℕ

-- a field: `width` bits from bit `bit` on of the region at place `region`, which is of this kind and has `len` cells
pub record Field : Type 0 where
  pub region : ℕ
  pub kind : RegionKind
  pub len : ℕ
  pub bit : ℕ
  pub width : ℕ
  pub lock : LockRule
  pub update : UpdateRule

-- how many cells the region of a field may have: a length has 16 bits, and an address of the controller one byte
-- (ACPI 6.5, section 12.3.1)
abbrev pub most_cells : RegionKind → ℕ
most_cells kind.Memory = 65535
most_cells kind.Controller = 256

-- why there is no field of this width at this bit of a region of this length
abbrev pub field_fault : ℕ → ℕ → ℕ → Option FieldFault
field_fault len bit width =
    if nat_lt width 1 || nat_lt 64 width then Some fault.BadWidth
    else (if nat_lt (8 * len) (bit + width) then Some fault.OutsideRegion else None)

abbrev pub is_lock : LockRule → Bool
is_lock lock.Lock = true
is_lock lock.NoLock = false

abbrev pub is_controller : RegionKind → Bool
is_controller kind.Memory = false
is_controller kind.Controller = true

-- an access of the field needs the Global Lock: its rule says so
abbrev pub needs_lock : Field → Bool
needs_lock field = is_lock field.lock
