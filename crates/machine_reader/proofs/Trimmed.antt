-- Parts without the zeros at the end of their regions' bytes keep the rules that the parts keep.
use Rattle.std.proofs.Common.{◌≡◌, ℕ, zero, suc, ◌+◌, ◌-◌, ◌*◌, ◌≤◌, Bool, true, false, ◌==◌, ◌&&◌, not, nat_lt, if◌then◌else◌, All, List, [], ◌∷◌, ◌++◌, length, replicate, map, take, Option, Some, None, is_some, option_map, slice_get, refl, sym, ap, ◌∙◌, subst, length-append, rules, arith}
use Rattle.std.proofs.lemmas.Bool.{ltb-false}
use Rattle.std.proofs.lemmas.List.{length-map, length-replicate, take-map}
use Rattle.std.proofs.lemmas.List.Elements.{All-cons, All-head, All-tail}
use Rattle.std.specs.List.{list_any}
use Rattle.field_units.specs.Field.{RegionData, is_lock}
use Rattle.machine_desc.specs.declared.fault.Part.{Part}
use Rattle.machine_desc.specs.declared.fault.Part.TheVariants as part
use Rattle.machine_desc.specs.declared.fault.Rule.TheVariants as rule
use Rattle.machine_desc.specs.declared.fault.Spot.{Spot}
use Rattle.machine_desc.specs.declared.parts.ControllerPart.{ControllerPart}
use Rattle.machine_desc.specs.declared.parts.FieldPart.{FieldPart}
use Rattle.machine_desc.specs.declared.parts.MachineParts.{MachineParts}
use Rattle.machine_desc.specs.declared.parts.RegionPart.{RegionPart}
use Rattle.machine_desc.specs.Faults.{breaks, first_of, in_item, in_items, items_from}
use Rattle.machine_desc.specs.Given.{IsDescribed}
use Rattle.machine_desc.specs.Machine.{MachineData, controller_of, described, field_of, kind_of, len_of, listed_of, lock_of, query_of, region_of}
use Rattle.machine_desc.specs.Rules.{field_rows, field_rule, fields_fault, first_fault, is_controllers, machine_rows, region_fault, region_rows, regions_fault}
use Rattle.machine_desc.proofs.EachItem.{AllNone, any_mapped, no_spot, none, unbroken}
use Rattle.machine_reader.specs.Canonical.{without_zeros}
use Rattle.machine_reader.specs.Parts.{controller_part, event_part, field_part, parts_of, query_part, region_part}
use Rattle.machine_reader.proofs.ReadBack.{map-same}

-- a region whose bytes are cut
abbrev trim : RegionPart → RegionPart
trim r = region_part (region_of r)

-- where none of them is there, there is no first
all_none : {A : Type 0} (xs : List (Option A)) → AllNone xs → first_of xs ≡ None
all_none [] h = refl
all_none (x ∷ []) h = h.0
all_none (None ∷ y ∷ rest) h = all_none (y ∷ rest) h.1
all_none (Some x ∷ y ∷ rest) h = absurd (cc_some x h.0)
  where
    cc_some : {A : Type 0} (x : A) → Some x ≡ None → ⊥
    cc_some x e = cc

-- items that are changed keep the rules of a part where each keeps them behind those before it
carried : {A B : Type 0} (of : Part) (fault : List A → A → Option Spot) (fault' : List B → B → Option Spot) (f : A → B) → ((before : List A) (x : A) → fault before x ≡ None → fault' (map f before) (f x) ≡ None) → (all : List A) (k : ℕ) (xs : List A) → items_from of fault all k xs ≡ None → items_from of fault' (map f all) k (map f xs) ≡ None
carried of fault fault' f keeps all k [] e = refl
carried of fault fault' f keeps all k (x ∷ xs) e =
    let h = none (in_item of k (fault (take k all) x) ∷ items_from of fault all (k + 1) xs ∷ []) e in
    let here : fault' (map f (take k all)) (f x) ≡ None = keeps (take k all) x (no_spot of k (fault (take k all) x) h.0) in
    let same : fault' (take k (map f all)) (f x) ≡ None = subst (λ ys. fault' ys (f x) ≡ None) (sym (take-map f k all)) here in
    all_none (in_item of k (fault' (take k (map f all)) (f x)) ∷ items_from of fault' (map f all) (k + 1) (map f xs) ∷ []) (ap (in_item of k) same, (carried of fault fault' f keeps all (k + 1) xs h.1.0, tt))

carried_part : {A B : Type 0} (of : Part) (too_many : ℕ → Option Spot) (fault : List A → A → Option Spot) (fault' : List B → B → Option Spot) (f : A → B) (items : List A) → ((before : List A) (x : A) → fault before x ≡ None → fault' (map f before) (f x) ≡ None) → in_items of (too_many (length items)) fault items ≡ None → in_items of (too_many (length (map f items))) fault' (map f items) ≡ None
carried_part of too_many fault fault' f items keeps e =
    let h = none (in_item of 0 (too_many (length items)) ∷ items_from of fault items 0 items ∷ []) e in
    let few : in_item of 0 (too_many (length (map f items))) ≡ None = ap (λ n. in_item of 0 (too_many n)) (length-map items f) ∙ h.0 in
    all_none (in_item of 0 (too_many (length (map f items))) ∷ items_from of fault' (map f items) 0 (map f items) ∷ []) (few, (carried of fault fault' f keeps items 0 items h.1.0, tt))

-- ---- a region keeps its length

cut_short : (xs : List ℕ) → length (without_zeros xs) ≤ length xs
cut_short [] = omega arith
cut_short (x ∷ xs) = either ((x == 0) && (length (without_zeros xs) == 0)) (cut_short xs)
  where
    either : (b : Bool) → length (without_zeros xs) ≤ length xs → length (if b then [] else x ∷ without_zeros xs) ≤ suc (length xs)
    either true h = omega arith
    either false h = omega (arith, h)

same_len : (r : RegionPart) → length r.bytes ≤ r.len → (trim r).len ≡ r.len
same_len r h = length-append r.bytes (replicate (r.len - length r.bytes) 0) ∙ omega (arith, h, length-replicate {A = ℕ} (r.len - length r.bytes) 0)

fits : (r : RegionPart) (has_controller : Bool) (before : List RegionPart) → region_fault has_controller before r ≡ None → length r.bytes ≤ r.len
fits r has_controller before e =
    let rows = none (region_rows has_controller before r) e in
    ltb-false r.len (length r.bytes) (unbroken (nat_lt r.len (length r.bytes)) rule.BadRegion 0 rows.1.1.1.0)

region_keeps : (has_controller : Bool) (before : List RegionPart) (r : RegionPart) → region_fault has_controller before r ≡ None → region_fault has_controller (map trim before) (trim r) ≡ None
region_keeps has_controller before r e =
    let rows = none (region_rows has_controller before r) e in
    let len : r.len ≡ (trim r).len = sym (same_len r (fits r has_controller before e)) in
    let c = is_controllers r in
    let short : nat_lt (trim r).len (length (trim r).bytes) ≡ false = not_less (trim r).len (length (trim r).bytes) (cut_short (region_of r).cells) in
    let others : list_any is_controllers before ≡ list_any is_controllers (map trim before) = sym (any_mapped is_controllers trim before) in
    all_none (region_rows has_controller (map trim before) (trim r)) (
      subst (λ n. breaks (n == 0) rule.BadRegion ≡ None) len rows.0,
      (
        subst (λ n. breaks (not c && nat_lt 4096 n) rule.BadRegion ≡ None) len rows.1.0,
        (
          subst (λ n. breaks (c && not (n == 256)) rule.BadRegion ≡ None) len rows.1.1.0,
          (
            ap (λ b. breaks b rule.BadRegion) short,
            (
              subst (λ b. breaks (c && b) rule.BadRegion ≡ None) others rows.1.1.1.1.0,
              (rows.1.1.1.1.1.0, tt),
            ),
          ),
        ),
      ),
    )
  where
    not_less : (n k : ℕ) → k ≤ n → nat_lt n k ≡ false
    not_less n k h = grind (arith, rules)

regions_keep : (has_controller : Bool) (rs : List RegionPart) → regions_fault has_controller rs ≡ None → regions_fault has_controller (map trim rs) ≡ None
unfolding regions_fault
regions_keep has_controller rs e = carried_part part.Region (λ n. breaks (nat_lt 16 n) rule.TooMany) (region_fault has_controller) (region_fault has_controller) trim rs (region_keeps has_controller) e

-- each region has room for its bytes
abbrev HasRoom : RegionPart → Type 0
HasRoom r = length r.bytes ≤ r.len

rooms : (has_controller : Bool) (all : List RegionPart) (k : ℕ) (rs : List RegionPart) → items_from part.Region (region_fault has_controller) all k rs ≡ None → All HasRoom rs
rooms has_controller all k [] e = λ i d less. absurd (omega (arith, less))
rooms has_controller all k (r ∷ rs) e =
    let h = none (in_item part.Region k (region_fault has_controller (take k all) r) ∷ items_from part.Region (region_fault has_controller) all (k + 1) rs ∷ []) e in
    All-cons HasRoom r rs (fits r has_controller (take k all) (no_spot part.Region k (region_fault has_controller (take k all) r) h.0)) (rooms has_controller all (k + 1) rs h.1.0)

regions_room : (has_controller : Bool) (rs : List RegionPart) → regions_fault has_controller rs ≡ None → All HasRoom rs
unfolding regions_fault
regions_room has_controller rs e =
    let h = none (in_item part.Region 0 (breaks (nat_lt 16 (length rs)) rule.TooMany) ∷ items_from part.Region (region_fault has_controller) rs 0 rs ∷ []) e in
    rooms has_controller rs 0 rs h.1.0

len_kept : (rs : List RegionPart) (k : ℕ) → All HasRoom rs → len_of (slice_get rs k) ≡ len_of (slice_get (map trim rs) k)
len_kept [] zero h = refl
len_kept [] (suc k) h = refl
len_kept (r ∷ rs) zero h = sym (same_len r (All-head HasRoom r rs h))
len_kept (r ∷ rs) (suc k) h = len_kept rs k (All-tail HasRoom r rs h)

-- ---- fields see the lengths alone

field_keeps : (rs : List RegionPart) → All HasRoom rs → (before : List FieldPart) (f : FieldPart) → field_rule rs before f ≡ None → field_rule (map trim rs) (map (λ x. x) before) f ≡ None
field_keeps rs room before f e =
    let rows = none (field_rows rs f) e in
    all_none (field_rows (map trim rs) f) (
      subst (λ n. breaks (not (nat_lt f.region n)) rule.UnknownRegion ≡ None) (sym (length-map rs trim)) rows.0,
      (
        rows.1.0,
        (
          subst (λ n. breaks (nat_lt (8 * n) (f.bit + f.width)) rule.OutsideRegion ≡ None) (len_kept rs f.region room) rows.1.1.0,
          tt,
        ),
      ),
    )

fields_keep : (rs : List RegionPart) (fs : List FieldPart) → All HasRoom rs → fields_fault rs fs ≡ None → fields_fault (map trim rs) fs ≡ None
unfolding fields_fault
fields_keep rs fs room e =
    subst (λ xs. in_items part.Field (breaks (nat_lt 256 (length xs)) rule.TooMany) (field_rule (map trim rs)) xs ≡ None) (map-same fs)
    (carried_part part.Field (λ n. breaks (nat_lt 256 n) rule.TooMany) (field_rule rs) (field_rule (map trim rs)) (λ x. x) fs (field_keeps rs room) e)

-- ---- the whole

abbrev trimmed : MachineParts → MachineParts
trimmed p = record p { regions = map trim p.regions }

pub trimmed_kept : (p : MachineParts) → first_fault p ≡ None → first_fault (trimmed p) ≡ None
unfolding first_fault
trimmed_kept p e =
    let rows = none (machine_rows p) e in
    let regions = rows.1.1.0 in
    let fields = rows.1.1.1.0 in
    all_none (machine_rows (trimmed p))
    (rows.0, (rows.1.0, (regions_keep (is_some p.controller) p.regions regions, (fields_keep p.regions p.fields (regions_room (is_some p.controller) p.regions regions) fields, rows.1.1.1.1))))

-- ---- the parts that the text of a machine tells are the trimmed ones

map-back : {A B : Type 0} (f : A → B) (g : B → A) → ((x : A) → g (f x) ≡ x) → (xs : List A) → map g (map f xs) ≡ xs
map-back f g same [] = refl
map-back f g same (x ∷ xs) = λ i. same x i ∷ map-back f g same xs i

map-map : {A B C : Type 0} (f : A → B) (g : B → C) (xs : List A) → map g (map f xs) ≡ map (λ x. g (f x)) xs
map-map f g [] = refl
map-map f g (x ∷ xs) = ap (λ ys. g (f x) ∷ ys) (map-map f g xs)

lock_back : (b : Bool) → is_lock (lock_of b) ≡ b
lock_back true = refl
lock_back false = refl

field_back : (rs : List RegionPart) (f : FieldPart) → field_part (field_of rs f) ≡ f
field_back rs f = ap (λ l. record f { lock = l }) (lock_back f.lock)

controller_back : (c : Option ControllerPart) → option_map controller_part (option_map controller_of c) ≡ c
controller_back None = refl
controller_back (Some c) = ap (λ qs. Some (record c { queries = qs })) (map-back query_of query_part (λ q. refl) c.queries)

pub parts_back : (p : MachineParts) → parts_of (described p) ≡ trimmed p
parts_back p = λ i. record p {
  regions = map-map region_of region_part p.regions i;
  fields = map-back (field_of p.regions) field_part (field_back p.regions) p.fields i;
  events = map-back listed_of event_part (λ e. refl) p.events i;
  controller = controller_back p.controller i;
}

-- ---- and they describe the same machine

cut_all : (xs ws : List ℕ) → length ws ≡ 0 → ws ++ replicate (length xs - length ws) 0 ≡ replicate (length xs) 0
cut_all xs [] e = let whole : length xs - 0 ≡ length xs = omega arith in ap (λ n. replicate n 0) whole
cut_all xs (w ∷ ws) e = absurd (omega (arith, e))

-- what was cut is zeros
padded : (xs : List ℕ) → without_zeros xs ++ replicate (length xs - length (without_zeros xs)) 0 ≡ xs
padded [] = refl
padded (x ∷ xs) = cut ((x == 0) && (length (without_zeros xs) == 0)) refl (padded xs)
  where
    cut : (b : Bool) → ((x == 0) && (length (without_zeros xs) == 0)) ≡ b → without_zeros xs ++ replicate (length xs - length (without_zeros xs)) 0 ≡ xs → (if b then [] else x ∷ without_zeros xs) ++ replicate (suc (length xs) - length (if b then [] else x ∷ without_zeros xs)) 0 ≡ x ∷ xs
    cut true e same =
        let zero_here : x ≡ 0 = grind (arith, rules) in
        let none_stays : length (without_zeros xs) ≡ 0 = grind (arith, rules) in
        let all_zeros : replicate (length xs) 0 ≡ xs = sym (cut_all xs (without_zeros xs) none_stays) ∙ same in
        let one_more : suc (length xs) - 0 ≡ suc (length xs) = omega arith in
        let here : 0 ≡ x = sym zero_here in
        let zeros : replicate (suc (length xs)) 0 ≡ x ∷ xs = λ i. here i ∷ all_zeros i in
        ap (λ n. replicate n 0) one_more ∙ zeros
    cut false e same =
        let rest : suc (length xs) - suc (length (without_zeros xs)) ≡ length xs - length (without_zeros xs) = omega arith in
        ap (λ n. x ∷ (without_zeros xs ++ replicate n 0)) rest ∙ ap (λ ys. x ∷ ys) same

region_back : (r : RegionData) → region_of (region_part r) ≡ r
region_back r = ap (λ cells. record r { cells = cells }) (padded r.cells)

kind_kept : (rs : List RegionPart) (k : ℕ) → kind_of (slice_get (map trim rs) k) ≡ kind_of (slice_get rs k)
kind_kept [] zero = refl
kind_kept [] (suc k) = refl
kind_kept (r ∷ rs) zero = refl
kind_kept (r ∷ rs) (suc k) = kind_kept rs k

field_same : (rs : List RegionPart) → All HasRoom rs → (f : FieldPart) → field_of (map trim rs) f ≡ field_of rs f
field_same rs room f = λ i. record { region = f.region; kind = kind_kept rs f.region i; len = sym (len_kept rs f.region room) i; bit = f.bit; width = f.width; lock = lock_of f.lock; update = f.update }

map-alike : {A B : Type 0} (f g : A → B) → ((x : A) → f x ≡ g x) → (xs : List A) → map f xs ≡ map g xs
map-alike f g same [] = refl
map-alike f g same (x ∷ xs) = λ i. same x i ∷ map-alike f g same xs i

described_same : (p : MachineParts) → All HasRoom p.regions → described (trimmed p) ≡ described p
described_same p room =
    let regions = map-map trim region_of p.regions ∙ map-alike (λ r. region_of (trim r)) region_of (λ r. region_back (region_of r)) p.regions in
    let fields = map-alike (field_of (map trim p.regions)) (field_of p.regions) (field_same p.regions room) p.fields in
    λ i. record (described p) { regions = regions i; fields = fields i }

regions_of_kept : (p : MachineParts) → first_fault p ≡ None → All HasRoom p.regions
unfolding first_fault
regions_of_kept p e = regions_room (is_some p.controller) p.regions (none (machine_rows p) e).1.1.0

-- the parts that the text of a machine tells keep every rule, and describe it
pub told_kept : (m : MachineData) → IsDescribed m → first_fault (parts_of m) ≡ None
told_kept m h =
    let told : parts_of m ≡ trimmed h.parts = ap parts_of (sym h.same) ∙ parts_back h.parts in
    ap first_fault told ∙ trimmed_kept h.parts h.kept

pub told_same : (m : MachineData) → IsDescribed m → described (parts_of m) ≡ m
told_same m h =
    let told : parts_of m ≡ trimmed h.parts = ap parts_of (sym h.same) ∙ parts_back h.parts in
    ap described told ∙ (described_same h.parts (regions_of_kept h.parts h.kept) ∙ h.same)

pub ruleset told = (told_kept, told_same)
