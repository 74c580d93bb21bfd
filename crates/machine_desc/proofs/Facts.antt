-- Each rule as a fact, of parts that break none.
use Rattle.std.proofs.Common.{◌≡◌, ℕ, ◌+◌, ◌*◌, ◌<◌, ◌≤◌, refl, sym, subst, Bool, true, false, ◌&&◌, ◌||◌, not, nat_lt, ◌==◌, List, length, map, take, Option, Some, None, is_some, slice_get, if◌then◌else◌, arith}
use Rattle.std.proofs.lemmas.Bool.{ltb-false, eqb-false, eqb-true, ltb-true}
use Rattle.std.proofs.lemmas.List.{length-map}
use Rattle.std.specs.List.{list_any}
use Rattle.acpi_regs.specs.declared.actor.Side.{Side}
use Rattle.acpi_regs.specs.declared.actor.Side.TheVariants as side
use Rattle.acpi_regs.specs.declared.event.Event.{Event}
use Rattle.acpi_regs.specs.Geometry.{Blocks, bad_field, end_of}
use Rattle.field_units.specs.declared.fault.FieldFault.TheVariants as field
use Rattle.field_units.specs.declared.rules.RegionKind.{RegionKind}
use Rattle.field_units.specs.declared.rules.RegionKind.TheVariants as kind
use Rattle.field_units.specs.Field.{Field, field_fault, is_controller, most_cells}
use Rattle.handler_script.specs.declared.op.Op.{Op}
use Rattle.handler_script.specs.Accepts.{Accepted, IsScript, script_fault}
use Rattle.machine_desc.specs.declared.fault.Part.TheVariants as part
use Rattle.machine_desc.specs.declared.fault.Rule.TheVariants as rule
use Rattle.machine_desc.specs.declared.parts.ControllerPart.{ControllerPart}
use Rattle.machine_desc.specs.declared.parts.EventPart.{EventPart}
use Rattle.machine_desc.specs.declared.parts.FieldPart.{FieldPart}
use Rattle.machine_desc.specs.declared.parts.MachineParts.{MachineParts}
use Rattle.machine_desc.specs.declared.parts.QueryPart.{QueryPart}
use Rattle.machine_desc.specs.declared.parts.RegionPart.{RegionPart}
use Rattle.machine_desc.specs.Faults.{breaks}
use Rattle.machine_desc.specs.Given.{HasQueries, IsGiven, IsQueryPart}
use Rattle.machine_desc.specs.Machine.{field_of, kind_of, len_of, listed_part}
use Rattle.machine_desc.specs.Rules.{blocks, controller_fault, counts, device_rule, devices_fault, event_fault, event_of, event_rows, events_fault, field_rows, field_rule, fields_fault, firmware_fault, firmware_rule, first_fault, forbids, gpe_fault, gpe_rows, is_controllers, is_event_of, is_in_no_block, is_listed, machine_rows, most_events, most_gpes, own_event_rule, queries_fault, queries_of, query_fault, query_rows, region_fault, region_rows, regions_fault, rule_of, schedule_fault, script_rows, script_rule, step_rule, workers_fault}
use Rattle.machine_desc.specs.Sound.{AreSound, AreSoundQueries, IsFieldIn, IsRegionPart, IsSoundEvent, IsSoundQuery, IsSoundScript}
use Rattle.machine_desc.proofs.EachItem.{PartKept, all_each, each_all, few, no_spot, none, part_kept, unbroken, unmapped}

-- ---- the parts, one by one

abbrev pub forbidden : MachineParts → Op → Bool
forbidden p = forbids (map listed_part p.events) (event_of p.controller)

pub record RulesKept (p : MachineParts) : Type 0 where
  pub geometry : bad_field (blocks p) ≡ None
  pub few_gpes : end_of (blocks p) ≤ most_gpes p.version
  pub some_workers : 1 ≤ p.workers
  pub few_workers : p.workers ≤ 4
  pub regions : PartKept 16 (region_fault (is_some p.controller)) p.regions
  pub fields : PartKept 256 (field_rule p.regions) p.fields
  pub events : PartKept (most_events p.version) (event_fault (blocks p) (event_of p.controller) (forbidden p) (length p.fields)) p.events
  pub own : own_event_rule (blocks p) (event_of p.controller) ≡ None
  pub queries : PartKept 255 (query_fault (forbidden p) (length p.fields)) (queries_of p.controller)
  pub firmware : PartKept 8 (firmware_rule (forbidden p) (length p.fields)) p.firmware
  pub devices : PartKept 8 (device_rule (map listed_part p.events) (event_of p.controller)) p.devices
  pub schedule : PartKept 65536 (step_rule (counts p)) p.schedule

neither : (a b : Bool) → (a || b) ≡ false → (a ≡ false) × (b ≡ false)
neither true b e = cc
neither false b e = (refl, e)

absent : {A : Type 0} (o : Option A) → is_some o ≡ false → o ≡ None
absent None e = refl
absent (Some x) e = cc

gpe_kept : (version : ℕ) (b : Blocks) → gpe_fault version b ≡ None → (bad_field b ≡ None) × (end_of b ≤ most_gpes version)
unfolding gpe_fault
gpe_kept version b e =
    let rows = none (gpe_rows version b) (no_spot part.Gpe 0 _ e) in
    (absent (bad_field b) (unbroken (is_some (bad_field b)) rule.BadGeometry 0 rows.0), few (most_gpes version) (end_of b) rule.TooManyEvents 0 rows.1.0)

workers_kept : (workers : ℕ) → workers_fault workers ≡ None → (1 ≤ workers) × (workers ≤ 4)
unfolding workers_fault
workers_kept workers e =
    let both = neither (nat_lt workers 1) (nat_lt 4 workers) (unbroken (nat_lt workers 1 || nat_lt 4 workers) rule.BadWorkers 0 (no_spot part.Workers 0 (breaks (nat_lt workers 1 || nat_lt 4 workers) rule.BadWorkers) e)) in
    (ltb-false workers 1 both.0, ltb-false 4 workers both.1)

pub kept : (p : MachineParts) → first_fault p ≡ None → RulesKept p
unfolding first_fault regions_fault fields_fault events_fault controller_fault queries_fault firmware_fault devices_fault schedule_fault
kept p e =
    let rows = none (machine_rows p) e in
    let gpe = gpe_kept p.version (blocks p) rows.0 in
    let workers = workers_kept p.workers rows.1.0 in
    record {
      geometry = gpe.0;
      few_gpes = gpe.1;
      some_workers = workers.0;
      few_workers = workers.1;
      regions = part_kept part.Region 16 (region_fault (is_some p.controller)) p.regions rows.1.1.0;
      fields = part_kept part.Field 256 (field_rule p.regions) p.fields rows.1.1.1.0;
      events = part_kept part.Event (most_events p.version) (event_fault (blocks p) (event_of p.controller) (forbidden p) (length p.fields)) p.events rows.1.1.1.1.0;
      own = no_spot part.Controller 0 (own_event_rule (blocks p) (event_of p.controller)) rows.1.1.1.1.1.0;
      queries = part_kept part.Query 255 (query_fault (forbidden p) (length p.fields)) (queries_of p.controller) rows.1.1.1.1.1.1.0;
      firmware = part_kept part.Firmware 8 (firmware_rule (forbidden p) (length p.fields)) p.firmware rows.1.1.1.1.1.1.1.0;
      devices = part_kept part.Device 8 (device_rule (map listed_part p.events) (event_of p.controller)) p.devices rows.1.1.1.1.1.1.1.1.0;
      schedule = part_kept part.Schedule 65536 (step_rule (counts p)) p.schedule rows.1.1.1.1.1.1.1.1.1.0;
    }

-- ---- regions and fields

pub record RegionKept (has_controller : Bool) (before : List RegionPart) (r : RegionPart) : Type 0 where
  pub part : IsRegionPart r
  pub address : is_controller r.kind ≡ true → r.len ≡ 256
  pub alone : is_controller r.kind ≡ true → list_any is_controllers before ≡ false
  pub owner : is_controller r.kind ≡ true → has_controller ≡ true

only : (a b : Bool) → (a && b) ≡ false → a ≡ true → b ≡ false
only true b e t = e
only false b e t = cc

pub isnt : (b : Bool) → not b ≡ false → b ≡ true
isnt true e = refl
isnt false e = cc

within : (c : Bool) (n : ℕ) → (not c && nat_lt 4096 n) ≡ false → (c && not (n == 256)) ≡ false → n ≤ 4096
within true n e f = let same : n ≡ 256 = eqb-true n 256 (isnt (n == 256) f) in omega arith
within false n e f = ltb-false 4096 n e

nonzero : (n : ℕ) → (n == 0) ≡ false → 1 ≤ n
nonzero n e = positive n (eqb-false n 0 e)
  where
    positive : (n : ℕ) → (n ≡ 0 → ⊥) → 1 ≤ n
    positive n some = omega arith

pub region_kept : (has_controller : Bool) (before : List RegionPart) (r : RegionPart) → region_fault has_controller before r ≡ None → RegionKept has_controller before r
region_kept has_controller before r e =
    let rows = none (region_rows has_controller before r) e in
    let c = is_controllers r in
    let size : (not c && nat_lt 4096 r.len) ≡ false = unbroken (not c && nat_lt 4096 r.len) rule.BadRegion 0 rows.1.0 in
    let exact : (c && not (r.len == 256)) ≡ false = unbroken (c && not (r.len == 256)) rule.BadRegion 0 rows.1.1.0 in
    record {
      part = record {
        some = nonzero r.len (unbroken (r.len == 0) rule.BadRegion 0 rows.0);
        few = within c r.len size exact;
        given = few r.len (length r.bytes) rule.BadRegion 0 rows.1.1.1.0;
      };
      address = λ t. eqb-true r.len 256 (isnt (r.len == 256) (only c (not (r.len == 256)) exact t));
      alone = λ t. only c (list_any is_controllers before) (unbroken (c && list_any is_controllers before) rule.BadRegion 0 rows.1.1.1.1.0) t;
      owner = λ t. isnt has_controller (only c (not has_controller) (unbroken (c && not has_controller) rule.BadRegion 0 rows.1.1.1.1.1.0) t);
    }

pub record FieldKept (regions : List RegionPart) (f : FieldPart) : Type 0 where
  pub named : f.region < length regions
  pub fits : field_fault (len_of (slice_get regions f.region)) f.bit f.width ≡ None

fits_in : (a b : Bool) → a ≡ false → b ≡ false → (if a then Some field.BadWidth else (if b then Some field.OutsideRegion else None)) ≡ None
fits_in true b e f = cc
fits_in false true e f = cc
fits_in false false e f = refl

pub field_kept : (regions : List RegionPart) (before : List FieldPart) (f : FieldPart) → field_rule regions before f ≡ None → FieldKept regions f
field_kept regions before f e =
    let rows = none (field_rows regions f) e in
    let len = len_of (slice_get regions f.region) in
    record {
      named = ltb-true f.region (length regions) (isnt (nat_lt f.region (length regions)) (unbroken (not (nat_lt f.region (length regions))) rule.UnknownRegion 0 rows.0));
      fits = fits_in (nat_lt f.width 1 || nat_lt 64 f.width) (nat_lt (8 * len) (f.bit + f.width))
          (unbroken (nat_lt f.width 1 || nat_lt 64 f.width) rule.BadWidth 0 rows.1.0)
          (unbroken (nat_lt (8 * len) (f.bit + f.width)) rule.OutsideRegion 0 rows.1.1.0);
    }

-- ---- scripts

pub record ScriptKept (forbids : Op → Bool) (of_side : Side) (fields : ℕ) (ops : List Op) : Type 0 where
  pub short : length ops ≤ 4096
  pub faultless : script_fault forbids of_side fields ops ≡ None

pub script_kept : (forbids : Op → Bool) (of_side : Side) (fields : ℕ) (ops : List Op) → script_rule forbids of_side fields ops ≡ None → ScriptKept forbids of_side fields ops
script_kept forbids of_side fields ops e =
    let rows = none (script_rows forbids of_side fields ops) e in
    record {
      short = few 4096 (length ops) rule.LongScript 4096 rows.0;
      faultless = unmapped rule_of (script_fault forbids of_side fields ops) rows.1.0;
    }

pub script_accepted : (forbids : Op → Bool) (of_side : Side) (fields : List Field) (ops : List Op) → ScriptKept forbids of_side (length fields) ops → Accepted fields ops
script_accepted forbids of_side fields ops k = record { forbidden = forbids; of_side = of_side; faultless = k.faultless; short = k.short }

-- ---- events, queries, devices and steps

pub record EventKept (b : Blocks) (own : Option Event) (forbids : Op → Bool) (fields : ℕ) (before : List EventPart) (e : EventPart) : Type 0 where
  pub block : is_in_no_block b e.event ≡ false
  pub new : is_listed (map listed_part before) e.event ≡ false
  pub apart : is_event_of e.event own ≡ false
  pub refs : e.refs ≤ 255
  pub script : ScriptKept forbids side.Os fields e.script

pub event_kept : (b : Blocks) (own : Option Event) (forbids : Op → Bool) (fields : ℕ) (before : List EventPart) (x : EventPart) → event_fault b own forbids fields before x ≡ None → EventKept b own forbids fields before x
event_kept b own forbids fields before x e =
    let rows = none (event_rows b own forbids fields before x) e in
    let free = neither (is_listed (map listed_part before) x.event) (is_event_of x.event own) (unbroken (is_listed (map listed_part before) x.event || is_event_of x.event own) rule.TakenEvent 0 rows.1.0) in
    record {
      block = unbroken (is_in_no_block b x.event) rule.UnknownEvent 0 rows.0;
      new = free.0;
      apart = free.1;
      refs = few 255 x.refs rule.BadRefs 0 rows.1.1.0;
      script = script_kept forbids side.Os fields x.script rows.1.1.1.0;
    }

pub record QueryKept (forbids : Op → Bool) (fields : ℕ) (before : List QueryPart) (q : QueryPart) : Type 0 where
  pub new : list_any (λ x. x.code == q.code) before ≡ false
  pub script : ScriptKept forbids side.Os fields q.script

pub query_kept : (forbids : Op → Bool) (fields : ℕ) (before : List QueryPart) (q : QueryPart) → query_fault forbids fields before q ≡ None → QueryKept forbids fields before q
query_kept forbids fields before q e =
    let rows = none (query_rows forbids fields before q) e in
    record {
      new = unbroken (list_any (λ x. x.code == q.code) before) rule.TakenCode 0 rows.0;
      script = script_kept forbids side.Os fields q.script rows.1.0;
    }

-- ---- what the program builds of

pub sound_script : (p : MachineParts) (of_side : Side) (ops : List Op) → ScriptKept (forbidden p) of_side (length p.fields) ops → IsScript ops
sound_script p of_side ops k =
    let same : length p.fields ≡ length (map (field_of p.regions) p.fields) = sym (length-map p.fields (field_of p.regions)) in (
      map (field_of p.regions) p.fields,
      record { forbidden = forbidden p; of_side = of_side; faultless = subst (λ n. script_fault (forbidden p) of_side n ops ≡ None) same k.faultless; short = k.short },
    )

-- the region of a field has no more cells than its kind may have
pub short_region : (has_controller : Bool) (regions : List RegionPart) → PartKept 16 (region_fault has_controller) regions → (k : ℕ) → len_of (slice_get regions k) ≤ most_cells (kind_of (slice_get regions k))
short_region has_controller regions kept k = at (slice_get regions k) refl
  where
    sized : (kind : RegionKind) (len : ℕ) → (is_controller kind ≡ true → len ≡ 256) → len ≤ 4096 → len ≤ most_cells kind
    sized kind.Memory len exact less = omega arith
    sized kind.Controller len exact less = let same : len ≡ 256 = exact refl in omega arith

    at : (o : Option RegionPart) → slice_get regions k ≡ o → len_of o ≤ most_cells (kind_of o)
    at None e = omega arith
    at (Some r) e = let rk = region_kept has_controller (take k regions) r (kept.each k r e) in sized r.kind r.len rk.address rk.part.few

sound_queries : (p : MachineParts) (c : Option ControllerPart) → PartKept 255 (query_fault (forbidden p) (length p.fields)) (queries_of c) → HasQueries c → AreSoundQueries c
sound_queries p None kept given = tt
sound_queries p (Some c) kept given = all_each IsSoundQuery c.queries (λ k q at. record {
  code = (each_all IsQueryPart c.queries given k q at).code;
  script = sound_script p side.Os q.script (query_kept (forbidden p) (length p.fields) (take k c.queries) q (kept.each k q at)).script;
})

pub sound : (p : MachineParts) → IsGiven p → first_fault p ≡ None → AreSound p
sound p given e =
    let k = kept p e in
    record {
      regions = all_each IsRegionPart p.regions (λ i r at. (region_kept (is_some p.controller) (take i p.regions) r (k.regions.each i r at)).part);
      fields = all_each (IsFieldIn p.regions) p.fields (λ i f at.
          let h = field_kept p.regions (take i p.fields) f (k.fields.each i f at) in
          record { region = h.named; short = short_region (is_some p.controller) p.regions k.regions f.region; fits = h.fits });
      events = all_each IsSoundEvent p.events (λ i x at.
          let h = event_kept (blocks p) (event_of p.controller) (forbidden p) (length p.fields) (take i p.events) x (k.events.each i x at) in
          record { refs = h.refs; script = sound_script p side.Os x.script h.script });
      queries = sound_queries p p.controller k.queries given.queries;
      firmware = all_each IsSoundScript p.firmware (λ i ops at.
          let h = script_kept (forbidden p) side.Firmware (length p.fields) ops (k.firmware.each i ops at) in
          record { short = h.short; script = sound_script p side.Firmware ops h });
    }
