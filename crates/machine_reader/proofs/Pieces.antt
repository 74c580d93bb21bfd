-- The pieces of a text are the compact text of the value.
use Rattle.std.proofs.Common.{◌≡◌, ℕ, Bool, true, false, List, map, ◌++◌, ◌==◌, if◌then◌else◌, Some, codes, refl, sym, ◌∙◌, append_assoc}
use Rattle.json.specs.Print.{escape_byte}
use Rattle.serde_json.specs.Data.{null}
use Rattle.acpi_regs.specs.declared.event.Event.{Event}
use Rattle.field_units.specs.declared.rules.LockRule.{LockRule}
use Rattle.field_units.specs.declared.rules.LockRule.TheVariants as lock
use Rattle.field_units.specs.declared.rules.RegionKind.{RegionKind}
use Rattle.field_units.specs.declared.rules.RegionKind.TheVariants as kind
use Rattle.field_units.specs.declared.rules.UpdateRule.{UpdateRule}
use Rattle.field_units.specs.declared.rules.UpdateRule.TheVariants as update
use Rattle.field_units.specs.Field.{Field, RegionData}
use Rattle.machine_desc.specs.declared.machine.ControllerDesc.{ControllerDesc}
use Rattle.machine_desc.specs.declared.machine.ListedEvent.{ListedEvent}
use Rattle.machine_desc.specs.declared.machine.Query.{Query}
use Rattle.machine_desc.specs.Machine.{MachineData}
use Rattle.machine_reader.specs.Canonical.{blocks_json, canonical, controller_json, controller_one_json, controller_two_json, event_json, field_json, list_json, listed_json, query_json, region_json}
use Rattle.machine_reader.specs.Texts.{blocks_text, controller_text, fickle_text, field_text, first_text, json_text, last_text, listed_text, next_text, query_text, region_text, silent_text, told_glk_text, whole_text}

field_same : (bit region len width : ℕ) (k : RegionKind) (l : LockRule) (u : UpdateRule) → let f : Field = record { region = region; kind = k; len = len; bit = bit; width = width; lock = l; update = u } in json_text (field_json f) ≡ field_text f
unfolding json_text escape_byte
field_same bit region len width k lock.Lock update.Preserve = refl
field_same bit region len width k lock.Lock update.WriteAsOnes = refl
field_same bit region len width k lock.Lock update.WriteAsZeros = refl
field_same bit region len width k lock.NoLock update.Preserve = refl
field_same bit region len width k lock.NoLock update.WriteAsOnes = refl
field_same bit region len width k lock.NoLock update.WriteAsZeros = refl

pub field_pieces : (f : Field) → json_text (field_json f) ≡ field_text f
field_pieces f = field_same f.bit f.region f.len f.width f.kind f.lock f.update

region_same : (k : RegionKind) (cells : List ℕ) → let r : RegionData = record { kind = k; cells = cells } in json_text (region_json r) ≡ region_text r
unfolding json_text escape_byte
region_same kind.Memory cells = refl
region_same kind.Controller cells = refl

pub region_pieces : (r : RegionData) → json_text (region_json r) ≡ region_text r
region_pieces r = region_same r.kind r.cells

pub blocks_pieces : (gpe0 base1 gpe1 : ℕ) → json_text (blocks_json gpe0 base1 gpe1) ≡ blocks_text gpe0 base1 gpe1
unfolding json_text escape_byte
blocks_pieces gpe0 base1 gpe1 = refl

pub listed_pieces : (e : ListedEvent) → json_text (listed_json e) ≡ listed_text e
unfolding json_text escape_byte
listed_pieces e = refl

pub query_pieces : (q : Query) → json_text (query_json q) ≡ query_text q
unfolding json_text escape_byte
query_pieces q = refl

-- the text of a controller, by whether the version is 1
abbrev by_version : (one : Bool) → ControllerDesc → List ℕ
by_version one c =
    codes "{\"event\":" ++ (json_text (event_json c.event)
    ++ (fickle_text c.fickle
    ++ ((if one then codes ",\"queries\":" else told_glk_text c.glk)
    ++ (json_text (list_json (map query_json c.queries)) ++ silent_text c.silent))))

controller_same : (one : Bool) (e : Event) (silent fickle glk : Bool) (queries : List Query) → let c : ControllerDesc = record { event = e; silent = silent; fickle = fickle; glk = glk; queries = queries } in json_text (if one then controller_one_json c else controller_two_json c) ≡ by_version one c
unfolding json_text escape_byte
controller_same true e true true glk queries = refl
controller_same true e true false glk queries = refl
controller_same true e false true glk queries = refl
controller_same true e false false glk queries = refl
controller_same false e true true true queries = refl
controller_same false e true true false queries = refl
controller_same false e true false true queries = refl
controller_same false e true false false queries = refl
controller_same false e false true true queries = refl
controller_same false e false true false queries = refl
controller_same false e false false true queries = refl
controller_same false e false false false queries = refl

pub controller_pieces : (version : ℕ) (c : ControllerDesc) → json_text (controller_json version (Some c)) ≡ controller_text version c
controller_pieces version c = controller_same (version == 1) c.event c.silent c.fickle c.glk c.queries

pub no_controller : json_text null ≡ codes "null"
unfolding json_text
no_controller = refl

pub ruleset controller_texts = (controller_pieces, no_controller)

whole : (m : MachineData) → canonical m ≡ whole_text m
unfolding canonical json_text escape_byte
whole m = refl

thirds : (m : MachineData) → whole_text m ≡ first_text m.version m.controller m.devices m.events m.fields ++ (next_text m.firmware m.gpe0 m.base1 m.gpe1 m.regions ++ last_text m.schedule m.version m.workers)
thirds m = sym (simp append_assoc)

pub description_pieces : (m : MachineData) → canonical m ≡ first_text m.version m.controller m.devices m.events m.fields ++ (next_text m.firmware m.gpe0 m.base1 m.gpe1 m.regions ++ last_text m.schedule m.version m.workers)
description_pieces m = whole m ∙ thirds m
