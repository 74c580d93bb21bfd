-- For private clauses: the texts of the canonical form, piece by piece as they are written.
use Rattle.std.specs.Prelude.{ℕ, Bool, true, false, List, ◌++◌, ◌==◌, length, map, Option, if◌then◌else◌, codes, decimal}
use Rattle.serde_json.specs.Data.{Data, string}
use Rattle.serde_json.specs.View.{items_of}
use Rattle.serde_json.specs.Written.{compact_text, items_text}
use Rattle.acpi_regs.specs.declared.actor.Actor.{Actor}
use Rattle.acpi_regs.specs.declared.event.Event.{Event}
use Rattle.field_units.specs.declared.rules.RegionKind.{RegionKind}
use Rattle.field_units.specs.declared.rules.RegionKind.TheVariants as kind
use Rattle.field_units.specs.declared.rules.UpdateRule.{UpdateRule}
use Rattle.field_units.specs.declared.rules.UpdateRule.TheVariants as update
use Rattle.field_units.specs.Field.{Field, RegionData, is_lock}
use Rattle.handler_script.specs.declared.op.Op.{Op}
use Rattle.machine_desc.specs.declared.machine.ControllerDesc.{ControllerDesc}
use Rattle.machine_desc.specs.declared.machine.ListedEvent.{ListedEvent}
use Rattle.machine_desc.specs.declared.machine.Query.{Query}
use Rattle.machine_desc.specs.Machine.{MachineData}
use Rattle.machine_reader.specs.Canonical.{actor_json, blocks_json, controller_json, event_json, field_json, list_json, listed_json, listed_name, number_json, pulses_json, query_json, query_name, region_json, script_json, without_zeros}

-- the text of a value, which stays closed where pieces are put together
unfoldable pub json_text : Data → List ℕ
json_text d = compact_text d

-- the elements of a list after the first, each after a comma, and the bracket
unfoldable pub rest_text : List Data → List ℕ
rest_text ds = items_text true (items_of ds)

abbrev pub lock_text : Bool → List ℕ
lock_text true = codes ",\"lock\":true,\"region\":"
lock_text false = codes ",\"lock\":false,\"region\":"

abbrev pub update_text : UpdateRule → List ℕ
update_text update.Preserve = codes ",\"update\":\"preserve\",\"width\":"
update_text update.WriteAsOnes = codes ",\"update\":\"ones\",\"width\":"
update_text update.WriteAsZeros = codes ",\"update\":\"zeros\",\"width\":"

abbrev pub field_text : Field → List ℕ
field_text f =
    codes "{\"bit\":" ++ (decimal f.bit
    ++ (lock_text (is_lock f.lock) ++ (decimal f.region
    ++ (update_text f.update ++ (decimal f.width ++ codes "}")))))

abbrev pub kind_text : RegionKind → List ℕ
kind_text kind.Memory = codes ",\"kind\":\"memory\",\"len\":"
kind_text kind.Controller = codes ",\"kind\":\"controller\",\"len\":"

abbrev pub region_text : RegionData → List ℕ
region_text r =
    codes "{\"bytes\":" ++ (json_text (list_json (map number_json (without_zeros r.cells)))
    ++ (kind_text r.kind ++ (decimal (length r.cells) ++ codes "}")))

abbrev pub blocks_text : ℕ → ℕ → ℕ → List ℕ
blocks_text gpe0 base1 gpe1 =
    codes "{\"base1\":" ++ (decimal base1
    ++ (codes ",\"gpe0\":" ++ (decimal gpe0
    ++ (codes ",\"gpe1\":" ++ (decimal gpe1 ++ codes "}")))))

abbrev pub listed_text : ListedEvent → List ℕ
listed_text e =
    codes "{\"name\":" ++ (json_text (string (listed_name e.listed.event e.listed.level))
    ++ (codes ",\"refs\":" ++ (decimal e.listed.refs
    ++ (codes ",\"script\":" ++ (json_text (script_json e.script) ++ codes "}")))))

abbrev pub query_text : Query → List ℕ
query_text q =
    codes "{\"name\":" ++ (json_text (string (query_name q.code))
    ++ (codes ",\"script\":" ++ (json_text (script_json q.script) ++ codes "}")))

abbrev pub fickle_text : Bool → List ℕ
fickle_text true = codes ",\"fickle\":true"
fickle_text false = codes ",\"fickle\":false"

-- glk in version 2, and the name of the queries
abbrev pub told_glk_text : Bool → List ℕ
told_glk_text true = codes ",\"glk\":true,\"queries\":"
told_glk_text false = codes ",\"glk\":false,\"queries\":"

-- glk in a description of this version, and the name of the queries
abbrev pub glk_text : ℕ → Bool → List ℕ
glk_text version glk = if version == 1 then codes ",\"queries\":" else told_glk_text glk

abbrev pub silent_text : Bool → List ℕ
silent_text true = codes ",\"silent\":true}"
silent_text false = codes ",\"silent\":false}"

abbrev pub controller_text : ℕ → ControllerDesc → List ℕ
controller_text version c =
    codes "{\"event\":" ++ (json_text (event_json c.event)
    ++ (fickle_text c.fickle
    ++ (glk_text version c.glk
    ++ (json_text (list_json (map query_json c.queries)) ++ silent_text c.silent))))

-- the members up to the fields, from the firmware to the regions, and the last
abbrev pub first_text : ℕ → Option ControllerDesc → List (List Event) → List ListedEvent → List Field → List ℕ
first_text version controller devices events fields =
    codes "{\"controller\":" ++ (json_text (controller_json version controller)
    ++ (codes ",\"devices\":" ++ (json_text (list_json (map pulses_json devices))
    ++ (codes ",\"events\":" ++ (json_text (list_json (map listed_json events))
    ++ (codes ",\"fields\":" ++ json_text (list_json (map field_json fields))))))))

abbrev pub next_text : List (List Op) → ℕ → ℕ → ℕ → List RegionData → List ℕ
next_text firmware gpe0 base1 gpe1 regions =
    codes ",\"firmware\":" ++ (json_text (list_json (map script_json firmware))
    ++ (codes ",\"gpe\":" ++ (json_text (blocks_json gpe0 base1 gpe1)
    ++ (codes ",\"regions\":" ++ json_text (list_json (map region_json regions))))))

abbrev pub last_text : List Actor → ℕ → ℕ → List ℕ
last_text schedule version workers =
    codes ",\"schedule\":" ++ (json_text (list_json (map actor_json schedule))
    ++ (codes ",\"version\":" ++ (decimal version ++ (codes ",\"workers\":" ++ (decimal workers ++ codes "}")))))

abbrev pub whole_text : MachineData → List ℕ
whole_text m =
    codes "{\"controller\":" ++ (json_text (controller_json m.version m.controller)
    ++ (codes ",\"devices\":" ++ (json_text (list_json (map pulses_json m.devices))
    ++ (codes ",\"events\":" ++ (json_text (list_json (map listed_json m.events))
    ++ (codes ",\"fields\":" ++ (json_text (list_json (map field_json m.fields))
    ++ (codes ",\"firmware\":" ++ (json_text (list_json (map script_json m.firmware))
    ++ (codes ",\"gpe\":" ++ (json_text (blocks_json m.gpe0 m.base1 m.gpe1)
    ++ (codes ",\"regions\":" ++ (json_text (list_json (map region_json m.regions))
    ++ (codes ",\"schedule\":" ++ (json_text (list_json (map actor_json m.schedule))
    ++ (codes ",\"version\":" ++ (decimal m.version
    ++ (codes ",\"workers\":" ++ (decimal m.workers ++ codes "}")))))))))))))))))))
