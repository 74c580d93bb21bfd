-- The form of a description: each object with its names, and its members in the order in which they are read.
use Rattle.std.specs.Prelude.{◌≡◌, ℕ, ◌<◌, ◌==◌, Bool, true, false, List, [], ◌∷◌, Option, Some, None, is_some, nat_le, option_map, option_and_then, if◌then◌else◌, Ok, codes}
use Rattle.std.specs.Str.{bytes_eq}
use Rattle.serde_json.specs.Data.{Data, Items, no_items, item}
use Rattle.serde_json.specs.Find.{as_array, as_bool, as_null, as_number, as_str, as_u64}
use Rattle.acpi_regs.specs.declared.actor.Actor.{Actor}
use Rattle.acpi_regs.specs.declared.event.Event.{Event}
use Rattle.acpi_regs.specs.Event.{is_gbl}
use Rattle.field_units.specs.declared.rules.RegionKind.{RegionKind}
use Rattle.field_units.specs.declared.rules.RegionKind.TheVariants as kind
use Rattle.field_units.specs.declared.rules.UpdateRule.{UpdateRule}
use Rattle.field_units.specs.declared.rules.UpdateRule.TheVariants as update
use Rattle.handler_script.specs.declared.op.Op.{Op}
use Rattle.handler_script.specs.declared.op.Op.TheVariants as op
use Rattle.machine_desc.specs.declared.parts.ControllerPart.{ControllerPart}
use Rattle.machine_desc.specs.declared.parts.EventPart.{EventPart}
use Rattle.machine_desc.specs.declared.parts.FieldPart.{FieldPart}
use Rattle.machine_desc.specs.declared.parts.MachineParts.{MachineParts}
use Rattle.machine_desc.specs.declared.parts.QueryPart.{QueryPart}
use Rattle.machine_desc.specs.declared.parts.RegionPart.{RegionPart}
use Rattle.machine_desc.specs.Given.{HasGlk, HasLevel, HasQueries, IsVersion, is_version}
use Rattle.machine_reader.specs.declared.names.ListedName.{ListedName}
use Rattle.machine_reader.specs.declared.names.QueryCode.{QueryCode}
use Rattle.machine_reader.specs.declared.parts.Blocks.{Blocks}
use Rattle.machine_reader.specs.declared.parts.Version.{Version}
use Rattle.machine_reader.specs.Names.{actor_named, event_named, listed_named, query_named}
use Rattle.machine_reader.specs.Reading.{Reading, ◌>>=◌, list_of, member_in, object_of, whole}

-- ---- values that are tested as a whole

-- a number of 64 bits
abbrev pub number : Data → Option ℕ
number d = option_and_then as_u64 (as_number d)

-- a number up to a greatest one
abbrev pub number_up_to : ℕ → Data → Option ℕ
number_up_to max d = option_and_then (λ n. if nat_le n max then Some n else None) (number d)

abbrev pub byte : Data → Option ℕ
byte d = number_up_to 255 d

abbrev pub half : Data → Option ℕ
half d = number_up_to 65535 d

abbrev pub word : Data → Option ℕ
word d = number_up_to 4294967295 d

-- a byte that is not 0
abbrev pub unless_zero : ℕ → Option ℕ
unless_zero n = if n == 0 then None else Some n

abbrev pub code : Data → Option ℕ
code d = option_and_then unless_zero (byte d)

abbrev pub event : Data → Option Event
event d = option_and_then event_named (as_str d)

abbrev pub actor : Data → Option Actor
actor d = option_and_then actor_named (as_str d)

abbrev pub listed : Data → Option ListedName
listed d = option_and_then listed_named (as_str d)

abbrev pub query_code : Data → Option QueryCode
query_code d = option_and_then query_named (as_str d)

abbrev pub kind_named : List ℕ → Option RegionKind
kind_named text =
    if bytes_eq text (codes "memory") then Some kind.Memory
    else (if bytes_eq text (codes "controller") then Some kind.Controller
    else None)

abbrev pub kind_in : Data → Option RegionKind
kind_in d = option_and_then kind_named (as_str d)

abbrev pub update_named : List ℕ → Option UpdateRule
update_named text =
    if bytes_eq text (codes "preserve") then Some update.Preserve
    else (if bytes_eq text (codes "ones") then Some update.WriteAsOnes
    else (if bytes_eq text (codes "zeros") then Some update.WriteAsZeros
    else None))

abbrev pub update_in : Data → Option UpdateRule
update_in d = option_and_then update_named (as_str d)

-- version 1 or 2
abbrev pub known_version : ℕ → Option Version
known_version n = if is_version n then Some (record { number = n }) else None

abbrev pub version : Data → Option Version
version d = option_and_then known_version (byte d)

-- ---- operations: an array of a name and its operands, tested as a whole

-- two operands
abbrev pub both : {A B C : Type 0} → (A → B → C) → Option A → Option B → Option C
both f a b = option_and_then (λ x. option_map (f x) b) a

abbrev pub op_alone : List ℕ → Option Op
op_alone text =
    if bytes_eq text (codes "hold") then Some op.Hold
    else (if bytes_eq text (codes "free") then Some op.Free
    else None)

abbrev pub op_with_one : List ℕ → Data → Option Op
op_with_one text x =
    if bytes_eq text (codes "read") then option_map op.Read (half x)
    else (if bytes_eq text (codes "drop") then option_map op.Drop (event x)
    else (if bytes_eq text (codes "up") then option_map op.Up (event x)
    else (if bytes_eq text (codes "down") then option_map op.Down (event x)
    else (if bytes_eq text (codes "raise") then option_map op.Raise (event x)
    else (if bytes_eq text (codes "assert") then option_map op.Assert (event x)
    else (if bytes_eq text (codes "push") then option_map op.Push (code x)
    else None))))))

abbrev pub op_with_two : List ℕ → Data → Data → Option Op
op_with_two text x y =
    if bytes_eq text (codes "write") then both op.Write (half x) (number y)
    else (if bytes_eq text (codes "add") then both op.Add (half x) (number y)
    else (if bytes_eq text (codes "skip") then both op.Skip (number x) (half y)
    else (if bytes_eq text (codes "notify") then both op.Notify (byte x) (byte y)
    else None)))

-- the operation of a name with these operands
abbrev pub op_named : List ℕ → Items → Option Op
op_named text no_items = op_alone text
op_named text (item x no_items) = op_with_one text x
op_named text (item x (item y no_items)) = op_with_two text x y
op_named text _ = None

abbrev pub op_of : Items → Option Op
op_of no_items = None
op_of (item name operands) = option_and_then (λ text. op_named text operands) (as_str name)

abbrev pub op_in : Data → Option Op
op_in d = option_and_then op_of (as_array d)

-- ---- the parts

abbrev pub byte_shape : Data → Reading ℕ
byte_shape d = whole (byte d)

abbrev pub half_shape : Data → Reading ℕ
half_shape d = whole (half d)

abbrev pub word_shape : Data → Reading ℕ
word_shape d = whole (word d)

abbrev pub truth_shape : Data → Reading Bool
truth_shape d = whole (as_bool d)

abbrev pub event_shape : Data → Reading Event
event_shape d = whole (event d)

abbrev pub actor_shape : Data → Reading Actor
actor_shape d = whole (actor d)

abbrev pub listed_shape : Data → Reading ListedName
listed_shape d = whole (listed d)

abbrev pub query_code_shape : Data → Reading QueryCode
query_code_shape d = whole (query_code d)

abbrev pub kind_shape : Data → Reading RegionKind
kind_shape d = whole (kind_in d)

abbrev pub update_shape : Data → Reading UpdateRule
update_shape d = whole (update_in d)

abbrev pub version_shape : Data → Reading Version
version_shape d = whole (version d)

abbrev pub op_shape : Data → Reading Op
op_shape d = whole (op_in d)

abbrev pub script_shape : Data → Reading (List Op)
script_shape d = list_of op_shape d

-- a region (ACPI 6.5, section 5.5.2.4)
abbrev pub region_members : Data → Reading RegionPart
region_members d = do
  kind ← member_in (codes "kind") kind_shape d
  len ← member_in (codes "len") half_shape d
  bytes ← member_in (codes "bytes") (list_of byte_shape) d
  Ok (record { kind = kind; len = len; bytes = bytes })

abbrev pub region_shape : Data → Reading RegionPart
region_shape d = object_of (codes "kind" ∷ codes "len" ∷ codes "bytes" ∷ []) region_members d

-- a field (ACPI 6.5, section 19.6.48)
abbrev pub field_members : Data → Reading FieldPart
field_members d = do
  region ← member_in (codes "region") byte_shape d
  bit ← member_in (codes "bit") word_shape d
  width ← member_in (codes "width") byte_shape d
  lock ← member_in (codes "lock") truth_shape d
  update ← member_in (codes "update") update_shape d
  Ok (record { region = region; bit = bit; width = width; lock = lock; update = update })

abbrev pub field_shape : Data → Reading FieldPart
field_shape d =
    object_of (codes "region" ∷ codes "bit" ∷ codes "width" ∷ codes "lock" ∷ codes "update" ∷ []) field_members d

-- an event with a handler (ACPI 6.5, section 5.6.4.1)
abbrev pub event_members : Data → Reading EventPart
event_members d = do
  name ← member_in (codes "name") listed_shape d
  refs ← member_in (codes "refs") half_shape d
  script ← member_in (codes "script") script_shape d
  Ok (record { event = name.event; level = name.level; refs = refs; script = script })

abbrev pub listed_event_shape : Data → Reading EventPart
listed_event_shape d = object_of (codes "name" ∷ codes "refs" ∷ codes "script" ∷ []) event_members d

-- a query code with a handler (ACPI 6.5, section 5.6.4.1)
abbrev pub query_members : Data → Reading QueryPart
query_members d = do
  name ← member_in (codes "name") query_code_shape d
  script ← member_in (codes "script") script_shape d
  Ok (record { code = name.code; script = script })

abbrev pub query_shape : Data → Reading QueryPart
query_shape d = object_of (codes "name" ∷ codes "script" ∷ []) query_members d

-- An embedded controller (ACPI 6.5, chapter 12). In version 1 it has no name glk, and it needs the Global Lock.
abbrev pub controller_one_members : Data → Reading ControllerPart
controller_one_members d = do
  event ← member_in (codes "event") event_shape d
  silent ← member_in (codes "silent") truth_shape d
  fickle ← member_in (codes "fickle") truth_shape d
  queries ← member_in (codes "queries") (list_of query_shape) d
  Ok (record { event = event; silent = silent; fickle = fickle; glk = true; queries = queries })

abbrev pub controller_one : Data → Reading ControllerPart
controller_one d =
    object_of (codes "event" ∷ codes "silent" ∷ codes "fickle" ∷ codes "queries" ∷ []) controller_one_members d

-- In version 2 it has the name glk: whether it needs the Global Lock (`_GLK`, ACPI 6.5, section 6.5.7).
abbrev pub controller_two_members : Data → Reading ControllerPart
controller_two_members d = do
  event ← member_in (codes "event") event_shape d
  silent ← member_in (codes "silent") truth_shape d
  fickle ← member_in (codes "fickle") truth_shape d
  glk ← member_in (codes "glk") truth_shape d
  queries ← member_in (codes "queries") (list_of query_shape) d
  Ok (record { event = event; silent = silent; fickle = fickle; glk = glk; queries = queries })

abbrev pub controller_two : Data → Reading ControllerPart
controller_two d =
    object_of (codes "event" ∷ codes "silent" ∷ codes "fickle" ∷ codes "glk" ∷ codes "queries" ∷ [])
    controller_two_members d

-- null, or a controller of this form
abbrev pub or_null : (Data → Reading ControllerPart) → Data → Reading (Option ControllerPart)
or_null form d = if is_some (as_null d) then Ok None else (form d >>= λ c. Ok (Some c))

-- the controller or none, in a description of this version
abbrev pub controller_shape : ℕ → Data → Reading (Option ControllerPart)
controller_shape version = if version == 1 then or_null controller_one else or_null controller_two

-- the GPE blocks (ACPI 6.5, section 4.8.4.1)
abbrev pub blocks_members : Data → Reading Blocks
blocks_members d = do
  gpe0 ← member_in (codes "gpe0") half_shape d
  base1 ← member_in (codes "base1") half_shape d
  gpe1 ← member_in (codes "gpe1") half_shape d
  Ok (record { gpe0 = gpe0; base1 = base1; gpe1 = gpe1 })

abbrev pub blocks_shape : Data → Reading Blocks
blocks_shape d = object_of (codes "gpe0" ∷ codes "base1" ∷ codes "gpe1" ∷ []) blocks_members d

-- the description
abbrev pub description_names : List (List ℕ)
description_names =
    codes "version" ∷ codes "gpe" ∷ codes "workers" ∷ codes "regions" ∷ codes "fields" ∷ codes "events"
    ∷ codes "controller" ∷ codes "firmware" ∷ codes "devices" ∷ codes "schedule" ∷ []

abbrev pub description_members : Data → Reading MachineParts
description_members d = do
  version ← member_in (codes "version") version_shape d
  gpe ← member_in (codes "gpe") blocks_shape d
  workers ← member_in (codes "workers") byte_shape d
  regions ← member_in (codes "regions") (list_of region_shape) d
  fields ← member_in (codes "fields") (list_of field_shape) d
  events ← member_in (codes "events") (list_of listed_event_shape) d
  controller ← member_in (codes "controller") (controller_shape version.number) d
  firmware ← member_in (codes "firmware") (list_of script_shape) d
  devices ← member_in (codes "devices") (list_of (list_of event_shape)) d
  schedule ← member_in (codes "schedule") (list_of actor_shape) d
  Ok (record {
    version = version.number;
    gpe0 = gpe.gpe0;
    base1 = gpe.base1;
    gpe1 = gpe.gpe1;
    workers = workers;
    regions = regions;
    fields = fields;
    events = events;
    controller = controller;
    firmware = firmware;
    devices = devices;
    schedule = schedule;
  })

abbrev pub shape : Data → Reading MachineParts
shape d = object_of description_names description_members d

-- ---- what each value that is read is, for private clauses

abbrev pub IsKnown : Version → Type 0
IsKnown v = IsVersion v.number

-- a controller, or none, as a description of this version may have it
pub record IsController (version : ℕ) (c : Option ControllerPart) : Type 0 where
  pub queries : HasQueries c
  pub glk : HasGlk version c

abbrev pub IsListedName : ListedName → Type 0
IsListedName l = (is_gbl l.event ≡ false) × HasLevel l.event l.level

abbrev pub IsQueryCode : QueryCode → Type 0
IsQueryCode q = 0 < q.code
