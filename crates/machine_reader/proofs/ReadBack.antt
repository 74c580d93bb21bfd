-- What is written for a machine is read as its parts.
use Rattle.std.proofs.Common.{◌≡◌, inl, inr, ℕ, ◌+◌, ◌/◌, ◌<◌, ◌≤◌, Bool, true, false, ◌==◌, ◌&&◌, if◌then◌else◌, All, List, [], ◌∷◌, ◌++◌, length, get_or, map, take, Option, Some, None, option_map, Ok, codes, decimal, refl, sym, ap, ◌∙◌, subst, rules, arith}
use Rattle.std.proofs.lemmas.Fmt.{decimal_digit}
use Rattle.std.proofs.lemmas.List.{take_more}
use Rattle.std.proofs.lemmas.List.Elements.{All-cons, All-head, All-push, All-tail}
use Rattle.serde_json.specs.Data.{Data, string, boolean}
use Rattle.serde_json.specs.View.{items_of}
use Rattle.acpi_regs.specs.declared.actor.Actor.{Actor}
use Rattle.acpi_regs.specs.declared.actor.Actor.TheVariants as actor
use Rattle.acpi_regs.specs.declared.event.Event.{Event}
use Rattle.acpi_regs.specs.declared.event.Event.TheVariants as event
use Rattle.acpi_regs.specs.declared.event.Fixed.TheVariants as fixed
use Rattle.acpi_regs.specs.declared.name.MethodName.TheVariants as name
use Rattle.acpi_regs.specs.Event.{is_gbl}
use Rattle.acpi_regs.specs.Names.{digit, name_in, spelling}
use Rattle.acpi_regs.proofs.Names.{byte_on, spells}
use Rattle.field_units.specs.declared.rules.RegionKind.{RegionKind}
use Rattle.field_units.specs.declared.rules.RegionKind.TheVariants as kind
use Rattle.field_units.specs.declared.rules.UpdateRule.{UpdateRule}
use Rattle.field_units.specs.declared.rules.UpdateRule.TheVariants as update
use Rattle.field_units.specs.Field.{Field, RegionData, is_lock}
use Rattle.handler_script.specs.declared.op.Op.{Op}
use Rattle.handler_script.specs.declared.op.Op.TheVariants as op
use Rattle.machine_desc.specs.declared.machine.ControllerDesc.{ControllerDesc}
use Rattle.machine_desc.specs.declared.machine.ListedEvent.{ListedEvent}
use Rattle.machine_desc.specs.declared.machine.Query.{Query}
use Rattle.machine_desc.specs.declared.parts.ControllerPart.{ControllerPart}
use Rattle.machine_desc.specs.declared.parts.EventPart.{EventPart}
use Rattle.machine_desc.specs.declared.parts.FieldPart.{FieldPart}
use Rattle.machine_desc.specs.declared.parts.MachineParts.{MachineParts}
use Rattle.machine_desc.specs.declared.parts.QueryPart.{QueryPart}
use Rattle.machine_desc.specs.declared.parts.RegionPart.{RegionPart}
use Rattle.machine_desc.specs.Given.{HasCode, HasLevel, IsVersion}
use Rattle.machine_desc.specs.Kept.{KeepsGlk}
use Rattle.machine_desc.specs.Machine.{MachineData}
use Rattle.machine_reader.specs.declared.names.ListedName.{ListedName}
use Rattle.machine_reader.specs.declared.names.QueryCode.{QueryCode}
use Rattle.machine_reader.specs.declared.parts.Blocks.{Blocks}
use Rattle.machine_reader.specs.declared.parts.Version.{Version}
use Rattle.machine_reader.specs.Canonical.{actor_json, blocks_json, controller_json, description_json, event_json, field_json, kind_name, list_json, listed_json, listed_name, number_json, op_json, pulses_json, query_json, query_name, region_json, script_json, update_name, without_zeros}
use Rattle.machine_reader.specs.Parts.{controller_part, event_part, field_part, parts_of, query_part, region_part}
use Rattle.machine_reader.specs.Ranges.{EventFits, OpFits, RegionFits, FieldFits}
use Rattle.machine_reader.specs.Reading.{Reading, ◌>>=◌, each_from, list_of, under}
use Rattle.machine_reader.proofs.Elements.{then_rest}
use Rattle.machine_reader.specs.Shape.{actor_shape, blocks_shape, byte_shape, code, controller_shape, event, event_shape, field_shape, half_shape, kind_shape, listed_event_shape, listed_shape, number_up_to, op_shape, query_code_shape, query_shape, region_shape, script_shape, shape, truth_shape, update_shape, version_shape, word_shape}

-- ---- lists

-- one more element
pub All-more : {A : Type 0} (P : A → Type 0) (xs : List A) (i : ℕ) (x : A) → i < length xs → x ≡ get_or xs i x → All P (take i xs) → P x → All P (take (i + 1) xs)
All-more P xs i x within is front one =
    let more : take (i + 1) xs ≡ take i xs ++ x ∷ [] = take_more xs i x within ∙ ap (λ y. take i xs ++ y ∷ []) (sym is) in
    subst (All P) (sym more) (All-push P (take i xs) x front one)

each-json : {A B : Type 0} (P : B → Type 0) (part : Data → Reading A) (json : B → Data) (back : B → A) → ((x : B) → P x → part (json x) ≡ Ok (back x)) → (k : ℕ) (xs : List B) → All P xs → each_from k part (items_of (map json xs)) ≡ Ok (map back xs)
each-json P part json back one k [] h = refl
each-json P part json back one k (x ∷ xs) h =
    let first = ap (under (decimal k)) (one x (All-head P x xs h)) in
    let rest = each-json P part json back one (k + 1) xs (All-tail P x xs h) in
    λ i. then_rest (first i) (rest i)

pub map-same : {A : Type 0} (xs : List A) → map (λ x. x) xs ≡ xs
map-same [] = refl
map-same (x ∷ xs) = ap (λ ys. x ∷ ys) (map-same xs)

list-json : {A B : Type 0} (P : B → Type 0) (part : Data → Reading A) (json : B → Data) (back : B → A) → ((x : B) → P x → part (json x) ≡ Ok (back x)) → (xs : List B) → All P xs → list_of part (list_json (map json xs)) ≡ Ok (map back xs)
list-json P part json back one xs h = each-json P part json back one 0 xs h

same-list : {A : Type 0} (P : A → Type 0) (part : Data → Reading A) (json : A → Data) → ((x : A) → P x → part (json x) ≡ Ok x) → (xs : List A) → All P xs → list_of part (list_json (map json xs)) ≡ Ok xs
same-list P part json one xs h = list-json P part json (λ x. x) one xs h ∙ ap Ok (map-same xs)

-- ---- numbers

up_to : (max n : ℕ) → n ≤ max → number_up_to max (number_json n) ≡ Some n
up_to max n h = grind (arith, rules)

byte-json : (n : ℕ) → n ≤ 255 → byte_shape (number_json n) ≡ Ok n
byte-json n h = rw (up_to 255 n h) refl

half-json : (n : ℕ) → n ≤ 65535 → half_shape (number_json n) ≡ Ok n
half-json n h = rw (up_to 65535 n h) refl

word-json : (n : ℕ) → n ≤ 4294967295 → word_shape (number_json n) ≡ Ok n
word-json n h = rw (up_to 4294967295 n h) refl

truth-json : (b : Bool) → truth_shape (boolean b) ≡ Ok b
truth-json b = refl

version-json : (n : ℕ) → IsVersion n → version_shape (number_json n) ≡ Ok (record { number = n })
version-json n (inl one) = subst (λ k. version_shape (number_json k) ≡ Ok (record { number = k })) (sym one) refl
version-json n (inr two) = subst (λ k. version_shape (number_json k) ≡ Ok (record { number = k })) (sym two) refl

code-json : (q : ℕ) → 0 < q → q ≤ 255 → code (number_json q) ≡ Some q
code-json q some h = rw (up_to 255 q h) (grind (arith, rules))

-- ---- names

kind-json : (k : RegionKind) → kind_shape (string (kind_name k)) ≡ Ok k
kind-json kind.Memory = refl
kind-json kind.Controller = refl

update-json : (u : UpdateRule) → update_shape (string (update_name u)) ≡ Ok u
update-json update.Preserve = refl
update-json update.WriteAsOnes = refl
update-json update.WriteAsZeros = refl

not_b : (d : ℕ) → d < 16 → (digit d == 98) ≡ false
not_b d h = grind (arith, rules)

event-json : (e : Event) → EventFits e → event (event_json e) ≡ Some e
event-json (event.Fixed fixed.Tmr) h = refl
event-json (event.Fixed fixed.Gbl) h = refl
event-json (event.Fixed fixed.Pwr) h = refl
event-json (event.Fixed fixed.Slp) h = refl
event-json (event.Fixed fixed.Rtc) h = refl
event-json (event.Gpe n) h =
    let high : n / 16 < 16 = omega arith in
    rw (not_b (n / 16) high, byte_on n (omega arith)) refl

event-shape : (e : Event) → EventFits e → event_shape (event_json e) ≡ Ok e
event-shape e h = rw (event-json e h) refl

level-json : (n : ℕ) → n ≤ 255 → name_in (spelling (name.Level n)) ≡ Some (name.Level n)
level-json n h = (spells (spelling (name.Level n)) (name.Level n)).1 (omega arith, refl)

edge-json : (n : ℕ) → n ≤ 255 → name_in (spelling (name.Edge n)) ≡ Some (name.Edge n)
edge-json n h = (spells (spelling (name.Edge n)) (name.Edge n)).1 (omega arith, refl)

listed-json : (e : Event) (level : Bool) → EventFits e → is_gbl e ≡ false → HasLevel e level → listed_shape (string (listed_name e level)) ≡ Ok (record { event = e; level = level })
listed-json (event.Fixed fixed.Tmr) level fits lock edge = ap (λ b. Ok (record { event = event.Fixed fixed.Tmr; level = b })) (sym edge)
listed-json (event.Fixed fixed.Gbl) level fits lock edge = cc
listed-json (event.Fixed fixed.Pwr) level fits lock edge = ap (λ b. Ok (record { event = event.Fixed fixed.Pwr; level = b })) (sym edge)
listed-json (event.Fixed fixed.Slp) level fits lock edge = ap (λ b. Ok (record { event = event.Fixed fixed.Slp; level = b })) (sym edge)
listed-json (event.Fixed fixed.Rtc) level fits lock edge = ap (λ b. Ok (record { event = event.Fixed fixed.Rtc; level = b })) (sym edge)
listed-json (event.Gpe n) true fits lock edge = rw (level-json n fits) refl
listed-json (event.Gpe n) false fits lock edge = rw (edge-json n fits) refl

query-code-json : (q : ℕ) → 0 < q → q ≤ 255 → query_code_shape (string (query_name q)) ≡ Ok (record { code = q })
query-code-json q some h =
    let named : name_in (spelling (name.Query q)) ≡ Some (name.Query q) = (spells (spelling (name.Query q)) (name.Query q)).1 ((some, omega arith), refl) in
    rw named refl

-- an actor whose number is one digit that the machine may have
abbrev pub IsNamed : Actor → Type 0
IsNamed actor.Int = Unit {0}
IsNamed actor.Poll = Unit {0}
IsNamed actor.Ec = Unit {0}
IsNamed (actor.Worker k) = k < 4
IsNamed (actor.Device k) = k < 8
IsNamed (actor.Firmware k) = k < 8

actor-json : (a : Actor) → IsNamed a → actor_shape (actor_json a) ≡ Ok a
actor-json actor.Int h = refl
actor-json actor.Poll h = refl
actor-json actor.Ec h = refl
actor-json (actor.Worker k) h = rw (decimal_digit k (omega arith)) (grind (arith, rules))
actor-json (actor.Device k) h = rw (decimal_digit k (omega arith)) (grind (arith, rules))
actor-json (actor.Firmware k) h = rw (decimal_digit k (omega arith)) (grind (arith, rules))

-- ---- operations

op-json : (o : Op) → OpFits o × HasCode o → op_shape (op_json o) ≡ Ok o
op-json (op.Read f) h = rw (up_to 65535 f h.0) refl
op-json (op.Write f v) h = rw (up_to 65535 f h.0.0) refl
op-json (op.Add f v) h = rw (up_to 65535 f h.0.0) refl
op-json (op.Skip v k) h = rw (up_to 65535 k h.0.1) refl
op-json op.Hold h = refl
op-json op.Free h = refl
op-json (op.Notify d v) h = rw (up_to 255 d h.0.0, up_to 255 v h.0.1) refl
op-json (op.Drop e) h = rw (event-json e h.0) refl
op-json (op.Up e) h = rw (event-json e h.0) refl
op-json (op.Down e) h = rw (event-json e h.0) refl
op-json (op.Raise e) h = rw (event-json e h.0) refl
op-json (op.Assert e) h = rw (event-json e h.0) refl
op-json (op.Push q) h = rw (code-json q h.1 h.0) refl

abbrev pub IsOp : Op → Type 0
IsOp o = OpFits o × HasCode o

script-json : (ops : List Op) → All IsOp ops → script_shape (script_json ops) ≡ Ok ops
script-json ops h = same-list IsOp op_shape op_json op-json ops h

-- ---- the parts

-- a value of the form that it is written in, read member by member
abbrev region_read : Reading RegionKind → Reading ℕ → Reading (List ℕ) → Reading RegionPart
region_read kind len bytes = kind >>= λ k. len >>= λ n. bytes >>= λ xs. Ok (record { kind = k; len = n; bytes = xs })

-- the bytes that stay are bytes
pub stay : (P : ℕ → Type 0) (xs : List ℕ) → All P xs → All P (without_zeros xs)
stay P [] h = h
stay P (x ∷ xs) h = kept ((x == 0) && (length (without_zeros xs) == 0)) (stay P xs (All-tail P x xs h))
  where
    kept : (b : Bool) → All P (without_zeros xs) → All P (if b then [] else x ∷ without_zeros xs)
    kept true front = λ k d less. absurd (omega (arith, less))
    kept false front = All-cons P x (without_zeros xs) (All-head P x xs h) front

region-json : (r : RegionData) → RegionFits r × (length r.cells ≤ 65535) → region_shape (region_json r) ≡ Ok (region_part r)
region-json r h =
    let e1 = ap (under (codes "kind")) (kind-json r.kind) in
    let e2 = ap (under (codes "len")) (half-json (length r.cells) h.1) in
    let e3 = ap (under (codes "bytes")) (same-list (λ n. n ≤ 255) byte_shape number_json byte-json (without_zeros r.cells) (stay (λ n. n ≤ 255) r.cells h.0)) in
    λ i. region_read (e1 i) (e2 i) (e3 i)

abbrev field_read : Reading ℕ → Reading ℕ → Reading ℕ → Reading Bool → Reading UpdateRule → Reading FieldPart
field_read region bit width lock update = region >>= λ r. bit >>= λ b. width >>= λ w. lock >>= λ l. update >>= λ u. Ok (record { region = r; bit = b; width = w; lock = l; update = u })

field-json : (f : Field) → FieldFits f → field_shape (field_json f) ≡ Ok (field_part f)
field-json f h =
    let e1 = ap (under (codes "region")) (byte-json f.region h.region) in
    let e2 = ap (under (codes "bit")) (word-json f.bit h.bit) in
    let e3 = ap (under (codes "width")) (byte-json f.width h.width) in
    let e4 = ap (under (codes "lock")) (truth-json (is_lock f.lock)) in
    let e5 = ap (under (codes "update")) (update-json f.update) in
    λ i. field_read (e1 i) (e2 i) (e3 i) (e4 i) (e5 i)

-- a listed event as a description may have it
pub record IsListedText (e : ListedEvent) : Type 0 where
  pub fits : EventFits e.listed.event
  pub lock : is_gbl e.listed.event ≡ false
  pub level : HasLevel e.listed.event e.listed.level
  pub refs : e.listed.refs ≤ 65535
  pub script : All IsOp e.script

abbrev event_read : Reading ListedName → Reading ℕ → Reading (List Op) → Reading EventPart
event_read name refs script = name >>= λ n. refs >>= λ r. script >>= λ s. Ok (record { event = n.event; level = n.level; refs = r; script = s })

event-part-json : (e : ListedEvent) → IsListedText e → listed_event_shape (listed_json e) ≡ Ok (event_part e)
event-part-json e h =
    let e1 = ap (under (codes "name")) (listed-json e.listed.event e.listed.level h.fits h.lock h.level) in
    let e2 = ap (under (codes "refs")) (half-json e.listed.refs h.refs) in
    let e3 = ap (under (codes "script")) (script-json e.script h.script) in
    λ i. event_read (e1 i) (e2 i) (e3 i)

pub record IsQueryText (q : Query) : Type 0 where
  pub some : 0 < q.code
  pub code : q.code ≤ 255
  pub script : All IsOp q.script

abbrev query_read : Reading QueryCode → Reading (List Op) → Reading QueryPart
query_read name script = name >>= λ n. script >>= λ s. Ok (record { code = n.code; script = s })

query-part-json : (q : Query) → IsQueryText q → query_shape (query_json q) ≡ Ok (query_part q)
query-part-json q h =
    let e1 = ap (under (codes "name")) (query-code-json q.code h.some h.code) in
    let e2 = ap (under (codes "script")) (script-json q.script h.script) in
    λ i. query_read (e1 i) (e2 i)

pub record IsControllerText (c : ControllerDesc) : Type 0 where
  pub event : EventFits c.event
  pub queries : All IsQueryText c.queries

abbrev pub IsSomeControllerText : Option ControllerDesc → Type 0
IsSomeControllerText None = Unit {0}
IsSomeControllerText (Some c) = IsControllerText c

-- a controller that needs the lock, with another word on that
abbrev with_glk : ControllerDesc → Bool → Reading (Option ControllerPart)
with_glk c glk = Ok (Some (record (controller_part c) { glk = glk }))

abbrev controller_one_read : Reading Event → Reading Bool → Reading Bool → Reading (List QueryPart) → Reading (Option ControllerPart)
controller_one_read event silent fickle queries =
    (event >>= λ e. silent >>= λ s. fickle >>= λ f. queries >>= λ q. Ok (record { event = e; silent = s; fickle = f; glk = true; queries = q })) >>= λ c. Ok (Some c)

in_version_one : (c : Option ControllerDesc) → KeepsGlk 1 c → IsSomeControllerText c → controller_shape 1 (controller_json 1 c) ≡ Ok (option_map controller_part c)
in_version_one None needs h = refl
in_version_one (Some c) needs h =
    let e1 = ap (under (codes "event")) (event-shape c.event h.event) in
    let e2 = ap (under (codes "silent")) (truth-json c.silent) in
    let e3 = ap (under (codes "fickle")) (truth-json c.fickle) in
    let e4 = ap (under (codes "queries")) (list-json IsQueryText query_shape query_json query_part query-part-json c.queries h.queries) in
    let with_lock : controller_shape 1 (controller_json 1 (Some c)) ≡ with_glk c true = λ i. controller_one_read (e1 i) (e2 i) (e3 i) (e4 i) in
    with_lock ∙ ap (with_glk c) (sym (needs refl))

abbrev controller_two_read : Reading Event → Reading Bool → Reading Bool → Reading Bool → Reading (List QueryPart) → Reading (Option ControllerPart)
controller_two_read event silent fickle glk queries =
    (event >>= λ e. silent >>= λ s. fickle >>= λ f. glk >>= λ g. queries >>= λ q. Ok (record { event = e; silent = s; fickle = f; glk = g; queries = q })) >>= λ c. Ok (Some c)

in_version_two : (c : Option ControllerDesc) → IsSomeControllerText c → controller_shape 2 (controller_json 2 c) ≡ Ok (option_map controller_part c)
in_version_two None h = refl
in_version_two (Some c) h =
    let e1 = ap (under (codes "event")) (event-shape c.event h.event) in
    let e2 = ap (under (codes "silent")) (truth-json c.silent) in
    let e3 = ap (under (codes "fickle")) (truth-json c.fickle) in
    let e4 = ap (under (codes "glk")) (truth-json c.glk) in
    let e5 = ap (under (codes "queries")) (list-json IsQueryText query_shape query_json query_part query-part-json c.queries h.queries) in
    λ i. controller_two_read (e1 i) (e2 i) (e3 i) (e4 i) (e5 i)

-- a controller in a description of this version is read as its part
abbrev ReadsController : Option ControllerDesc → ℕ → Type 0
ReadsController c version = controller_shape version (controller_json version c) ≡ Ok (option_map controller_part c)

controller-part-json : (version : ℕ) (c : Option ControllerDesc) → IsVersion version → KeepsGlk version c → IsSomeControllerText c → ReadsController c version
controller-part-json version c (inl one) needs h = subst (ReadsController c) (sym one) (in_version_one c (subst (λ v. KeepsGlk v c) one needs) h)
controller-part-json version c (inr two) needs h = subst (ReadsController c) (sym two) (in_version_two c h)

abbrev blocks_read : Reading ℕ → Reading ℕ → Reading ℕ → Reading Blocks
blocks_read gpe0 base1 gpe1 = gpe0 >>= λ a. base1 >>= λ b. gpe1 >>= λ c. Ok (record { gpe0 = a; base1 = b; gpe1 = c })

blocks-json : (gpe0 base1 gpe1 : ℕ) → gpe0 ≤ 65535 → base1 ≤ 65535 → gpe1 ≤ 65535 → blocks_shape (blocks_json gpe0 base1 gpe1) ≡ Ok (record { gpe0 = gpe0; base1 = base1; gpe1 = gpe1 })
blocks-json gpe0 base1 gpe1 h0 h1 h2 =
    let e1 = ap (under (codes "gpe0")) (half-json gpe0 h0) in
    let e2 = ap (under (codes "base1")) (half-json base1 h1) in
    let e3 = ap (under (codes "gpe1")) (half-json gpe1 h2) in
    λ i. blocks_read (e1 i) (e2 i) (e3 i)

-- a machine whose text is read back
pub record IsText (m : MachineData) : Type 0 where
  pub version : IsVersion m.version
  pub glk : KeepsGlk m.version m.controller
  pub gpe0 : m.gpe0 ≤ 65535
  pub base1 : m.base1 ≤ 65535
  pub gpe1 : m.gpe1 ≤ 65535
  pub workers : m.workers ≤ 255
  pub regions : All (λ r. RegionFits r × (length r.cells ≤ 65535)) m.regions
  pub fields : All FieldFits m.fields
  pub events : All IsListedText m.events
  pub controller : IsSomeControllerText m.controller
  pub firmware : All (All IsOp) m.firmware
  pub devices : All (All EventFits) m.devices
  pub schedule : All IsNamed m.schedule

abbrev description_read : Reading Version → Reading Blocks → Reading ℕ → Reading (List RegionPart) → Reading (List FieldPart) → Reading (List EventPart) → (ℕ → Reading (Option ControllerPart)) → Reading (List (List Op)) → Reading (List (List Event)) → Reading (List Actor) → Reading MachineParts
description_read version gpe workers regions fields events controller firmware devices schedule =
    version >>= λ v. gpe >>= λ g. workers >>= λ w. regions >>= λ r. fields >>= λ f. events >>= λ e. controller v.number >>= λ c. firmware >>= λ fs. devices >>= λ d. schedule >>= λ s.
    Ok (record { version = v.number; gpe0 = g.gpe0; base1 = g.base1; gpe1 = g.gpe1; workers = w; regions = r; fields = f; events = e; controller = c; firmware = fs; devices = d; schedule = s })

pulses-json : (es : List Event) → All EventFits es → list_of event_shape (pulses_json es) ≡ Ok es
pulses-json es h = same-list EventFits event_shape event_json event-shape es h

-- the member of the controller, read by the form of a version; and the parts of a machine with the controller that was read
abbrev controller_member : MachineData → ℕ → Reading (Option ControllerPart)
controller_member m version = under (codes "controller") (controller_shape version (controller_json m.version m.controller))

abbrev with_controller : MachineData → Option ControllerPart → Reading MachineParts
with_controller m c = Ok (record (parts_of m) { controller = c })

pub parts_read : (m : MachineData) → IsText m → shape (description_json m) ≡ Ok (parts_of m)
parts_read m h =
    let e1 = ap (under (codes "version")) (version-json m.version h.version) in
    let e2 = ap (under (codes "gpe")) (blocks-json m.gpe0 m.base1 m.gpe1 h.gpe0 h.base1 h.gpe1) in
    let e3 = ap (under (codes "workers")) (byte-json m.workers h.workers) in
    let e4 = ap (under (codes "regions")) (list-json _ region_shape region_json region_part region-json m.regions h.regions) in
    let e5 = ap (under (codes "fields")) (list-json FieldFits field_shape field_json field_part field-json m.fields h.fields) in
    let e6 = ap (under (codes "events")) (list-json IsListedText listed_event_shape listed_json event_part event-part-json m.events h.events) in
    let e7 = ap (under (codes "controller")) (controller-part-json m.version m.controller h.version h.glk h.controller) in
    let e8 = ap (under (codes "firmware")) (same-list (All IsOp) script_shape script_json script-json m.firmware h.firmware) in
    let e9 = ap (under (codes "devices")) (same-list (All EventFits) (list_of event_shape) pulses_json pulses-json m.devices h.devices) in
    let e10 = ap (under (codes "schedule")) (same-list IsNamed actor_shape actor_json actor-json m.schedule h.schedule) in
    let others : shape (description_json m) ≡ (controller_member m m.version >>= with_controller m) = λ i. description_read (e1 i) (e2 i) (e3 i) (e4 i) (e5 i) (e6 i) (controller_member m) (e8 i) (e9 i) (e10 i) in
    others ∙ ap (λ c. c >>= with_controller m) e7
