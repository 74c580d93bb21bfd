-- What is written for a machine is plain, and does not nest deep.
use Rattle.std.proofs.Common.{◌≡◌, inl, inr, ◌==◌, if◌then◌else◌, ℕ, ◌+◌, ◌/◌, ◌%◌, ◌<◌, ◌≤◌, ◌^◌, max, Bool, true, false, All, List, [], ◌∷◌, map, length, Option, Some, None, decimal, IsUtf8, lt-ltb, refl, rules, arith}
use Rattle.std.proofs.lemmas.Fmt.{IsAscii-decimal}
use Rattle.std.proofs.lemmas.List.Elements.{All-head, All-tail}
use Rattle.std.proofs.lemmas.Str.{IsUtf8-append, IsUtf8-from_ascii}
use Rattle.json.proofs.Printed.Utf8.{are_ascii, IsUtf8-are_ascii}
use Rattle.serde_json.specs.Data.{Data, depth, items_depth}
use Rattle.serde_json.specs.Read.{max_depth}
use Rattle.serde_json.specs.View.{items_of}
use Rattle.acpi_regs.specs.declared.actor.Actor.{Actor}
use Rattle.acpi_regs.specs.declared.actor.Actor.TheVariants as actor
use Rattle.acpi_regs.specs.declared.event.Event.{Event}
use Rattle.acpi_regs.specs.declared.event.Event.TheVariants as event
use Rattle.acpi_regs.specs.declared.event.Fixed.{Fixed}
use Rattle.acpi_regs.specs.declared.event.Fixed.TheVariants as fixed
use Rattle.acpi_regs.specs.Names.{digit, spelled}
use Rattle.field_units.specs.declared.rules.RegionKind.{RegionKind}
use Rattle.field_units.specs.declared.rules.RegionKind.TheVariants as kind
use Rattle.field_units.specs.declared.rules.UpdateRule.{UpdateRule}
use Rattle.field_units.specs.declared.rules.UpdateRule.TheVariants as update
use Rattle.field_units.specs.Field.{Field, RegionData}
use Rattle.handler_script.specs.declared.op.Op.{Op}
use Rattle.handler_script.specs.declared.op.Op.TheVariants as op
use Rattle.machine_desc.specs.declared.machine.ControllerDesc.{ControllerDesc}
use Rattle.machine_desc.specs.declared.machine.ListedEvent.{ListedEvent}
use Rattle.machine_desc.specs.declared.machine.Query.{Query}
use Rattle.machine_desc.specs.Given.{IsVersion}
use Rattle.machine_desc.specs.Machine.{MachineData}
use Rattle.machine_reader.specs.Canonical.{actor_json, actor_name, blocks_json, controller_json, controller_one_json, controller_two_json, description_json, event_json, event_name, field_json, fixed_name, kind_name, list_json, listed_json, listed_name, number_json, op_json, pulses_json, query_json, region_json, script_json, update_name, without_zeros}
use Rattle.machine_reader.specs.Ranges.{EventFits, RegionFits, FieldFits}
use Rattle.machine_reader.proofs.Outlines.{IsPlain}
use Rattle.machine_reader.proofs.ReadBack.{IsListedText, IsNamed, IsOp, IsQueryText, IsSomeControllerText, IsText, stay}

-- ---- names are ASCII

ascii : (xs : List ℕ) → are_ascii xs ≡ true → IsUtf8 xs
ascii xs e = IsUtf8-are_ascii xs e

small_digit : (n : ℕ) → n < 16 → digit n < 128
small_digit n h = grind (arith, rules)

one_byte : (x : ℕ) → x < 128 → are_ascii (x ∷ []) ≡ true
one_byte x h = rw (lt-ltb x 128 h) refl

then_byte : (x : ℕ) (xs : List ℕ) → x < 128 → IsUtf8 xs → IsUtf8 (x ∷ xs)
then_byte x xs h rest = IsUtf8-append (x ∷ []) xs (ascii (x ∷ []) (one_byte x h)) rest

two_digits : (n : ℕ) → n ≤ 255 → IsUtf8 (digit (n / 16) ∷ digit (n % 16) ∷ [])
two_digits n h = then_byte (digit (n / 16)) (digit (n % 16) ∷ []) (small_digit (n / 16) (omega arith)) (then_byte (digit (n % 16)) [] (small_digit (n % 16) (omega arith)) (ascii [] refl))

spelled_utf8 : (letter n : ℕ) → letter < 128 → n ≤ 255 → IsUtf8 (spelled letter n)
spelled_utf8 letter n small h = then_byte 95 _ (omega arith) (then_byte letter _ small (two_digits n h))

fixed_utf8 : (f : Fixed) → IsUtf8 (fixed_name f)
fixed_utf8 fixed.Tmr = ascii _ refl
fixed_utf8 fixed.Gbl = ascii _ refl
fixed_utf8 fixed.Pwr = ascii _ refl
fixed_utf8 fixed.Slp = ascii _ refl
fixed_utf8 fixed.Rtc = ascii _ refl

event_utf8 : (e : Event) → EventFits e → IsUtf8 (event_name e)
event_utf8 (event.Fixed f) h = fixed_utf8 f
event_utf8 (event.Gpe n) h = then_byte 103 _ (omega arith) (two_digits n h)

listed_utf8 : (e : Event) (level : Bool) → EventFits e → IsUtf8 (listed_name e level)
listed_utf8 (event.Fixed f) level h = fixed_utf8 f
listed_utf8 (event.Gpe n) true h = spelled_utf8 76 n (omega arith) h
listed_utf8 (event.Gpe n) false h = spelled_utf8 69 n (omega arith) h

actor_utf8 : (a : Actor) → IsNamed a → IsUtf8 (actor_name a)
actor_utf8 actor.Int h = ascii _ refl
actor_utf8 actor.Poll h = ascii _ refl
actor_utf8 actor.Ec h = ascii _ refl
actor_utf8 (actor.Worker k) h = then_byte 119 _ (omega arith) (IsUtf8-from_ascii (decimal k) (IsAscii-decimal k (omega arith)))
actor_utf8 (actor.Device k) h = then_byte 100 _ (omega arith) (IsUtf8-from_ascii (decimal k) (IsAscii-decimal k (omega arith)))
actor_utf8 (actor.Firmware k) h = then_byte 102 _ (omega arith) (IsUtf8-from_ascii (decimal k) (IsAscii-decimal k (omega arith)))

kind_utf8 : (k : RegionKind) → IsUtf8 (kind_name k)
kind_utf8 kind.Memory = ascii _ refl
kind_utf8 kind.Controller = ascii _ refl

update_utf8 : (u : UpdateRule) → IsUtf8 (update_name u)
update_utf8 update.Preserve = ascii _ refl
update_utf8 update.WriteAsOnes = ascii _ refl
update_utf8 update.WriteAsZeros = ascii _ refl

-- ---- each value is plain

plain-list : {A : Type 0} (P : A → Type 0) (json : A → Data) → ((x : A) → P x → IsPlain (json x)) → (xs : List A) → All P xs → IsPlain (list_json (map json xs))
plain-list P json one [] h = tt
plain-list P json one (x ∷ xs) h = (one x (All-head P x xs h), plain-list P json one xs (All-tail P x xs h))

byte_plain : (n : ℕ) → n ≤ 255 → IsPlain (number_json n)
byte_plain n h = omega arith

half_plain : (n : ℕ) → n ≤ 65535 → IsPlain (number_json n)
half_plain n h = omega arith

op_plain : (o : Op) → IsOp o → IsPlain (op_json o)
op_plain (op.Read f) h = (ascii _ refl, (half_plain f h.0, tt))
op_plain (op.Write f v) h = (ascii _ refl, (half_plain f h.0.0, (h.0.1, tt)))
op_plain (op.Add f v) h = (ascii _ refl, (half_plain f h.0.0, (h.0.1, tt)))
op_plain (op.Skip v k) h = (ascii _ refl, (h.0.0, (half_plain k h.0.1, tt)))
op_plain op.Hold h = (ascii _ refl, tt)
op_plain op.Free h = (ascii _ refl, tt)
op_plain (op.Notify d v) h = (ascii _ refl, (byte_plain d h.0.0, (byte_plain v h.0.1, tt)))
op_plain (op.Drop e) h = (ascii _ refl, (event_utf8 e h.0, tt))
op_plain (op.Up e) h = (ascii _ refl, (event_utf8 e h.0, tt))
op_plain (op.Down e) h = (ascii _ refl, (event_utf8 e h.0, tt))
op_plain (op.Raise e) h = (ascii _ refl, (event_utf8 e h.0, tt))
op_plain (op.Assert e) h = (ascii _ refl, (event_utf8 e h.0, tt))
op_plain (op.Push q) h = (ascii _ refl, (byte_plain q h.0, tt))

script_plain : (ops : List Op) → All IsOp ops → IsPlain (script_json ops)
script_plain ops h = plain-list IsOp op_json op_plain ops h

region_plain : (r : RegionData) → RegionFits r × (length r.cells ≤ 65535) → IsPlain (region_json r)
region_plain r h = (refl, (ascii _ refl, (plain-list (λ n. n ≤ 255) number_json byte_plain (without_zeros r.cells) (stay (λ n. n ≤ 255) r.cells h.0), (ascii _ refl, (kind_utf8 r.kind, (ascii _ refl, (half_plain (length r.cells) h.1, tt)))))))

field_plain : (f : Field) → FieldFits f → IsPlain (field_json f)
field_plain f h =
    let bit : f.bit < 2 ^ 64 = omega (arith, h.bit) in
    (refl, (ascii _ refl, (bit, (ascii _ refl, (tt, (ascii _ refl, (byte_plain f.region h.region, (ascii _ refl, (update_utf8 f.update, (ascii _ refl, (byte_plain f.width h.width, tt)))))))))))

listed_plain : (e : ListedEvent) → IsListedText e → IsPlain (listed_json e)
listed_plain e h = (refl, (ascii _ refl, (listed_utf8 e.listed.event e.listed.level h.fits, (ascii _ refl, (half_plain e.listed.refs h.refs, (ascii _ refl, (script_plain e.script h.script, tt)))))))

query_plain : (q : Query) → IsQueryText q → IsPlain (query_json q)
query_plain q h = (refl, (ascii _ refl, (spelled_utf8 81 q.code (omega arith) h.code, (ascii _ refl, (script_plain q.script h.script, tt)))))

controller_plain : (version : ℕ) (c : Option ControllerDesc) → IsSomeControllerText c → IsPlain (controller_json version c)
controller_plain version None h = tt
controller_plain version (Some c) h = by_version (version == 1)
  where
    by_version : (one : Bool) → IsPlain (if one then controller_one_json c else controller_two_json c)
    by_version true = (refl, (ascii _ refl, (event_utf8 c.event h.event, (ascii _ refl, (tt, (ascii _ refl, (plain-list IsQueryText query_json query_plain c.queries h.queries, (ascii _ refl, (tt, tt)))))))))
    by_version false = (refl, (ascii _ refl, (event_utf8 c.event h.event, (ascii _ refl, (tt, (ascii _ refl, (tt, (ascii _ refl, (plain-list IsQueryText query_json query_plain c.queries h.queries, (ascii _ refl, (tt, tt)))))))))))

blocks_plain : (gpe0 base1 gpe1 : ℕ) → gpe0 ≤ 65535 → base1 ≤ 65535 → gpe1 ≤ 65535 → IsPlain (blocks_json gpe0 base1 gpe1)
blocks_plain gpe0 base1 gpe1 h0 h1 h2 = (refl, (ascii _ refl, (half_plain base1 h1, (ascii _ refl, (half_plain gpe0 h0, (ascii _ refl, (half_plain gpe1 h2, tt)))))))

pulses_plain : (es : List Event) → All EventFits es → IsPlain (pulses_json es)
pulses_plain es h = plain-list EventFits event_json event_utf8 es h

small_version : (n : ℕ) → IsVersion n → n < 2 ^ 64
small_version n (inl one) = omega (arith, one)
small_version n (inr two) = omega (arith, two)

pub plain : (m : MachineData) → IsText m → IsPlain (description_json m)
plain m h =
    let version : m.version < 2 ^ 64 = small_version m.version h.version in (
      refl,
      (
        ascii _ refl,
        (
          controller_plain m.version m.controller h.controller,
          (
            ascii _ refl,
            (
              plain-list (All EventFits) pulses_json pulses_plain m.devices h.devices,
              (
                ascii _ refl,
                (
                  plain-list IsListedText listed_json listed_plain m.events h.events,
                  (
                    ascii _ refl,
                    (
                      plain-list FieldFits field_json field_plain m.fields h.fields,
                      (
                        ascii _ refl,
                        (
                          plain-list (All IsOp) script_json script_plain m.firmware h.firmware,
                          (
                            ascii _ refl,
                            (
                              blocks_plain m.gpe0 m.base1 m.gpe1 h.gpe0 h.base1 h.gpe1,
                              (
                                ascii _ refl,
                                (
                                  plain-list _ region_json region_plain m.regions h.regions,
                                  (
                                    ascii _ refl,
                                    (
                                      plain-list IsNamed actor_json actor_utf8 m.schedule h.schedule,
                                      (
                                        ascii _ refl,
                                        (
                                          version,
                                          (ascii _ refl, (byte_plain m.workers h.workers, tt)),
                                        ),
                                      ),
                                    ),
                                  ),
                                ),
                              ),
                            ),
                          ),
                        ),
                      ),
                    ),
                  ),
                ),
              ),
            ),
          ),
        ),
      ),
    )

-- ---- how deep it nests

max_le : (a b k : ℕ) → a ≤ k → b ≤ k → max a b ≤ k
max_le a b k h1 h2 = omega arith

deep-items : {A : Type 0} (k : ℕ) (json : A → Data) → ((x : A) → depth (json x) ≤ k) → (xs : List A) → items_depth (items_of (map json xs)) ≤ k
deep-items k json one [] = omega arith
deep-items k json one (x ∷ xs) = max_le _ _ k (one x) (deep-items k json one xs)

deep-list : {A : Type 0} (k : ℕ) (json : A → Data) → ((x : A) → depth (json x) ≤ k) → (xs : List A) → depth (list_json (map json xs)) ≤ k + 1
deep-list k json one xs = omega (arith, deep-items k json one xs)

op_deep : (o : Op) → depth (op_json o) ≤ 1
op_deep (op.Read f) = omega arith
op_deep (op.Write f v) = omega arith
op_deep (op.Add f v) = omega arith
op_deep (op.Skip v k) = omega arith
op_deep op.Hold = omega arith
op_deep op.Free = omega arith
op_deep (op.Notify d v) = omega arith
op_deep (op.Drop e) = omega arith
op_deep (op.Up e) = omega arith
op_deep (op.Down e) = omega arith
op_deep (op.Raise e) = omega arith
op_deep (op.Assert e) = omega arith
op_deep (op.Push q) = omega arith

script_deep : (ops : List Op) → depth (script_json ops) ≤ 2
script_deep ops = deep-list 1 op_json op_deep ops

region_deep : (r : RegionData) → depth (region_json r) ≤ 2
region_deep r = let bytes = deep-list 0 number_json (λ n. omega arith) (without_zeros r.cells) in omega (arith, bytes)

field_deep : (f : Field) → depth (field_json f) ≤ 1
field_deep f = omega arith

listed_deep : (e : ListedEvent) → depth (listed_json e) ≤ 3
listed_deep e = let script = script_deep e.script in omega (arith, script)

query_deep : (q : Query) → depth (query_json q) ≤ 3
query_deep q = let script = script_deep q.script in omega (arith, script)

controller_deep : (version : ℕ) (c : Option ControllerDesc) → depth (controller_json version c) ≤ 5
controller_deep version None = omega arith
controller_deep version (Some c) = by_version (version == 1)
  where
    by_version : (one : Bool) → depth (if one then controller_one_json c else controller_two_json c) ≤ 5
    by_version true = let queries = deep-list 3 query_json query_deep c.queries in omega (arith, queries)
    by_version false = let queries = deep-list 3 query_json query_deep c.queries in omega (arith, queries)

pulses_deep : (es : List Event) → depth (pulses_json es) ≤ 1
pulses_deep es = deep-list 0 event_json (λ e. omega arith) es

pub shallow : (m : MachineData) → depth (description_json m) ≤ max_depth
shallow m =
    let controller = controller_deep m.version m.controller in
    let devices = deep-list 1 pulses_json pulses_deep m.devices in
    let events = deep-list 3 listed_json listed_deep m.events in
    let fields = deep-list 1 field_json field_deep m.fields in
    let firmware = deep-list 2 script_json script_deep m.firmware in
    let regions = deep-list 2 region_json region_deep m.regions in
    let schedule = deep-list 0 actor_json (λ a. omega arith) m.schedule in
    omega (arith, controller, devices, events, fields, firmware, regions, schedule)
