-- The parts of a machine that is made break no rule.
use Rattle.std.proofs.Common.{◌≡◌, ℕ, suc, ◌+◌, ◌*◌, ◌<◌, ◌≤◌, Bool, true, false, not, List, [], ◌∷◌, length, map, Option, Some, None, refl, ap, ◌∙◌, if◌then◌else◌, cond, arith}
use Rattle.std.proofs.lemmas.Bool.{le-ltb, lt-ltb}
use Rattle.std.specs.List.{position, position_or_len}
use Rattle.std.specs.Option.{option_map}
use Rattle.acpi_regs.specs.declared.actor.Side.TheVariants as side
use Rattle.acpi_regs.specs.declared.event.Event.{Event}
use Rattle.acpi_regs.specs.declared.event.Event.TheVariants as event
use Rattle.acpi_regs.specs.declared.event.Listed.{Listed}
use Rattle.acpi_regs.specs.Geometry.{Blocks}
use Rattle.handler_script.specs.declared.fault.ScriptFault.{ScriptFault}
use Rattle.handler_script.specs.declared.fault.ScriptFault.TheVariants as fault
use Rattle.handler_script.specs.declared.op.Op.{Op}
use Rattle.handler_script.specs.declared.op.Op.TheVariants as op
use Rattle.handler_script.specs.Accepts.{faults_from, op_fault, open_after, script_fault}
use Rattle.handler_script.specs.Accepts as accepts
use Rattle.machine_desc.specs.declared.fault.Part.{Part}
use Rattle.machine_desc.specs.declared.fault.Part.TheVariants as part
use Rattle.machine_desc.specs.declared.fault.Rule.TheVariants as rule
use Rattle.machine_desc.specs.declared.fault.Spot.{Spot}
use Rattle.machine_desc.specs.declared.lists.Counts.{Counts}
use Rattle.machine_desc.specs.Faults.{breaks, breaks_at, first_of, in_item, items_from}
use Rattle.machine_desc.specs.Machine.{listed_part}
use Rattle.machine_desc.specs.Rules.{at_pulse, controller_fault, counts, device_rule, devices_fault, events_fault, fields_fault, firmware_fault, firmware_rule, first_fault, forbids, gpe_fault, is_known, machine_rows, queries_fault, regions_fault, rule_of, schedule_fault, script_rule, unknown_pulse, workers_fault}
use Rattle.machine_desc.proofs.EachItem.{AllNone}
use Rattle.machine_maker.specs.Maker.{BreaksNoRule, byte_field, controller, each_of, memory, parts_of, pulses_of, quiet_event, script_of}
use Rattle.machine_maker.proofs.Plain.{each_op, each_pulse, pulses_len, script_len}
use Rattle.machine_maker.proofs.Rows.{Each, tested}

all_none : {A : Type 0} (xs : List (Option A)) → AllNone xs → first_of xs ≡ None
all_none [] h = refl
all_none (x ∷ []) h = h.0
all_none (None ∷ y ∷ rest) h = all_none (y ∷ rest) h.1
all_none (Some x ∷ y ∷ rest) h = let e : Some x ≡ None = h.0 in cc

-- the items of a part, where none has a fault behind any others
items_clean : {A : Type 0} (part : Part) (fault : List A → A → Option Spot) (all : List A) (k : ℕ) (xs : List A) → Each (λ x. (before : List A) → fault before x ≡ None) xs → items_from part fault all k xs ≡ None
items_clean part fault all k [] h = refl
items_clean part fault all k (x ∷ xs) h =
    ap (λ (o : Option Spot). first_of (in_item part k o ∷ items_from part fault all (k + 1) xs ∷ [])) (h.0 _) ∙ items_clean part fault all (k + 1) xs h.1

-- ---- scripts

-- an operation without a fault at every place, which opens no hold
pub record IsClean (forbidden : Op → Bool) (o : Op) : Type 0 where
  pub verdict : (i : ℕ) (rest : List Op) → op_fault forbidden side.Firmware 16 false i o rest ≡ None
  pub closed : (i : ℕ) → open_after i o None ≡ None

ops_clean : (forbidden : Op → Bool) (i : ℕ) (ops : List Op) → Each (IsClean forbidden) ops → faults_from forbidden side.Firmware 16 None i ops ≡ None
ops_clean forbidden i [] h = refl
ops_clean forbidden i (o ∷ ops) h =
    let rest = faults_from forbidden side.Firmware 16 (open_after i o None) (i + 1) ops in
    ap (λ (f : Option ScriptFault). accepts.first_of f rest) (h.0.verdict i ops)
    ∙ ap (λ (hold : Option ℕ). faults_from forbidden side.Firmware 16 hold (i + 1) ops) (h.0.closed i)
    ∙ ops_clean forbidden (i + 1) ops h.1

add_clean : (listed : List Listed) (own : Event) (f : ℕ) → f < 16 → IsClean (forbids listed (Some own)) (op.Add f 1)
unfolding forbids
add_clean listed own f less = record {
  verdict = λ i rest. ap (λ (b : Bool). if b then None else Some (fault.UnknownField i)) (lt-ltb f 16 less);
  closed = λ i. refl;
}

push_clean : (listed : List Listed) (own : Event) (q : ℕ) → 0 < q → IsClean (forbids listed (Some own)) (op.Push q)
unfolding forbids
push_clean listed own q some = record { verdict = λ i rest. refl; closed = λ i. refl }

script_clean : (listed : List Listed) (own : Event) (number size k : ℕ) → size ≤ 64 → script_rule (forbids listed (Some own)) side.Firmware 16 (script_of number size k) ≡ None
unfolding script_fault
script_clean listed own number size k few =
    let forbidden : Op → Bool = forbids listed (Some own) in
    let ops : List Op = script_of number size k in
    let len : length ops ≡ 16 * size = script_len number size k in
    let short : length ops ≤ 4096 = omega arith in
    let clean : faults_from forbidden side.Firmware 16 None 0 ops ≡ None = ops_clean forbidden 0 ops (each_op (IsClean forbidden) (add_clean listed own) (push_clean listed own) number size k) in
    ap (λ (long : Bool). first_of (breaks_at long rule.LongScript 4096 ∷ option_map rule_of (script_fault forbidden side.Firmware 16 ops) ∷ [])) (le-ltb 4096 (length ops) short)
    ∙ ap (option_map rule_of) clean

firmware_clean : (listed : List Listed) (own : Event) (number size : ℕ) → size ≤ 64 → firmware_fault (forbids listed (Some own)) 16 (each_of 4 (script_of number size)) ≡ None
unfolding firmware_fault each_of
firmware_clean listed own number size few =
    let scripts : List (List Op) = each_of 4 (script_of number size) in
    let at = λ (k : ℕ) (before : List (List Op)). script_clean listed own number size k few in
    items_clean part.Firmware (firmware_rule (forbids listed (Some own)) 16) scripts 0 scripts (at 0, (at 1, (at 2, (at 3, tt))))

-- ---- devices

-- the eight events are known to the machine
known : (n : ℕ) → n < 8 → is_known (map listed_part (each_of 8 quiet_event)) (Some (event.Gpe 110)) (event.Gpe n) ≡ true
unfolding each_of
known n less = tested (λ n. is_known (map listed_part (each_of 8 quiet_event)) (Some (event.Gpe 110)) (event.Gpe n)) 0 8 n n refl less (omega arith)

none_passes : {A : Type 0} (p : A → Bool) (xs : List A) → Each (λ x. p x ≡ false) xs → position_or_len p xs ≡ length xs
none_passes p [] h = refl
none_passes p (x ∷ xs) h =
    let rest : position_or_len p xs ≡ length xs = none_passes p xs h.1 in
    let more : 1 + position_or_len p xs ≡ suc (length xs) = omega arith in
    ap (λ (b : Bool). cond (not b) (1 + position_or_len p xs) 0) h.0 ∙ more

no_place : {A : Type 0} (p : A → Bool) (xs : List A) → Each (λ x. p x ≡ false) xs → position p xs ≡ None
no_place p xs h =
    let all : position_or_len p xs ≡ length xs = none_passes p xs h in
    let most : length xs ≤ position_or_len p xs = omega arith in
    ap (λ (b : Bool). cond b (Some (position_or_len p xs)) None) (le-ltb (position_or_len p xs) (length xs) most)

device_clean : (size k : ℕ) → size ≤ 64 → device_rule (map listed_part (each_of 8 quiet_event)) (Some (event.Gpe 110)) [] (pulses_of size k) ≡ None
device_clean size k few =
    let listed : List Listed = map listed_part (each_of 8 quiet_event) in
    let own : Option Event = Some (event.Gpe 110) in
    let pulses : List Event = pulses_of size k in
    let len : length pulses ≡ 4 * size = pulses_len size k in
    let short : length pulses ≤ 4096 = omega arith in
    let clean : unknown_pulse listed own pulses ≡ None = no_place (λ e. not (is_known listed own e)) pulses (each_pulse (λ e. not (is_known listed own e) ≡ false) (λ n less. ap not (known n less)) size k) in
    ap (λ (long : Bool). first_of (breaks long rule.LongList ∷ option_map at_pulse (unknown_pulse listed own pulses) ∷ [])) (le-ltb 4096 (length pulses) short)
    ∙ ap (option_map at_pulse) clean

devices_clean : (size : ℕ) → size ≤ 64 → devices_fault (map listed_part (each_of 8 quiet_event)) (Some (event.Gpe 110)) (each_of 2 (pulses_of size)) ≡ None
unfolding devices_fault each_of
devices_clean size few =
    let devices : List (List Event) = each_of 2 (pulses_of size) in
    let at = λ (k : ℕ) (before : List (List Event)). device_clean size k few in
    items_clean part.Device (device_rule (map listed_part (each_of 8 quiet_event)) (Some (event.Gpe 110))) devices 0 devices (at 0, (at 1, tt))

-- ---- what does not depend on number and size

abbrev geometry : Blocks
geometry = record { gpe0 = 32; base1 = 0; gpe1 = 0 }

abbrev own : Option Event
own = Some (event.Gpe 110)

gpe_clean : gpe_fault 1 geometry ≡ None
unfolding gpe_fault
gpe_clean = refl

workers_clean : workers_fault 4 ≡ None
unfolding workers_fault
workers_clean = refl

regions_clean : regions_fault true (memory ∷ []) ≡ None
unfolding regions_fault
regions_clean = refl

fields_clean : fields_fault (memory ∷ []) (each_of 16 byte_field) ≡ None
unfolding fields_fault each_of
fields_clean = refl

events_clean : events_fault 1 geometry own 16 (each_of 8 quiet_event) ≡ None
unfolding events_fault each_of script_fault forbids
events_clean = refl

controller_clean : controller_fault geometry own ≡ None
unfolding controller_fault
controller_clean = refl

queries_clean : queries_fault (forbids (map listed_part (each_of 8 quiet_event)) own) 16 controller.queries ≡ None
unfolding queries_fault each_of script_fault forbids
queries_clean = refl

schedule_clean : (n : Counts) → schedule_fault n [] ≡ None
unfolding schedule_fault
schedule_clean n = refl

-- ---- all

pub breaks_no_rule : BreaksNoRule
unfolding first_fault each_of
breaks_no_rule number size few =
    let p = parts_of number size in
    let firmware = firmware_clean (map listed_part (each_of 8 quiet_event)) (event.Gpe 110) number size few in
    let devices = devices_clean size few in
    let clean : AllNone (machine_rows p) = (gpe_clean, (workers_clean, (regions_clean, (fields_clean, (events_clean, (controller_clean, (queries_clean, (firmware, (devices, (schedule_clean (counts p), tt)))))))))) in
    all_none (machine_rows p) clean
