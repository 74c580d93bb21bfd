-- The weight of a machine that is made, by bounds that are far from tight: 16 operations for each step of the size in each of
-- four scripts, 4 pulses for each step in each of two lists, and a size of at most 64.
use Rattle.std.proofs.Common.{◌≡◌, ℕ, ◌+◌, ◌*◌, ◌==◌, ◌<◌, ◌≤◌, Bool, true, false, List, [], ◌∷◌, length, map, refl, sym, ap, subst, if◌then◌else◌, arith}
use Rattle.std.proofs.lemmas.Bool.{eqb-true}
use Rattle.std.proofs.lemmas.List.Sums.{count_by-le-length}
use Rattle.std.proofs.Math.Nat.{mul-le-mul_right}
use Rattle.std.specs.List.{count_by, sum_by}
use Rattle.acpi_regs.specs.declared.event.Event.{Event}
use Rattle.acpi_regs.specs.declared.event.Event.TheVariants as event
use Rattle.acpi_regs.specs.Event.{gbl, same_event}
use Rattle.field_units.specs.Field.{Field}
use Rattle.handler_script.specs.declared.op.Op.{Op}
use Rattle.handler_script.specs.declared.op.Op.TheVariants as op
use Rattle.handler_script.specs.Left.{held_after}
use Rattle.machine_desc.specs.declared.tally.Tally.{Tally}
use Rattle.machine_desc.specs.declared.tally.Tally.TheVariants as tally
use Rattle.machine_desc.specs.Machine.{MachineData, act_fields_of, described, field_of, listed_of, query_of}
use Rattle.machine_desc.specs.Weight.{all_moves, calls_of, counted, event_moves, event_size, events_moves, events_size, firmware_moves, firmware_size, in_devices, in_firmware, in_script, one_if, op_moves, op_size, pushes, queries_asked, queries_moves, queries_size, query_moves, query_size, runs_of, script_moves, script_size, size_from, weight_of}
use Rattle.machine_maker.specs.Maker.{IsLight, byte_field, code_handler, code_script, each_of, made, memory, parts_of, pulses_of, quiet_event, script_of}
use Rattle.machine_maker.proofs.Plain.{each_op, pulses_len, script_len}
use Rattle.machine_maker.proofs.Rows.{Each, mapped_sum, row_sum, sum_few, tested}

-- the fields with the lock rules that acts go by, the scripts and the lists of the machine
abbrev fields : List Field
fields = act_fields_of true (map (field_of (memory ∷ [])) (each_of 16 byte_field))

abbrev firmware : (number size : ℕ) → List (List Op)
firmware number size = each_of 4 (script_of number size)

abbrev devices : ℕ → List (List Event)
devices size = each_of 2 (pulses_of size)

abbrev machine : (number size : ℕ) → MachineData
machine number size = described (parts_of number size)

-- ---- operations

record IsCheap (o : Op) : Type 0 where
  size : op_size fields false o ≤ 10
  held : held_after o false ≡ false
  moves : op_moves fields o ≤ 0
  runs : (e : Event) → counted (tally.Runs e) o ≤ 0
  raises : (e : Event) → counted (tally.Raises e) o ≤ 0
  codes : (q : ℕ) → counted (tally.Code q) o ≤ 1
  pushes : counted tally.Pushes o ≤ 1

add_size : (f : ℕ) → f < 16 → op_size fields false (op.Add f 1) ≡ 10
unfolding op_size each_of act_fields_of
add_size f less = eqb-true (op_size fields false (op.Add f 1)) 10 (tested (λ k. op_size fields false (op.Add k 1) == 10) 0 16 f f refl less (omega arith))

add_moves : (f : ℕ) → f < 16 → op_moves fields (op.Add f 1) ≡ 0
unfolding op_moves each_of act_fields_of
add_moves f less = eqb-true (op_moves fields (op.Add f 1)) 0 (tested (λ k. op_moves fields (op.Add k 1) == 0) 0 16 f f refl less (omega arith))

add_cheap : (f : ℕ) → f < 16 → IsCheap (op.Add f 1)
add_cheap f less =
    let size = add_size f less in
    let moves = add_moves f less in
    record {
      size = omega arith;
      held = refl;
      moves = omega arith;
      runs = λ e. omega arith;
      raises = λ e. omega arith;
      codes = λ q. omega arith;
      pushes = omega arith;
    }

at_most_one : (b : Bool) → one_if b ≤ 1
at_most_one true = omega arith
at_most_one false = omega arith

push_cheap : (q : ℕ) → 0 < q → IsCheap (op.Push q)
unfolding op_size op_moves
push_cheap q some = record {
  size = omega arith;
  held = refl;
  moves = omega arith;
  runs = λ e. omega arith;
  raises = λ e. omega arith;
  codes = λ k. at_most_one (k == q);
  pushes = omega arith;
}

-- ---- scripts

each_cheap : (number size k : ℕ) → Each IsCheap (script_of number size k)
each_cheap number size k = each_op IsCheap add_cheap push_cheap number size k

size_few : (ops : List Op) → Each IsCheap ops → size_from fields false ops ≤ 10 * length ops
size_few [] h = omega arith
size_few (o ∷ ops) h =
    let first : op_size fields false o ≤ 10 = h.0.size in
    let rest : size_from fields false ops ≤ 10 * length ops = size_few ops h.1 in
    let closed : size_from fields (held_after o false) ops ≡ size_from fields false ops = ap (λ held. size_from fields held ops) h.0.held in
    omega arith

script_size_few : (number size k : ℕ) → size ≤ 64 → script_size fields (script_of number size k) ≤ 10240
unfolding script_size
script_size_few number size k few =
    let most : size_from fields false (script_of number size k) ≤ 10 * length (script_of number size k) = size_few (script_of number size k) (each_cheap number size k) in
    let len : length (script_of number size k) ≡ 16 * size = script_len number size k in
    omega arith

-- a sum over the operations of a script
script_sum : (m : ℕ) (g : Op → ℕ) → ((o : Op) → IsCheap o → g o ≤ m) → (number size k : ℕ) → size ≤ 64 → sum_by g (script_of number size k) ≤ 1024 * m
script_sum m g h number size k few =
    let most : sum_by g (script_of number size k) ≤ length (script_of number size k) * m = sum_few m g (script_of number size k) (each (script_of number size k) (each_cheap number size k)) in
    let len : length (script_of number size k) ≡ 16 * size = script_len number size k in
    let short : length (script_of number size k) ≤ 1024 = omega arith in
    let wide : length (script_of number size k) * m ≤ 1024 * m = mul-le-mul_right m short in
    omega arith
  where
    each : (ops : List Op) → Each IsCheap ops → Each (λ o. g o ≤ m) ops
    each [] c = tt
    each (o ∷ ops) c = (h o c.0, each ops c.1)

counts_few : (m : ℕ) (what : Tally) → ((o : Op) → IsCheap o → counted what o ≤ m) → (number size : ℕ) → size ≤ 64 → in_firmware what (firmware number size) ≤ 4 * (1024 * m)
unfolding in_firmware in_script
counts_few m what h number size few = row_sum (1024 * m) 4 (in_script what) (script_of number size) (λ k less. script_sum m (counted what) h number size k few)

-- ---- devices

pulses_few : (e : Event) (size : ℕ) → size ≤ 64 → in_devices e (devices size) ≤ 512
unfolding in_devices
pulses_few e size few = row_sum 256 2 (count_by (same_event e)) (pulses_of size) (λ k less.
    let most : count_by (same_event e) (pulses_of size k) ≤ length (pulses_of size k) = count_by-le-length (same_event e) (pulses_of size k) in
    let len : length (pulses_of size k) ≡ 4 * size = pulses_len size k in
    omega arith)

latches_few : (size : ℕ) → size ≤ 64 → sum_by length (devices size) ≤ 512
latches_few size few = row_sum 256 2 length (pulses_of size) (λ k less. let len : length (pulses_of size k) ≡ 4 * size = pulses_len size k in omega arith)

-- ---- the parts of the weight

runs_few : (number size : ℕ) (e : Event) → size ≤ 64 → runs_of (machine number size) e ≤ 512
runs_few number size e few =
    let raised : in_firmware (tally.Runs e) (firmware number size) ≤ 0 = counts_few 0 (tally.Runs e) (λ o c. c.runs e) number size few in
    let pulsed : in_devices e (devices size) ≤ 512 = pulses_few e size few in
    omega arith

calls_few : (number size : ℕ) (e : Event) → size ≤ 64 → calls_of (machine number size) e ≤ 512
calls_few number size e few =
    let raised : in_firmware (tally.Raises e) (firmware number size) ≤ 0 = counts_few 0 (tally.Raises e) (λ o c. c.raises e) number size few in
    let pulsed : in_devices e (devices size) ≤ 512 = pulses_few e size few in
    omega arith

pushes_few : (number size : ℕ) → size ≤ 64 → pushes (machine number size) ≤ 4096
pushes_few number size few = counts_few 1 tally.Pushes (λ o c. c.pushes) number size few

firmware_size_few : (number size : ℕ) → size ≤ 64 → firmware_size (machine number size) ≤ 40960
unfolding firmware_size
firmware_size_few number size few = row_sum 10240 4 (script_size fields) (script_of number size) (λ k less. script_size_few number size k few)

no_firmware_moves : (number size : ℕ) → size ≤ 64 → firmware_moves (machine number size) ≤ 0
unfolding firmware_moves script_moves
no_firmware_moves number size few = row_sum 0 4 (script_moves fields) (script_of number size) (λ k less. script_sum 0 (op_moves fields) (λ o c. c.moves) number size k few)

events_size_few : (number size : ℕ) → size ≤ 64 → events_size (machine number size) ≤ 12288
unfolding events_size script_size
events_size_few number size few = mapped_sum 1536 8 (event_size (machine number size)) listed_of quiet_event (λ k less. let runs : runs_of (machine number size) (event.Gpe k) ≤ 512 = runs_few number size (event.Gpe k) few in omega arith)

no_events_moves : (number size : ℕ) → size ≤ 64 → events_moves (machine number size) ≤ 0
unfolding events_moves script_moves
no_events_moves number size few = mapped_sum 0 8 (event_moves (machine number size)) listed_of quiet_event (λ k less. omega arith)

code_size : (q : ℕ) → q < 16 → script_size fields (code_script q) ≡ 11
unfolding script_size op_size each_of act_fields_of
code_size q less = eqb-true (script_size fields (code_script q)) 11 (tested (λ k. script_size fields (code_script k) == 11) 0 16 q q refl less (omega arith))

code_moves : (q : ℕ) → q < 16 → script_moves fields (code_script q) ≡ 0
unfolding script_moves op_moves each_of act_fields_of
code_moves q less = eqb-true (script_moves fields (code_script q)) 0 (tested (λ k. script_moves fields (code_script k) == 0) 0 16 q q refl less (omega arith))

queries_size_few : (number size : ℕ) → size ≤ 64 → queries_size (machine number size) ≤ 360448
unfolding queries_size
queries_size_few number size few = mapped_sum 45056 8 (query_size (machine number size)) query_of (λ k. code_handler (k + 1)) (λ k less.
    let asked : in_firmware (tally.Code (k + 1)) (firmware number size) ≤ 4096 = counts_few 1 (tally.Code (k + 1)) (λ o c. c.codes (k + 1)) number size few in
    let each : script_size fields (code_script (k + 1)) ≡ 11 = code_size (k + 1) (omega arith) in
    subst (λ n. in_firmware (tally.Code (k + 1)) (firmware number size) * n ≤ 45056) (sym each) (omega arith))

no_queries_moves : (number size : ℕ) → size ≤ 64 → queries_moves (machine number size) ≤ 0
unfolding queries_moves
no_queries_moves number size few = mapped_sum 0 8 (query_moves (machine number size)) query_of (λ k. code_handler (k + 1)) (λ k less.
    let each : script_moves fields (code_script (k + 1)) ≡ 0 = code_moves (k + 1) (omega arith) in
    subst (λ n. in_firmware (tally.Code (k + 1)) (firmware number size) * n ≤ 0) (sym each) (omega arith))

-- ---- the weight

asked_few : (pushed moves calls : ℕ) → pushed ≤ 4096 → moves ≤ 0 → calls ≤ 512 → queries_asked pushed moves calls ≤ 8704
asked_few pushed moves calls p m c = by_none (pushed == 0)
  where
    by_none : (b : Bool) → (if b then 0 else 2 * pushed + moves + calls) ≤ 8704
    by_none true = omega arith
    by_none false = omega arith

total : (fs ds es qs pushed moves calls asked gb : ℕ) → fs ≤ 40960 → ds ≤ 512 → es ≤ 12288 → qs ≤ 360448 → pushed ≤ 4096 → moves ≤ 0 → calls ≤ 512 → asked ≤ 8704 → gb ≤ 512 → fs + ds + es + (2 * pushed + qs) + (pushed + moves + calls + asked) + 15 * asked + 3 * gb ≤ 1048576
total fs ds es qs pushed moves calls asked gb f d e q p m c a g = omega arith

pub is_light : IsLight
unfolding made weight_of
is_light number size few =
    let m = machine number size in
    let pushed : pushes m ≤ 4096 = pushes_few number size few in
    let firmware_moved : firmware_moves m ≤ 0 = no_firmware_moves number size few in
    let events_moved : events_moves m ≤ 0 = no_events_moves number size few in
    let queries_moved : queries_moves m ≤ 0 = no_queries_moves number size few in
    let moves : all_moves m ≤ 0 = omega arith in
    let calls : calls_of m (event.Gpe 110) ≤ 512 = calls_few number size (event.Gpe 110) few in
    total (firmware_size m) (sum_by length (devices size)) (events_size m) (queries_size m) (pushes m) (all_moves m) (calls_of m (event.Gpe 110))
    (queries_asked (pushes m) (all_moves m) (calls_of m (event.Gpe 110))) (calls_of m gbl)
    (firmware_size_few number size few) (latches_few size few) (events_size_few number size few) (queries_size_few number size few) pushed moves calls
    (asked_few (pushes m) (all_moves m) (calls_of m (event.Gpe 110)) pushed moves calls) (calls_few number size gbl few)
