-- Every act that an actor has left is one that the machine's rules see to.
use Rattle.std.proofs.Common.{ℕ, suc, ◌+◌, ◌-◌, ◌*◌, ◌/◌, ◌<◌, ◌≤◌, ◌≡◌, arith, ◌||◌, ◌==◌, if◌then◌else◌, not, Bool, true, false, cond, nat_lt, List, [], ◌∷◌, length, slice_get, unwrap_or, Option, Some, None, refl, sym, ◌∙◌, ap, subst}
use Rattle.std.proofs.lemmas.Bool.{lt-ltb, ltb-false}
use Rattle.acpi_regs.specs.declared.actor.Actor.{Actor}
use Rattle.acpi_regs.specs.declared.actor.Actor.TheVariants as actor
use Rattle.acpi_regs.specs.declared.actor.Side.TheVariants as side
use Rattle.acpi_regs.specs.declared.entry.Deed.{Deed}
use Rattle.acpi_regs.specs.declared.entry.Deed.TheVariants as deed
use Rattle.acpi_regs.specs.declared.entry.Entry.{Entry}
use Rattle.acpi_regs.specs.declared.event.Event.{Event}
use Rattle.acpi_regs.specs.Actor.{same_actor}
use Rattle.acpi_regs.specs.Event.{same_event}
use Rattle.field_units.specs.declared.fault.FieldFault.TheVariants as field
use Rattle.field_units.specs.declared.rules.RegionKind.{RegionKind}
use Rattle.field_units.specs.declared.rules.RegionKind.TheVariants as kind
use Rattle.field_units.specs.Bits.{byte_count, first_byte}
use Rattle.field_units.specs.Field.{Field, RegionData, field_fault, is_controller}
use Rattle.handler_script.specs.declared.act.Act.{Act}
use Rattle.handler_script.specs.declared.op.Op.{Op}
use Rattle.handler_script.specs.declared.op.Op.TheVariants as op
use Rattle.handler_script.specs.Each.{Each, IsTrueOn, act_alone}
use Rattle.handler_script.specs.Parts.{access_needs, cell_of, read_in, write_in}
use Rattle.handler_script.specs.Plan.{Plan, Do, End, next_act, plan, plan_after, query_plan}
use Rattle.handler_script.proofs.Each.{each}
use Rattle.machine_desc.specs.declared.machine.ListedEvent.{ListedEvent}
use Rattle.machine_desc.specs.declared.machine.Query.{Query}
use Rattle.machine_desc.specs.Given.{HasCode, HaveCodes}
use Rattle.machine_desc.specs.Kept.{IsField, IsHandler, IsListed, IsMachine, IsQuery, IsRegion, queries_in}
use Rattle.machine_desc.specs.Machine.{MachineData, act_fields, glk}
use Rattle.machine_desc.proofs.Acting.{act_field}
use Rattle.machine_desc.proofs.EachItem.{each_all}
use Rattle.machine_history.specs.declared.parts.Job.{Job}
use Rattle.machine_history.specs.declared.parts.Job.TheVariants as job
use Rattle.machine_history.specs.Acts.{fits, is_memory_cell}
use Rattle.machine_history.specs.Jobs.{jobs}
use Rattle.machine_history.specs.Machine.{code_script, event_script, query_in, script_in}
use Rattle.machine_history.specs.Scripts.{answer_of, first_plan, job_plan, left_after, next_of, passes, plan_left, script_of}

-- ---- an op that names no field

pub some-injective : {X : Type 0} (x y : X) → Some x ≡ Some y → x ≡ y
some-injective x y e = cc

pub alone : (m : MachineData) (o : Op) (a : Act) → HasCode o → act_alone o ≡ Some a → fits m false a ≡ true
alone m (op.Read f) a given is = cc
alone m (op.Write f v) a given is = cc
alone m (op.Add f v) a given is = cc
alone m (op.Skip v k) a given is = cc
alone m op.Hold a given is = subst (λ x. fits m false x ≡ true) (some-injective _ a is) refl
alone m op.Free a given is = subst (λ x. fits m false x ≡ true) (some-injective _ a is) refl
alone m (op.Notify d v) a given is = subst (λ x. fits m false x ≡ true) (some-injective _ a is) refl
alone m (op.Drop e) a given is = subst (λ x. fits m false x ≡ true) (some-injective _ a is) refl
alone m (op.Up e) a given is = subst (λ x. fits m false x ≡ true) (some-injective _ a is) refl
alone m (op.Down e) a given is = subst (λ x. fits m false x ≡ true) (some-injective _ a is) refl
alone m (op.Raise e) a given is = subst (λ x. fits m false x ≡ true) (some-injective _ a is) refl
alone m (op.Assert e) a given is = subst (λ x. fits m false x ≡ true) (some-injective _ a is) refl
alone m (op.Push q) a given is = subst (λ x. fits m false x ≡ true) (some-injective _ a is) (lt-ltb 0 q given)

-- ---- a byte of a field

-- it stands inside the field's region
pub inside : (len bit width k : ℕ) → field_fault len bit width ≡ None → k < (bit + width - 1) / 8 - bit / 8 + 1 → bit / 8 + k < len
inside len bit width k fits below = by_tests (nat_lt width 1) (nat_lt 64 width) (nat_lt (8 * len) (bit + width)) refl refl fits
  where
    by_tests : (few many out : Bool) → nat_lt width 1 ≡ few → nat_lt (8 * len) (bit + width) ≡ out → (if few || many then Some field.BadWidth else (if out then Some field.OutsideRegion else None)) ≡ None → bit / 8 + k < len
    by_tests true many out few_is out_is fits = cc
    by_tests false true out few_is out_is fits = cc
    by_tests false false true few_is out_is fits = cc
    by_tests false false false few_is out_is fits =
        let some : 1 ≤ width = ltb-false width 1 few_is in
        let within : bit + width ≤ 8 * len = ltb-false (8 * len) (bit + width) out_is in
        omega arith

abbrev pub kind_in : Option RegionData → RegionKind → Type 0
kind_in None k = ⊥
kind_in (Some region) k = region.kind ≡ k

pub within_field : (m : MachineData) → IsMachine m → (f : ℕ) (field : Field) (k : ℕ) → slice_get (act_fields m) f ≡ Some field → k < byte_count field → first_byte field + k < field.len
within_field m ok f field k at below = inside field.len field.bit field.width k (act_field m ok f field at).fits below

pub in_memory : (m : MachineData) → IsMachine m → (f : ℕ) (field : Field) (k : ℕ) → slice_get (act_fields m) f ≡ Some field → field.kind ≡ kind.Memory → k < byte_count field → is_memory_cell m (cell_of field k) ≡ true
in_memory m ok f field k at is below =
    let kept : IsField m field = act_field m ok f field at in
    let within : first_byte field + k < length kept.region.cells = subst (λ n. first_byte field + k < n) kept.len (within_field m ok f field k at below) in
    let plain : not (is_controller kept.region.kind) ≡ true = ap (λ x. not (is_controller x)) (sym kept.kind ∙ is) in
    rw (kept.named, plain) (lt-ltb _ _ within)

-- an address of the controller's space
pub addressed : (m : MachineData) → IsMachine m → (f : ℕ) (field : Field) (k : ℕ) → slice_get (act_fields m) f ≡ Some field → field.kind ≡ kind.Controller → k < byte_count field → nat_lt (first_byte field + k) 256 ≡ true
addressed m ok f field k at is below =
    let kept : IsField m field = act_field m ok f field at in
    let whole : length kept.region.cells ≡ 256 = (each_all (IsRegion m) m.regions ok.regions field.region kept.region kept.named).address (ap is_controller (sym kept.kind ∙ is)) in
    lt-ltb _ _ (subst (λ n. first_byte field + k < n) (kept.len ∙ whole) (within_field m ok f field k at below))

pub reads : (m : MachineData) → IsMachine m → (f : ℕ) (field : Field) (needs : Bool) (k : ℕ) (of_kind : RegionKind) → slice_get (act_fields m) f ≡ Some field → field.kind ≡ of_kind → k < byte_count field → fits m needs (read_in of_kind field k) ≡ true
reads m ok f field needs k kind.Memory at is below = in_memory m ok f field k at is below
reads m ok f field needs k kind.Controller at is below = addressed m ok f field k at is below

pub writes : (m : MachineData) → IsMachine m → (f : ℕ) (field : Field) (needs : Bool) (k byte : ℕ) (of_kind : RegionKind) → slice_get (act_fields m) f ≡ Some field → field.kind ≡ of_kind → k < byte_count field → fits m needs (write_in of_kind field k byte) ≡ true
writes m ok f field needs k byte kind.Memory at is below = in_memory m ok f field k at is below
writes m ok f field needs k byte kind.Controller at is below = addressed m ok f field k at is below

pub on_field : (m : MachineData) → IsMachine m → (f : ℕ) (field : Field) → slice_get (act_fields m) f ≡ Some field → IsTrueOn (fits m) field
on_field m ok f field at = record {
  lock = λ n. (refl, refl);
  burst = λ held b. (refl, refl);
  read = λ held k below. reads m ok f field (access_needs field held) k field.kind at refl below;
  write = λ held k byte below. writes m ok f field (access_needs field held) k byte field.kind at refl below;
}

-- ---- a script

pub of_script : (m : MachineData) → IsMachine m → (ops : List Op) → HaveCodes ops → Each (fits m) (plan (act_fields m) ops)
of_script m ok ops codes = each (fits m) (act_fields m) ops (on_field m ok) (λ i o a at is. alone m o a (each_all HasCode ops codes i o at) is)

pub none_pushed : HaveCodes []
none_pushed k d below = absurd (omega arith)

pub of_firmware : (m : MachineData) → IsMachine m → (k : ℕ) (found : Option (List Op)) → slice_get m.firmware k ≡ found → HaveCodes (unwrap_or found [])
of_firmware m ok k None at = none_pushed
of_firmware m ok k (Some ops) at = (each_all (IsHandler m side.Firmware) m.firmware ok.firmware k ops at).codes

-- the handler that is found in a list is one of its items' or none
pub either : (b : Bool) (one other : List Op) → HaveCodes one → HaveCodes other → HaveCodes (cond b one other)
either true one other first second = first
either false one other first second = second

pub of_events : (m : MachineData) (events : List ListedEvent) (n : Event) → ((i : ℕ) (l : ListedEvent) → slice_get events i ≡ Some l → HaveCodes l.script) → HaveCodes (script_in events n)
of_events m [] n all = none_pushed
of_events m (l ∷ events) n all = either (same_event l.listed.event n) l.script (script_in events n) (all 0 l refl) (of_events m events n (λ i. all (suc i)))

pub of_queries : (m : MachineData) (queries : List Query) (q : ℕ) → ((i : ℕ) (h : Query) → slice_get queries i ≡ Some h → HaveCodes h.script) → HaveCodes (query_in queries q)
of_queries m [] q all = none_pushed
of_queries m (h ∷ queries) q all = either (h.code == q) h.script (query_in queries q) (all 0 h refl) (of_queries m queries q (λ i. all (suc i)))

pub of_query : (m : MachineData) (needs : Bool) → Each (fits m) (query_plan needs)
of_query m false = (refl, λ _. tt)
of_query m true = (refl, λ _. (refl, λ _. (refl, λ _. tt)))

pub of_job : (m : MachineData) → IsMachine m → (j : Option Job) → Each (fits m) (job_plan m j)
of_job m ok None = tt
of_job m ok (Some (job.Event n)) = of_script m ok (event_script m n) (of_events m m.events n (λ i l at. (each_all (IsListed m) m.events ok.events i l at).script.codes))
of_job m ok (Some job.Query) = of_query m (glk m)
of_job m ok (Some (job.Code q)) = of_script m ok (code_script m q) (of_queries m (queries_in m) q (λ i h at. (each_all (IsQuery m) (queries_in m) ok.queries i h at).script.codes))

pub at_first : (m : MachineData) → IsMachine m → (a : Actor) → Each (fits m) (first_plan m a)
at_first m ok (actor.Firmware k) = of_script m ok (script_of m k) (of_firmware m ok k (slice_get m.firmware k) refl)
at_first m ok actor.Int = tt
at_first m ok actor.Poll = tt
at_first m ok (actor.Worker k) = tt
at_first m ok actor.Ec = tt
at_first m ok (actor.Device k) = tt

-- ---- what is left

pub passed : (m : MachineData) (v : ℕ) (p : Plan) → Each (fits m) p → Each (fits m) (plan_after v p)
passed m v End all = tt
passed m v (Do needs a next) all = all.1 v

pub passed_if : (m : MachineData) (b : Bool) (v : ℕ) (p : Plan) → Each (fits m) p → Each (fits m) (cond b (plan_after v p) p)
passed_if m true v p all = passed m v p all
passed_if m false v p all = all

pub after : (m : MachineData) → IsMachine m → (made : List Job) (d : Deed) (p : Plan) → Each (fits m) p → Each (fits m) (left_after m made d p)
after m ok made (deed.Start j) p all = of_job m ok (slice_get made j)
after m ok made (deed.Finish j) p all = tt
after m ok made d p all = passed_if m (passes d) (answer_of d) p all

pub left_fits : (m : MachineData) → IsMachine m → (past : List Entry) (a : Actor) → Each (fits m) (plan_left m past a)
left_fits m ok [] a = at_first m ok a
left_fits m ok (e ∷ past) a = by_actor (same_actor a e.actor) (left_fits m ok past a)
  where
    by_actor : (b : Bool) → Each (fits m) (plan_left m past a) → Each (fits m) (cond b (left_after m (jobs m past) e.deed (plan_left m past a)) (plan_left m past a))
    by_actor true all = after m ok (jobs m past) e.deed (plan_left m past a) all
    by_actor false all = all

-- the next act is one that fits
abbrev pub SomeFits : MachineData → Option Act → Type 0
SomeFits m None = Unit {0}
SomeFits m (Some a) = (needs : Bool) × (fits m needs a ≡ true)

pub next_in : (m : MachineData) (p : Plan) → Each (fits m) p → SomeFits m (next_act p)
next_in m End all = tt
next_in m (Do needs a next) all = (needs, all.0)

pub next_fits : (m : MachineData) → IsMachine m → (past : List Entry) (a : Actor) → SomeFits m (next_of m past a)
next_fits m ok past a = next_in m (plan_left m past a) (left_fits m ok past a)
