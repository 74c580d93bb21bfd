-- The rules of a machine make its scripts run well.
use Rattle.std.proofs.Common.{ℕ, zero, suc, ◌+◌, ◌≡◌, ◌&&◌, Bool, true, false, not, List, [], ◌∷◌, length, slice_get, Option, Some, None, is_some, refl, sym, ap, ◌∙◌, subst, if◌then◌else◌}
use Rattle.std.proofs.lemmas.Bool.{and_parts, not-false, not-true}
use Rattle.acpi_regs.specs.declared.actor.Side.{Side}
use Rattle.acpi_regs.specs.declared.actor.Side.TheVariants as side
use Rattle.acpi_regs.specs.declared.event.Event.{Event}
use Rattle.acpi_regs.specs.declared.event.Listed.{Listed}
use Rattle.field_units.specs.declared.rules.RegionKind.{RegionKind}
use Rattle.field_units.specs.declared.rules.RegionKind.TheVariants as region_kind
use Rattle.field_units.specs.Field.{Field, is_controller}
use Rattle.handler_script.specs.declared.act.Act.{Act}
use Rattle.handler_script.specs.declared.act.Act.TheVariants as act
use Rattle.handler_script.specs.declared.fault.ScriptFault.{ScriptFault}
use Rattle.handler_script.specs.declared.fault.ScriptFault.TheVariants as fault
use Rattle.handler_script.specs.declared.op.Op.{Op}
use Rattle.handler_script.specs.declared.op.Op.TheVariants as op
use Rattle.handler_script.specs.Accepts.{faults_from, first_of, is_allowed, is_balanced, is_known, is_sound_skip, open_after, script_fault}
use Rattle.handler_script.specs.Each.{IsTrueOn, act_alone}
use Rattle.handler_script.specs.Parts.{access_needs, bursts, read_in, write_in}
use Rattle.handler_script.proofs.Each.{each}
use Rattle.handler_script.proofs.Locks.{plan_locked}
use Rattle.machine_desc.specs.Kept.{IsHandler, IsListed, IsMachine, IsQuery, IsRegion, listed_in, own_event, queries_in}
use Rattle.machine_desc.specs.Machine.{MachineData, act_fields}
use Rattle.machine_desc.specs.Rules.{forbids, is_listed}
use Rattle.machine_desc.specs.Scripts.{IsServed, RunsWell, ServesAll, suits_side}
use Rattle.machine_desc.proofs.Acting.{act_field}
use Rattle.machine_desc.proofs.EachItem.{all_each, each_all}

-- ---- what a side's script may have

verdict_passes : (a k s b : Bool) (i : ℕ) (later : Option ScriptFault) → first_of (if a then (if k then (if s then (if b then None else Some (fault.Unbalanced i)) else Some (fault.BadSkip i)) else Some (fault.UnknownField i)) else Some (fault.NotAllowed i)) later ≡ None → (a ≡ true) × (later ≡ None)
verdict_passes true true true true i later e = (refl, e)
verdict_passes true true true false i later e = cc
verdict_passes true true false b i later e = cc
verdict_passes true false s b i later e = cc
verdict_passes false k s b i later e = cc

some_same : {A : Type 0} (x y : A) → Some x ≡ Some y → x ≡ y
some_same x y e = cc

op_allowed : (forbidden : Op → Bool) (of_side : Side) (count : ℕ) (hold : Option ℕ) (i : ℕ) (ops : List Op) → faults_from forbidden of_side count hold i ops ≡ None → (j : ℕ) (o : Op) → slice_get ops j ≡ Some o → (is_allowed of_side o ≡ true) × (forbidden o ≡ false)
op_allowed forbidden of_side count hold i [] none j o at = cc
op_allowed forbidden of_side count hold i (x ∷ ops) none zero o at =
    let p = verdict_passes (is_allowed of_side x && not (forbidden x)) (is_known count x) (is_sound_skip x ops) (is_balanced (is_some hold) x) i (faults_from forbidden of_side count (open_after i x hold) (i + 1) ops) none in
    let q = and_parts (is_allowed of_side x) (not (forbidden x)) p.0 in
    let same = some_same x o at in
    (ap (is_allowed of_side) (sym same) ∙ q.0, ap forbidden (sym same) ∙ not-true (forbidden x) q.1)
op_allowed forbidden of_side count hold i (x ∷ ops) none (suc j) o at =
    op_allowed forbidden of_side count (open_after i x hold) (i + 1) ops (verdict_passes (is_allowed of_side x && not (forbidden x)) (is_known count x) (is_sound_skip x ops) (is_balanced (is_some hold) x) i (faults_from forbidden of_side count (open_after i x hold) (i + 1) ops) none).1 j o at

up_listed : (listed : List Listed) (own : Option Event) (n : Event) → forbids listed own (op.Up n) ≡ false → is_listed listed n ≡ true
unfolding forbids
up_listed listed own n may = not-false (is_listed listed n) may

push_owned : (listed : List Listed) (own : Option Event) (q : ℕ) → forbids listed own (op.Push q) ≡ false → is_some own ≡ true
unfolding forbids
push_owned listed own q may = not-false (is_some own) may

alone_suits : (m : MachineData) (s : Side) (o : Op) (x : Act) → is_allowed s o ≡ true → forbids (listed_in m) (own_event m) o ≡ false → act_alone o ≡ Some x → suits_side m s false x ≡ true
alone_suits m s o x ok may is = at s o ok may (act_alone o) refl is
  where
    suited : (s : Side) (y x : Act) → suits_side m s false y ≡ true → Some y ≡ Some x → suits_side m s false x ≡ true
    suited s y x holds same = subst (λ z. suits_side m s false z ≡ true) (some_same y x same) holds

    at : (s : Side) (o : Op) → is_allowed s o ≡ true → forbids (listed_in m) (own_event m) o ≡ false → (y : Option Act) → act_alone o ≡ y → y ≡ Some x → suits_side m s false x ≡ true
    at s (op.Read f) ok may y alone is = cc
    at s (op.Write f v) ok may y alone is = cc
    at s (op.Add f v) ok may y alone is = cc
    at s (op.Skip v k) ok may y alone is = cc
    at s op.Hold ok may y alone is = suited s act.Lock x refl (alone ∙ is)
    at s op.Free ok may y alone is = suited s act.Unlock x refl (alone ∙ is)
    at side.Os (op.Notify d v) ok may y alone is = suited side.Os (act.Notify d v) x refl (alone ∙ is)
    at side.Firmware (op.Notify d v) ok may y alone is = cc
    at s (op.Drop n) ok may y alone is = suited s (act.Drop n) x refl (alone ∙ is)
    at side.Os (op.Up n) ok may y alone is = suited side.Os (act.Up n) x (up_listed (listed_in m) (own_event m) n may) (alone ∙ is)
    at side.Firmware (op.Up n) ok may y alone is = cc
    at side.Os (op.Down n) ok may y alone is = suited side.Os (act.Down n) x refl (alone ∙ is)
    at side.Firmware (op.Down n) ok may y alone is = cc
    at side.Firmware (op.Raise n) ok may y alone is = suited side.Firmware (act.Raise n) x refl (alone ∙ is)
    at side.Os (op.Raise n) ok may y alone is = cc
    at side.Firmware (op.Assert n) ok may y alone is = suited side.Firmware (act.Assert n) x refl (alone ∙ is)
    at side.Os (op.Assert n) ok may y alone is = cc
    at side.Firmware (op.Push q) ok may y alone is = suited side.Firmware (act.Push q) x (push_owned (listed_in m) (own_event m) q may) (alone ∙ is)
    at side.Os (op.Push q) ok may y alone is = cc

-- ---- fields: one of the controller's stands beside a controller

field_controls : (m : MachineData) → IsMachine m → (f : ℕ) (field : Field) → slice_get (act_fields m) f ≡ Some field → is_controller field.kind ≡ true → is_some m.controller ≡ true
field_controls m ok f field at controls =
    let is = act_field m ok f field at in
    (each_all (IsRegion m) m.regions ok.regions field.region is.region is.named).owner (ap is_controller (sym is.kind) ∙ controls)

read_suits : (m : MachineData) (s : Side) (needs : Bool) (k : RegionKind) (field : Field) (i : ℕ) → (is_controller k ≡ true → is_some m.controller ≡ true) → suits_side m s needs (read_in k field i) ≡ true
read_suits m s needs region_kind.Memory field i controls = refl
read_suits m s needs region_kind.Controller field i controls = controls refl

write_suits : (m : MachineData) (s : Side) (needs : Bool) (k : RegionKind) (field : Field) (i byte : ℕ) → (is_controller k ≡ true → is_some m.controller ≡ true) → suits_side m s needs (write_in k field i byte) ≡ true
write_suits m s needs region_kind.Memory field i byte controls = refl
write_suits m s needs region_kind.Controller field i byte controls = controls refl

field_suits : (m : MachineData) (s : Side) → IsMachine m → (f : ℕ) (field : Field) → slice_get (act_fields m) f ≡ Some field → IsTrueOn (suits_side m s) field
field_suits m s ok f field at = record {
  lock = λ n. (refl, refl);
  burst = λ held b. (let has = field_controls m ok f field at (bursting (field.kind) b) in (has, has));
  read = λ held k below. read_suits m s (access_needs field held) field.kind field k (field_controls m ok f field at);
  write = λ held k byte below. write_suits m s (access_needs field held) field.kind field k byte (field_controls m ok f field at);
}
  where
    bursting : (k : RegionKind) → bursts (record field { kind = k }) ≡ true → is_controller k ≡ true
    bursting region_kind.Memory b = cc
    bursting region_kind.Controller b = refl

-- ---- scripts

pub runs_well : (m : MachineData) → IsMachine m → (s : Side) (ops : List Op) → IsHandler m s ops → RunsWell m s ops
unfolding script_fault
runs_well m ok s ops handler = record {
  locked = plan_locked (act_fields m) ops handler.accepted;
  suited = each (suits_side m s) (act_fields m) ops (field_suits m s ok) (λ i o x at is. (let may = op_allowed (forbids (listed_in m) (own_event m)) s (length m.fields) None 0 ops handler.faultless i o at in alone_suits m s o x may.0 may.1 is));
}

pub can_serve : ServesAll
can_serve m ok = record {
  some_workers = ok.some_workers;
  events = all_each (IsServed m) m.events (λ k e at. (let is = each_all (IsListed m) m.events ok.events k e at in record { lock = is.lock; own = is.own; script = runs_well m ok side.Os e.script is.script }));
  queries = all_each (λ q. RunsWell m side.Os q.script) (queries_in m) (λ k q at. runs_well m ok side.Os q.script (each_all (IsQuery m) (queries_in m) ok.queries k q at).script);
  firmware = all_each (RunsWell m side.Firmware) m.firmware (λ k ops at. runs_well m ok side.Firmware ops (each_all (IsHandler m side.Firmware) m.firmware ok.firmware k ops at));
}
