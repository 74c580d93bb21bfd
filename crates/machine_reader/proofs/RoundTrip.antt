-- The canonical text of a machine is read as that machine.
use Rattle.std.proofs.Common.{◌≡◌, ℕ, ◌≤◌, Bool, true, false, nat_lt, if◌then◌else◌, All, List, Option, Some, None, Result, Ok, Err, refl, sym, ap, ◌∙◌, rules, arith}
use Rattle.std.proofs.lemmas.Bool.{ltb-true}
use Rattle.serde_json.specs.Data.{Data}
use Rattle.serde_json.specs.Read.{read}
use Rattle.acpi_regs.specs.declared.actor.Actor.{Actor}
use Rattle.acpi_regs.specs.declared.actor.Actor.TheVariants as actor
use Rattle.machine_desc.specs.declared.machine.ControllerDesc.{ControllerDesc}
use Rattle.machine_desc.specs.declared.lists.Counts.{Counts}
use Rattle.machine_desc.specs.declared.parts.MachineParts.{MachineParts}
use Rattle.machine_desc.specs.Given.{IsDescribed}
use Rattle.machine_desc.specs.Kept.{IsMachine, IsQuery, queries_of_controller}
use Rattle.machine_desc.specs.Machine.{MachineData, described}
use Rattle.machine_desc.specs.Rules.{has_actor}
use Rattle.machine_desc.specs.Weight.{weight_of}
use Rattle.machine_reader.specs.declared.fault.ReaderFault.{ReaderFault}
use Rattle.machine_reader.specs.declared.fault.ReaderFault.TheVariants as fault
use Rattle.machine_reader.specs.Canonical.{canonical, description_json}
use Rattle.machine_reader.specs.Description.{Describes, IsJson, limit, machine_in, unless_broken, unless_long, unless_misshapen}
use Rattle.machine_reader.specs.Laws.{ReadsBack}
use Rattle.machine_reader.specs.Parts.{parts_of}
use Rattle.machine_reader.specs.Ranges.{Fits, SomeControllerFits}
use Rattle.machine_reader.specs.Reading.{Reading}
use Rattle.machine_reader.specs.Shape.{shape}
use Rattle.machine_reader.proofs.Outlines.{read-compact_text, text_utf8}
use Rattle.machine_reader.proofs.Plain.{plain, shallow}
use Rattle.machine_reader.proofs.ReadBack.{IsNamed, IsSomeControllerText, IsText, parts_read}
use Rattle.machine_reader.proofs.Trimmed.{told_kept, told_same}

controller_text : (m : MachineData) (c : Option ControllerDesc) → SomeControllerFits c → All (IsQuery m) (queries_of_controller c) → IsSomeControllerText c
controller_text m None fits kept = tt
controller_text m (Some c) fits kept = record {
  event = fits.event;
  queries = λ k d less. record {
    some = (kept k d less).code;
    code = (fits.queries k d less).code;
    script = λ j o short. ((fits.queries k d less).script j o short, (kept k d less).script.codes j o short);
  };
}

named : (n : Counts) (a : Actor) → n.workers ≤ 4 → n.devices ≤ 8 → n.firmware ≤ 8 → has_actor n a ≡ true → IsNamed a
named n actor.Int w d f e = tt
named n actor.Poll w d f e = tt
named n actor.Ec w d f e = tt
named n (actor.Worker k) w d f e = omega (arith, ltb-true k n.workers e, w)
named n (actor.Device k) w d f e = omega (arith, ltb-true k n.devices e, d)
named n (actor.Firmware k) w d f e = omega (arith, ltb-true k n.firmware e, f)

is_text : (m : MachineData) → Fits m → IsMachine m → IsText m
is_text m fits kept = record {
  version = kept.version;
  glk = kept.glk;
  gpe0 = fits.gpe0;
  base1 = fits.base1;
  gpe1 = fits.gpe1;
  workers = omega (arith, kept.few_workers);
  regions = λ k r less. (fits.regions k r less, omega (arith, (kept.regions k r less).few));
  fields = fits.fields;
  events = λ k e less. record {
    fits = (fits.events k e less).event;
    lock = (kept.events k e less).lock;
    level = (kept.events k e less).level;
    refs = omega (arith, (kept.events k e less).refs);
    script = λ j o short. ((fits.events k e less).script j o short, (kept.events k e less).script.codes j o short);
  };
  controller = controller_text m m.controller fits.controller kept.queries;
  firmware = λ k ops less j o short. (fits.firmware k ops less j o short, (kept.firmware k ops less).codes j o short);
  devices = fits.devices;
  schedule = λ k a less. named _ _ kept.few_workers kept.few_devices kept.few_firmware (kept.schedule k a less);
}

-- ---- the text

pub json_of : (m : MachineData) → Fits m → IsMachine m → IsJson (canonical m) (description_json m)
unfolding canonical
json_of m fits kept =
    let d = description_json m in
    let written = plain m (is_text m fits kept) in
    (text_utf8 d written, read-compact_text d written (shallow m))

-- ---- the machine

pub machine_back : (m : MachineData) → Fits m → IsMachine m → IsDescribed m → machine_in (description_json m) ≡ unless_long m
unfolding machine_in
machine_back m fits kept given =
    ap unless_misshapen (parts_read m (is_text m fits kept)) ∙ (ap (unless_broken (parts_of m)) (told_kept m given) ∙ ap unless_long (told_same m given))

within : (m : MachineData) → weight_of m ≤ limit → unless_long m ≡ Ok m
within m h = short (nat_lt limit (weight_of m)) (grind (arith, rules))
  where
    short : (b : Bool) → b ≡ false → (if b then Err (fault.TooLong (weight_of m)) else Ok m) ≡ Ok m
    short true e = cc
    short false e = refl

-- a text has one value
one_value : (text : List ℕ) (d e : Data) → read text ≡ Some d → read text ≡ Some e → d ≡ e
one_value text d e first second = same (sym first ∙ second)
  where
    same : Some d ≡ Some e → d ≡ e
    same h = cc

pub read_back : (m : MachineData) → Fits m → IsMachine m → IsDescribed m → ReadsBack m
read_back m fits kept given light answer told other = by_cases answer told other
  where
    found : (answer : Result MachineData ReaderFault) → (d : Data) × IsJson (canonical m) d × (machine_in d ≡ answer) → answer ≡ Ok m
    found answer h =
        let json = json_of m fits kept in
        let same = one_value (canonical m) h.0 (description_json m) h.1.1 json.1 in
        sym h.2 ∙ (ap machine_in same ∙ (machine_back m fits kept given ∙ within m light))

    by_cases : (answer : Result MachineData ReaderFault) → Describes (canonical m) answer → (answer ≡ Err fault.Memory → ⊥) → answer ≡ Ok m
    by_cases (Ok x) h other = found (Ok x) h
    by_cases (Err fault.NotJson) h other = absurd (h (description_json m) (json_of m fits kept))
    by_cases (Err (fault.BadShape path)) h other = found (Err (fault.BadShape path)) h
    by_cases (Err (fault.BadMachine bad)) h other = found (Err (fault.BadMachine bad)) h
    by_cases (Err (fault.TooLong n)) h other = found (Err (fault.TooLong n)) h
    by_cases (Err fault.Memory) h other = absurd (other refl)

-- parts that were read
abbrev found_parts : MachineParts → Reading MachineParts
found_parts p = Ok p

-- no two machines have one text
pub one_text : (one other : MachineData) → Fits one → IsMachine one → IsDescribed one → Fits other → IsMachine other → IsDescribed other → canonical one ≡ canonical other → one ≡ other
one_text one other fits kept given fits' kept' given' same =
    let first = json_of one fits kept in
    let second = json_of other fits' kept' in
    let value : description_json one ≡ description_json other = one_value (canonical other) _ _ (ap read (sym same) ∙ first.1) second.1 in
    let parts : found_parts (parts_of one) ≡ found_parts (parts_of other) = sym (parts_read one (is_text one fits kept)) ∙ (ap shape value ∙ parts_read other (is_text other fits' kept')) in
    sym (told_same one given) ∙ (ap described (inside parts) ∙ told_same other given')
  where
    inside : {p q : MachineParts} → found_parts p ≡ found_parts q → p ≡ q
    inside e = cc
