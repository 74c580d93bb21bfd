-- A machine that is described by parts which break no rule keeps each rule in plain words.
use Rattle.std.proofs.Common.{◌≡◌, ℕ, zero, suc, ◌+◌, ◌-◌, ◌<◌, ◌≤◌, refl, sym, ap, ◌∙◌, subst, Bool, true, false, ◌&&◌, not, ◌==◌, List, [], ◌∷◌, ◌++◌, length, map, take, replicate, All, Option, Some, None, is_some, slice_get, cond, arith, eqb-true, eq-eqb}
use Rattle.std.proofs.lemmas.List.{length-append, length-map, length-replicate}
use Rattle.std.proofs.lemmas.Option.{slice_get-map}
use Rattle.std.proofs.lemmas.Iterator.Adapters.{position_from-zero}
use Rattle.std.specs.List.{list_any, position_from}
use Rattle.std.specs.Option.{option_map}
use Rattle.acpi_regs.specs.declared.actor.Actor.{Actor}
use Rattle.acpi_regs.specs.declared.actor.Side.{Side}
use Rattle.acpi_regs.specs.declared.actor.Side.TheVariants as side
use Rattle.acpi_regs.specs.declared.event.Event.{Event}
use Rattle.acpi_regs.specs.declared.event.Event.TheVariants as event
use Rattle.acpi_regs.specs.declared.event.Listed.{Listed}
use Rattle.acpi_regs.specs.Event.{fixed_rank, same_event}
use Rattle.handler_script.specs.declared.op.Op.{Op}
use Rattle.handler_script.specs.Accepts.{script_fault}
use Rattle.machine_desc.specs.declared.fault.Rule.TheVariants as rule
use Rattle.machine_desc.specs.declared.lists.Counts.{Counts}
use Rattle.machine_desc.specs.declared.machine.ListedEvent.{ListedEvent}
use Rattle.machine_desc.specs.declared.machine.Query.{Query}
use Rattle.machine_desc.specs.declared.parts.ControllerPart.{ControllerPart}
use Rattle.machine_desc.specs.declared.parts.EventPart.{EventPart}
use Rattle.machine_desc.specs.declared.parts.FieldPart.{FieldPart}
use Rattle.machine_desc.specs.declared.parts.MachineParts.{MachineParts}
use Rattle.machine_desc.specs.declared.parts.QueryPart.{QueryPart}
use Rattle.machine_desc.specs.declared.parts.RegionPart.{RegionPart}
use Rattle.machine_desc.specs.Given.{HasGlk, HasQueries, HaveCodes, IsDescribed, IsEventPart, IsGiven, IsQueryPart}
use Rattle.machine_desc.specs.Kept.{IsDevice, IsField, IsHandler, IsListed, IsMachine, IsOwnEvent, IsQuery, IsRegion, KeepsGlk, NoTwo, alike_codes, alike_events, both_controllers, counts_in, event_of_controller, listed_in, own_event, queries_of_controller}
use Rattle.machine_desc.specs.Machine.{MachineData, controller_of, described, field_of, glk, kind_of, len_of, listed_of, listed_part, query_of, region_of}
use Rattle.machine_desc.specs.Rules.{at_pulse, blocks, counts, device_rows, event_of, forbids, has_actor, is_controllers, is_event_of, is_in_block, is_known, most_events, own_event_rule, queries_of, query_fault, region_fault, unknown_pulse}
use Rattle.machine_desc.proofs.Acting.{as_many}
use Rattle.machine_desc.proofs.EachItem.{Each, PartKept, all_each, any_before, any_mapped, each_all, few, no_two, none, unbroken, unmapped}
use Rattle.machine_desc.proofs.Facts.{RulesKept, ScriptKept, event_kept, field_kept, forbidden, isnt, kept, query_kept, region_kept, script_kept}

-- ---- lists

each_mapped : {A B : Type 0} (P : B → Type 0) (f : A → B) (xs : List A) → Each (λ x. P (f x)) xs → Each P (map f xs)
each_mapped P f [] h zero y e = cc
each_mapped P f [] h (suc k) y e = cc
each_mapped P f (x ∷ xs) h zero y e = let same : f x ≡ y = cc in subst P same (h zero x refl)
each_mapped P f (x ∷ xs) h (suc k) y e = each_mapped P f xs (λ i z at. h (suc i) z at) k y e

-- where an item of a mapped list comes from
comes_from : {A B : Type 0} (f : A → B) (xs : List A) (k : ℕ) (y : B) → slice_get (map f xs) k ≡ Some y → (x : A) × (slice_get xs k ≡ Some x) × (f x ≡ y)
comes_from f [] zero y e = cc
comes_from f [] (suc k) y e = cc
comes_from f (x ∷ xs) zero y e = let same : f x ≡ y = cc in (x, refl, same)
comes_from f (x ∷ xs) (suc k) y e = comes_from f xs k y e

no_two_mapped : {A B : Type 0} (alike : B → B → Bool) (f : A → B) (xs : List A) → NoTwo (λ x y. alike (f x) (f y)) xs → NoTwo alike (map f xs)
no_two_mapped alike f xs h i j x y at_i at_j same =
    let a = comes_from f xs i x at_i in
    let b = comes_from f xs j y at_j in
    h i j a.0 b.0 a.1 b.1 (subst (λ z. alike (f a.0) z ≡ true) (sym b.2) (subst (λ z. alike z y ≡ true) (sym a.2) same))

found : {A : Type 0} (xs : List A) (k : ℕ) → k < length xs → (x : A) × (slice_get xs k ≡ Some x)
found [] k less = absurd (omega arith)
found (x ∷ xs) zero less = (x, refl)
found (x ∷ xs) (suc k) less = found xs k (omega arith)

mapped_same : {A B C : Type 0} (f : A → B) (g : B → C) (h : A → C) → ((x : A) → g (f x) ≡ h x) → (xs : List A) → map g (map f xs) ≡ map h xs
mapped_same f g h same [] = refl
mapped_same f g h same (x ∷ xs) = ap (λ y. y ∷ map g (map f xs)) (same x) ∙ ap (λ ys. h x ∷ ys) (mapped_same f g h same xs)

unfound : {A : Type 0} (test : A → Bool) (n : ℕ) (xs : List A) → position_from test n xs ≡ None → Each (λ x. test x ≡ false) xs
unfound test n [] e zero x at = cc
unfound test n [] e (suc k) x at = cc
unfound test n (y ∷ ys) e k x at = pass (test y) refl e (λ rest i. unfound test (n + 1) ys rest i x) k at
  where
    pass : (b : Bool) → test y ≡ b → cond b (Some n) (position_from test (n + 1) ys) ≡ None → (position_from test (n + 1) ys ≡ None → (i : ℕ) → slice_get ys i ≡ Some x → test x ≡ false) → (k : ℕ) → slice_get (y ∷ ys) k ≡ Some x → test x ≡ false
    pass true t e later k at = cc
    pass false t e later zero at = let same : y ≡ x = cc in ap test (sym same) ∙ t
    pass false t e later (suc k) at = later e k at

-- ---- truth

not_true : (b : Bool) → (b ≡ true → ⊥) → b ≡ false
not_true true h = absurd (h refl)
not_true false h = refl

not_both : (a b : Bool) → (a ≡ true → b ≡ true → ⊥) → (a && b) ≡ false
not_both true b h = not_true b (h refl)
not_both false b h = refl

both : (a b : Bool) → (a && b) ≡ true → (a ≡ true) × (b ≡ true)
both true b e = (refl, e)
both false b e = cc

turned : (a b : Bool) → (a && b) ≡ true → (b && a) ≡ true
turned true true e = refl
turned true false e = cc
turned false b e = cc

contradicts : (b : Bool) → b ≡ true → b ≡ false → ⊥
contradicts true e f = cc
contradicts false e f = cc

same_turned : (a b : Event) → same_event a b ≡ true → same_event b a ≡ true
same_turned (event.Fixed f) (event.Fixed g) e = eq-eqb (fixed_rank g) (fixed_rank f) (sym (eqb-true (fixed_rank f) (fixed_rank g) e))
same_turned (event.Fixed f) (event.Gpe n) e = cc
same_turned (event.Gpe n) (event.Fixed f) e = cc
same_turned (event.Gpe n) (event.Gpe k) e = eq-eqb k n (sym (eqb-true n k e))

-- ---- what parts and the machine that they describe have in common

same_listed : (events : List EventPart) → map (λ (e : ListedEvent). e.listed) (map listed_of events) ≡ map listed_part events
same_listed events = mapped_same listed_of (λ (e : ListedEvent). e.listed) listed_part (λ e. refl) events

same_own : (c : Option ControllerPart) → event_of_controller (option_map controller_of c) ≡ event_of c
same_own None = refl
same_own (Some c) = refl

same_queries : (c : Option ControllerPart) → queries_of_controller (option_map controller_of c) ≡ map query_of (queries_of c)
same_queries None = refl
same_queries (Some c) = refl

same_some : (c : Option ControllerPart) → is_some (option_map controller_of c) ≡ is_some c
same_some None = refl
same_some (Some c) = refl

same_counts : (p : MachineParts) → counts_in (described p) ≡ counts p
same_counts p = ap (λ (b : Bool). counted b) (same_some p.controller)
  where
    counted : Bool → Counts
    counted b = record { workers = p.workers; controller = b; devices = length p.devices; firmware = length p.firmware }

same_glk : (version : ℕ) (c : Option ControllerPart) → HasGlk version c → KeepsGlk version (option_map controller_of c)
same_glk version None h = tt
same_glk version (Some c) h = h

-- ---- the items

handler : (p : MachineParts) (of_side : Side) (ops : List Op) → ScriptKept (forbidden p) of_side (length p.fields) ops → HaveCodes ops → IsHandler (described p) of_side ops
handler p of_side ops k codes =
    let listed = sym (same_listed p.events) in
    let own = sym (same_own p.controller) in
    let fields : length p.fields ≡ length (map (field_of p.regions) p.fields) = sym (length-map p.fields (field_of p.regions)) in
    let one = subst (λ (n : ℕ). script_fault (forbids (map listed_part p.events) (event_of p.controller)) of_side n ops ≡ None) fields k.faultless in
    let two = subst (λ (l : List Listed). script_fault (forbids l (event_of p.controller)) of_side (length (map (field_of p.regions) p.fields)) ops ≡ None) listed one in
    let three = subst (λ (o : Option Event). script_fault (forbids (listed_in (described p)) o) of_side (length (map (field_of p.regions) p.fields)) ops ≡ None) own two in
    record {
      short = k.short;
      faultless = three;
      accepted = record { forbidden = forbidden p; of_side = of_side; faultless = subst (λ (n : ℕ). script_fault (forbidden p) of_side n ops ≡ None) (sym (as_many (glk (described p)) (map (field_of p.regions) p.fields))) one; short = k.short };
      codes = codes;
    }

filled : (n : ℕ) (xs : List ℕ) → length xs ≤ n → length (xs ++ replicate (n - length xs) 0) ≡ n
filled n xs fits =
    let zeros : length (replicate (n - length xs) 0) ≡ n - length xs = length-replicate (n - length xs) 0 in
    let all : length xs + (n - length xs) ≡ n = omega arith in
    length-append xs (replicate (n - length xs) 0) ∙ ap (λ k. length xs + k) zeros ∙ all

cells : (r : RegionPart) → length r.bytes ≤ r.len → length (region_of r).cells ≡ r.len
cells r fits = filled r.len r.bytes fits

region : (p : MachineParts) → RulesKept p → (k : ℕ) (r : RegionPart) → slice_get p.regions k ≡ Some r → IsRegion (described p) (region_of r)
region p h k r at =
    let i = region_kept (is_some p.controller) (take k p.regions) r (h.regions.each k r at) in
    let n = cells r i.part.given in
    record {
      some = subst (λ m. 1 ≤ m) (sym n) i.part.some;
      few = subst (λ m. m ≤ 4096) (sym n) i.part.few;
      address = λ t. n ∙ i.address t;
      owner = λ t. same_some p.controller ∙ i.owner t;
    }

field : (p : MachineParts) → RulesKept p → (k : ℕ) → (f : FieldPart) → slice_get p.fields k ≡ Some f → IsField (described p) (field_of p.regions f)
field p h k f at =
    let i = field_kept p.regions (take k p.fields) f (h.fields.each k f at) in
    let r = found p.regions f.region i.named in
    let fit = region_kept (is_some p.controller) (take f.region p.regions) r.0 (h.regions.each f.region r.0 r.1) in
    record {
      region = region_of r.0;
      named = slice_get-map region_of p.regions f.region ∙ ap (option_map region_of) r.1;
      kind = ap kind_of r.1;
      len = ap len_of r.1 ∙ sym (cells r.0 fit.part.given);
      fits = i.fits;
    }

listed : (p : MachineParts) → IsGiven p → RulesKept p → (k : ℕ) (e : EventPart) → slice_get p.events k ≡ Some e → IsListed (described p) (listed_of e)
listed p given h k e at =
    let i = event_kept (blocks p) (event_of p.controller) (forbidden p) (length p.fields) (take k p.events) e (h.events.each k e at) in
    let g = each_all IsEventPart p.events given.events k e at in
    record {
      lock = g.listed;
      own = subst (λ (o : Option Event). is_event_of e.event o ≡ false) (sym (same_own p.controller)) i.apart;
      level = g.level;
      block = i.block;
      refs = i.refs;
      script = handler p side.Os e.script i.script g.codes;
    }

query : (p : MachineParts) (c : Option ControllerPart) → HasQueries c → PartKept 255 (query_fault (forbidden p) (length p.fields)) (queries_of c) → (k : ℕ) (q : QueryPart) → slice_get (queries_of c) k ≡ Some q → IsQuery (described p) (query_of q)
query p None given h zero q at = cc
query p None given h (suc k) q at = cc
query p (Some c) given h k q at =
    let i = query_kept (forbidden p) (length p.fields) (take k c.queries) q (h.each k q at) in
    let g = each_all IsQueryPart c.queries given k q at in
    record { code = g.code; script = handler p side.Os q.script i.script g.codes }

own : (p : MachineParts) (o : Option Event) → own_event_rule (blocks p) o ≡ None → IsOwnEvent (described p) o
own p None e = tt
own p (Some n) e = isnt (is_in_block (blocks p) n) (unbroken (not (is_in_block (blocks p) n)) rule.UnknownEvent 0 e)

device : (p : MachineParts) → RulesKept p → (k : ℕ) (pulses : List Event) → slice_get p.devices k ≡ Some pulses → IsDevice (described p) pulses
device p h k pulses at =
    let l = map listed_part p.events in
    let o = event_of p.controller in
    let rows = none (device_rows l o pulses) (h.devices.each k pulses at) in
    let test : Event → Bool = λ e. not (is_known l o e) in
    let gone : position_from test 0 pulses ≡ None = sym (position_from-zero test pulses) ∙ unmapped at_pulse (unknown_pulse l o pulses) rows.1.0 in
    let known : Each (λ (e : Event). is_known l o e ≡ true) pulses = λ i e found. isnt (is_known l o e) (unfound test 0 pulses gone i e found) in
    record {
      short = few 4096 (length pulses) rule.LongList 0 rows.0;
      known = subst (λ (l : List Listed). All (λ (e : Event). is_known l (own_event (described p)) e ≡ true) pulses) (sym (same_listed p.events))
          (subst (λ (o : Option Event). All (λ (e : Event). is_known l o e ≡ true) pulses) (sym (same_own p.controller)) (all_each (λ (e : Event). is_known l o e ≡ true) pulses known));
    }

-- ---- no two alike

one_controller : (has_controller : Bool) (regions : List RegionPart) → PartKept 16 (region_fault has_controller) regions → NoTwo both_controllers (map region_of regions)
one_controller has_controller regions h =
    no_two_mapped both_controllers region_of regions (no_two (λ (x y : RegionPart). is_controllers x && is_controllers y) regions
    (λ x y. turned (is_controllers x) (is_controllers y))
    (λ j y at_j i x at_i less. not_both (is_controllers x) (is_controllers y)
    (λ s t. contradicts (list_any is_controllers (take j regions)) (any_before is_controllers regions i j x at_i s less) ((region_kept has_controller (take j regions) y (h.each j y at_j)).alone t))))

abbrev alike_parts : EventPart → EventPart → Bool
alike_parts x y = same_event x.event y.event

distinct_events : (p : MachineParts) → RulesKept p → NoTwo alike_events (map listed_of p.events)
distinct_events p h =
    no_two_mapped alike_events listed_of p.events (no_two alike_parts p.events
    (λ x y. same_turned x.event y.event)
    (λ j y at_j i x at_i less. not_true (same_event x.event y.event) (λ s.
    contradicts (list_any (λ (z : EventPart). same_event z.event y.event) (take j p.events))
    (any_before (λ (z : EventPart). same_event z.event y.event) p.events i j x at_i s less)
    (sym (any_mapped (λ (z : Listed). same_event z.event y.event) listed_part (take j p.events))
    ∙ (event_kept (blocks p) (event_of p.controller) (forbidden p) (length p.fields) (take j p.events) y (h.events.each j y at_j)).new))))

abbrev alike_handlers : QueryPart → QueryPart → Bool
alike_handlers x y = x.code == y.code

distinct_codes : (p : MachineParts) → RulesKept p → NoTwo alike_codes (map query_of (queries_of p.controller))
distinct_codes p h =
    let qs = queries_of p.controller in
    no_two_mapped alike_codes query_of qs (no_two alike_handlers qs
    (λ x y s. eq-eqb y.code x.code (sym (eqb-true x.code y.code s)))
    (λ j y at_j i x at_i less. not_true (x.code == y.code) (λ s.
    contradicts (list_any (λ (z : QueryPart). z.code == y.code) (take j qs))
    (any_before (λ (z : QueryPart). z.code == y.code) qs i j x at_i s less)
    (query_kept (forbidden p) (length p.fields) (take j qs) y (h.queries.each j y at_j)).new)))

-- ---- the machine

shorter : {A B : Type 0} (f : A → B) (xs : List A) (n : ℕ) → length xs ≤ n → length (map f xs) ≤ n
shorter f xs n less = subst (λ m. m ≤ n) (sym (length-map xs f)) less

of_parts : (p : MachineParts) → IsGiven p → RulesKept p → IsMachine (described p)
of_parts p given h = record {
  version = given.version;
  glk = same_glk p.version p.controller given.glk;
  geometry = h.geometry;
  few_gpes = h.few_gpes;
  some_workers = h.some_workers;
  few_workers = h.few_workers;
  few_regions = shorter region_of p.regions 16 h.regions.few_items;
  regions = all_each (IsRegion (described p)) (map region_of p.regions) (each_mapped (IsRegion (described p)) region_of p.regions (region p h));
  one_controller = one_controller (is_some p.controller) p.regions h.regions;
  few_fields = shorter (field_of p.regions) p.fields 256 h.fields.few_items;
  fields = all_each (IsField (described p)) (map (field_of p.regions) p.fields) (each_mapped (IsField (described p)) (field_of p.regions) p.fields (field p h));
  few_events = shorter listed_of p.events (most_events p.version) h.events.few_items;
  events = all_each (IsListed (described p)) (map listed_of p.events) (each_mapped (IsListed (described p)) listed_of p.events (listed p given h));
  distinct_events = distinct_events p h;
  own = subst (IsOwnEvent (described p)) (sym (same_own p.controller)) (own p (event_of p.controller) h.own);
  few_queries = subst (λ (qs : List Query). length qs ≤ 255) (sym (same_queries p.controller)) (shorter query_of (queries_of p.controller) 255 h.queries.few_items);
  queries = subst (λ (qs : List Query). All (IsQuery (described p)) qs) (sym (same_queries p.controller)) (all_each (IsQuery (described p)) (map query_of (queries_of p.controller)) (each_mapped (IsQuery (described p)) query_of (queries_of p.controller) (query p p.controller given.queries h.queries)));
  distinct_codes = subst (λ (qs : List Query). NoTwo alike_codes qs) (sym (same_queries p.controller)) (distinct_codes p h);
  few_firmware = h.firmware.few_items;
  firmware = all_each (IsHandler (described p) side.Firmware) p.firmware (λ k ops at. handler p side.Firmware ops (script_kept (forbidden p) side.Firmware (length p.fields) ops (h.firmware.each k ops at)) (each_all HaveCodes p.firmware given.firmware k ops at));
  few_devices = h.devices.few_items;
  devices = all_each (IsDevice (described p)) p.devices (device p h);
  short_schedule = h.schedule.few_items;
  schedule = all_each (λ (a : Actor). has_actor (counts_in (described p)) a ≡ true) p.schedule (λ k a at. subst (λ (n : Counts). has_actor n a ≡ true) (sym (same_counts p)) (isnt (has_actor (counts p) a) (unbroken (not (has_actor (counts p) a)) rule.UnknownActor 0 (h.schedule.each k a at))));
}

pub ruled : (m : MachineData) → IsDescribed m → IsMachine m
ruled m d = subst IsMachine d.same (of_parts d.parts d.given (kept d.parts d.kept))
