-- What the counts need of a machine, from the rules of its description.
use Rattle.std.proofs.Common.{ℕ, zero, suc, ◌+◌, ◌≤◌, ◌≡◌, Bool, true, false, cond, not, ◌&&◌, ◌||◌, nat_eq, List, [], ◌∷◌, length, count_by, Option, Some, None, is_some, slice_get, unwrap_or, if◌then◌else◌, refl, sym, ap, ◌∙◌, subst, arith}
use Rattle.std.specs.List.{list_any}
use Rattle.std.proofs.lemmas.Bool.{and_parts, false_from_ne_true, not-false, not-true, or_right}
use Rattle.acpi_regs.specs.declared.actor.Actor.{Actor}
use Rattle.acpi_regs.specs.declared.actor.Actor.TheVariants as actor
use Rattle.acpi_regs.specs.declared.actor.Side.{Side}
use Rattle.acpi_regs.specs.declared.actor.Side.TheVariants as side
use Rattle.acpi_regs.specs.declared.entry.Request.TheVariants as request
use Rattle.acpi_regs.specs.declared.event.Event.{Event}
use Rattle.acpi_regs.specs.declared.event.Event.TheVariants as event
use Rattle.acpi_regs.specs.declared.event.Listed.{Listed}
use Rattle.acpi_regs.specs.Event.{gbl, is_gbl, same_event}
use Rattle.event_chip.specs.declared.state.EventKind.TheVariants as kind
use Rattle.event_chip.specs.Chip.{always, is_controllers, listing, no_slot, slot_or}
use Rattle.event_chip.specs.State as state
use Rattle.handler_script.specs.declared.act.Act.{Act}
use Rattle.handler_script.specs.declared.act.Act.TheVariants as act
use Rattle.handler_script.specs.declared.fault.ScriptFault.{ScriptFault}
use Rattle.handler_script.specs.declared.fault.ScriptFault.TheVariants as fault
use Rattle.handler_script.specs.declared.op.Op.{Op}
use Rattle.handler_script.specs.declared.op.Op.TheVariants as op
use Rattle.handler_script.specs.Accepts.{Accepted, faults_from, first_of, is_allowed, is_balanced, is_known as is_named, is_sound_skip, open_after, script_fault}
use Rattle.handler_script.specs.Costs.{Costs, IsUniform, ops_cost}
use Rattle.handler_script.specs.Plan.{plan, query_plan}
use Rattle.handler_script.proofs.Costs.{costs, more}
use Rattle.machine_desc.specs.declared.machine.ListedEvent.{ListedEvent}
use Rattle.machine_desc.specs.declared.machine.Query.{Query}
use Rattle.machine_desc.specs.declared.tally.Tally.{Tally}
use Rattle.machine_desc.specs.declared.tally.Tally.TheVariants as tally
use Rattle.machine_desc.specs.Kept.{IsDevice, IsHandler, IsListed, IsMachine, IsOwnEvent, IsQuery, blocks_in, listed_in, own_event, queries_in}
use Rattle.machine_desc.specs.Machine.{MachineData, act_fields, glk}
use Rattle.machine_desc.specs.Rules.{forbids, is_event_of, is_in_block, is_known, is_level, is_listed}
use Rattle.machine_desc.specs.Weight.{calls_of, counted, in_devices, in_firmware, in_script, one_if, runs_of}
use Rattle.machine_desc.proofs.EachItem.{Each, any_mapped, each_all}
use Rattle.machine_history.specs.declared.parts.Job.{Job}
use Rattle.machine_history.specs.declared.parts.Job.TheVariants as job
use Rattle.machine_history.specs.Machine.{code_script, event_script, is_own, lists, names, pulses_of, query_in, script_in, times}
use Rattle.machine_history.specs.Scripts.{script_of}
use Rattle.machine_history.proofs.Actors.{upto}
use Rattle.machine_history.proofs.Known.{same_event-self, same_event-swap, same_event-true}
use Rattle.machine_history.proofs.Paying.{FirstsCost, JobsCost}
use Rattle.machine_history.proofs.Queries.{IsOwn}
use Rattle.machine_history.proofs.ScriptPrices.{sums-same}
use Rattle.machine_history.proofs.Totals.{one, sum_of}

-- ---- sums over items that a property holds of

pub sum-each : {X : Type 0} (P : X → Type 0) (f g : X → ℕ) (xs : List X) → Each P xs → ((x : X) → P x → f x ≤ g x) → sum_of f xs ≤ sum_of g xs
sum-each P f g [] each less = omega arith
sum-each P f g (x ∷ xs) each less =
    let one = less x (each zero x refl) in
    let rest = sum-each P f g xs (λ k y at. each (suc k) y at) less in
    omega arith

pub sum-all : {X : Type 0} (f g : X → ℕ) (xs : List X) → ((x : X) → f x ≤ g x) → sum_of f xs ≤ sum_of g xs
sum-all f g [] less = omega arith
sum-all f g (x ∷ xs) less = let one = less x in let rest = sum-all f g xs less in omega arith

pub sum-zero : {X : Type 0} (xs : List X) → sum_of (λ x. 0) xs ≡ 0
sum-zero [] = refl
sum-zero (x ∷ xs) = let rest = sum-zero xs in omega arith

pub sum-same : {X : Type 0} (f g : X → ℕ) (xs : List X) → ((x : X) → f x ≡ g x) → sum_of f xs ≡ sum_of g xs
sum-same f g [] same = refl
sum-same f g (x ∷ xs) same = let one = same x in let rest = sum-same f g xs same in omega arith

-- ---- a faultless script does nothing that is forbidden

abbrev pub verdict : Bool → Bool → Bool → Bool → ℕ → Option ScriptFault
verdict a k s b i = if a then (if k then (if s then (if b then None else Some (fault.Unbalanced i)) else Some (fault.BadSkip i)) else Some (fault.UnknownField i)) else Some (fault.NotAllowed i)

pub passes : (a k s b : Bool) (i : ℕ) (later : Option ScriptFault) → first_of (verdict a k s b i) later ≡ None → (a ≡ true) × (later ≡ None)
passes true true true true i later e = (refl, e)
passes true true true false i later e = cc
passes true true false b i later e = cc
passes true false s b i later e = cc
passes false k s b i later e = cc

pub ops_less : (f g : Op → ℕ) (forbidden : Op → Bool) (of_side : Side) (count : ℕ) → ((o : Op) → forbidden o ≡ false → f o ≤ g o) → (hold : Option ℕ) (i : ℕ) (ops : List Op) → faults_from forbidden of_side count hold i ops ≡ None → sum_of f ops ≤ sum_of g ops
ops_less f g forbidden of_side count less hold i [] none = omega arith
ops_less f g forbidden of_side count less hold i (o ∷ ops) none =
    let p = passes (is_allowed of_side o && not (forbidden o)) (is_named count o) (is_sound_skip o ops) (is_balanced (is_some hold) o) i (faults_from forbidden of_side count (open_after i o hold) (i + 1) ops) none in
    let one = less o (not-true (forbidden o) (and_parts (is_allowed of_side o) (not (forbidden o)) p.0).1) in
    let rest = ops_less f g forbidden of_side count less (open_after i o hold) (i + 1) ops p.1 in
    omega arith

-- a count over a script, where it holds of each operation that is not forbidden
pub script_less : (m : MachineData) (f g : Op → ℕ) → ((o : Op) → forbids (listed_in m) (own_event m) o ≡ false → f o ≤ g o) → (of_side : Side) (ops : List Op) → IsHandler m of_side ops → sum_of f ops ≤ sum_of g ops
unfolding script_fault
script_less m f g less of_side ops handler = ops_less f g (forbids (listed_in m) (own_event m)) of_side (length m.fields) less None 0 ops handler.faultless

-- ---- the sums of the weight, written plainly

pub in_script-is : (what : Tally) (ops : List Op) → in_script what ops ≡ sum_of (counted what) ops
unfolding in_script
in_script-is what ops = sums-same (counted what) ops

pub in_firmware-is : (what : Tally) (firmware : List (List Op)) → in_firmware what firmware ≡ sum_of (in_script what) firmware
unfolding in_firmware
in_firmware-is what firmware = sums-same (in_script what) firmware

pub in_devices-is : (n : Event) (devices : List (List Event)) → in_devices n devices ≡ sum_of (λ pulses. count_by (same_event n) pulses) devices
unfolding in_devices
in_devices-is n devices = sums-same (count_by (same_event n)) devices

pub counted-is : (n : Event) (pulses : List Event) → count_by (same_event n) pulses ≡ sum_of (λ x. one (same_event n x)) pulses
counted-is n pulses = sums-same (λ x. cond (same_event n x) 1 0) pulses

pub times-is : (n : Event) (pulses : List Event) → times n pulses ≡ sum_of (λ x. one (same_event n x)) pulses
times-is n [] = refl
times-is n (x ∷ pulses) = let rest = times-is n pulses in let swap : one (same_event x n) ≡ one (same_event n x) = ap one (same_event-swap x n) in omega arith

pub pulses-is : (m : MachineData) (n : Event) → pulses_of m n ≡ in_devices n m.devices
pulses-is m n = sums-same (times n) m.devices ∙ (sum-same (times n) (λ pulses. count_by (same_event n) pulses) m.devices (λ pulses. times-is n pulses ∙ sym (counted-is n pulses)) ∙ sym (in_devices-is n m.devices))

pub firmware_less : (m : MachineData) → IsMachine m → (what that : Tally) → ((o : Op) → forbids (listed_in m) (own_event m) o ≡ false → counted what o ≤ counted that o) → in_firmware what m.firmware ≤ in_firmware that m.firmware
firmware_less m ok what that less =
    let left = in_firmware-is what m.firmware in
    let right = in_firmware-is that m.firmware in
    let all = sum-each (IsHandler m side.Firmware) (in_script what) (in_script that) m.firmware (each_all (IsHandler m side.Firmware) m.firmware ok.firmware)
    (λ ops handler. (let one = script_less m (counted what) (counted that) less side.Firmware ops handler in let l = in_script-is what ops in let r = in_script-is that ops in omega arith)) in
    omega arith

pub firmware_none : (m : MachineData) → IsMachine m → (what : Tally) → ((o : Op) → forbids (listed_in m) (own_event m) o ≡ false → counted what o ≤ 0) → in_firmware what m.firmware ≡ 0
firmware_none m ok what less =
    let left = in_firmware-is what m.firmware in
    let none = sum-zero m.firmware in
    let all = sum-each (IsHandler m side.Firmware) (in_script what) (λ ops. 0) m.firmware (each_all (IsHandler m side.Firmware) m.firmware ok.firmware)
    (λ ops handler. (let one = script_less m (counted what) (λ o. 0) less side.Firmware ops handler in let l = in_script-is what ops in let r = sum-zero ops in omega arith)) in
    omega arith

-- ---- events that scripts name

-- where one event is not the other
pub apart : (n x : Event) → (n ≡ x → ⊥) → one_if (same_event n x) ≡ 0
apart n x other = ap one_if (false_from_ne_true (same_event n x) (λ same. other (same_event-true n x same)))

pub level_is_listed : (items : List Listed) (n : Event) → is_level items n ≡ true → is_listed items n ≡ true
level_is_listed [] n is = cc
level_is_listed (l ∷ items) n is = at (same_event l.event n) l.level (level_is_listed items n) is
  where
    at : (s v : Bool) → (is_level items n ≡ true → is_listed items n ≡ true) → (s && v || is_level items n) ≡ true → (s || is_listed items n) ≡ true
    at true v rest is = refl
    at false v rest is = rest is

pub raise_known : (listed : List Listed) (own : Option Event) (x : Event) → forbids listed own (op.Raise x) ≡ false → is_known listed own x ≡ true
unfolding forbids
raise_known listed own x may = not-false (is_known listed own x) may

pub assert_listed : (listed : List Listed) (own : Option Event) (x : Event) → forbids listed own (op.Assert x) ≡ false → is_listed listed x ≡ true
unfolding forbids
assert_listed listed own x may = level_is_listed listed x (not-false (is_level listed x) may)

pub listed_known : (listed : List Listed) (own : Option Event) (x : Event) → is_listed listed x ≡ true → is_known listed own x ≡ true
listed_known listed own x is = or_right (is_gbl x || is_event_of x own) (is_listed listed x) is

pub differ : (test : Event → Bool) (n x : Event) → test n ≡ false → test x ≡ true → n ≡ x → ⊥
differ test n x no_n is_x same = let both = ap test same in cc

pub unknown_op : (listed : List Listed) (own : Option Event) (n : Event) → is_known listed own n ≡ false → (o : Op) → forbids listed own o ≡ false → counted (tally.Runs n) o ≤ 0
unknown_op listed own n unknown (op.Raise x) may = let none = apart n x (differ (is_known listed own) n x unknown (raise_known listed own x may)) in omega arith
unknown_op listed own n unknown (op.Assert x) may = let none = apart n x (differ (is_known listed own) n x unknown (listed_known listed own x (assert_listed listed own x may))) in omega arith
unknown_op listed own n unknown _ may = omega arith

pub unlisted_op : (listed : List Listed) (own : Option Event) (n : Event) → is_listed listed n ≡ false → (o : Op) → forbids listed own o ≡ false → counted (tally.Runs n) o ≤ counted (tally.Raises n) o
unlisted_op listed own n unlisted (op.Raise x) may = omega arith
unlisted_op listed own n unlisted (op.Assert x) may = let none = apart n x (differ (is_listed listed) n x unlisted (assert_listed listed own x may)) in omega arith
unlisted_op listed own n unlisted _ may = omega arith

-- an event that is not listed is not asserted
pub unlisted_runs : (m : MachineData) (n : Event) → IsMachine m → is_listed (listed_in m) n ≡ false → runs_of m n ≤ calls_of m n
unlisted_runs m n ok unlisted = let less = firmware_less m ok (tally.Runs n) (tally.Raises n) (unlisted_op (listed_in m) (own_event m) n unlisted) in omega arith

pub unknown_pulses : (m : MachineData) (n : Event) → is_known (listed_in m) (own_event m) n ≡ false → (pulses : List Event) → IsDevice m pulses → count_by (same_event n) pulses ≡ 0
unknown_pulses m n unknown pulses device =
    let is = counted-is n pulses in
    let zero_sum = sum-zero pulses in
    let none = sum-each (λ e. is_known (listed_in m) (own_event m) e ≡ true) (λ x. one (same_event n x)) (λ x. 0) pulses (each_all (λ e. is_known (listed_in m) (own_event m) e ≡ true) pulses device.known)
    (λ x known. (let zero_one = apart n x (differ (is_known (listed_in m) (own_event m)) n x unknown known) in omega arith)) in
    omega arith

-- an event that the machine does not know is never raised
pub unknown_runs : (m : MachineData) (n : Event) → IsMachine m → is_known (listed_in m) (own_event m) n ≡ false → runs_of m n ≡ 0
unknown_runs m n ok unknown =
    let scripts = firmware_none m ok (tally.Runs n) (unknown_op (listed_in m) (own_event m) n unknown) in
    let devices = in_devices-is n m.devices in
    let zero_sum = sum-zero m.devices in
    let pulses = sum-each (IsDevice m) (λ list. count_by (same_event n) list) (λ list. 0) m.devices (each_all (IsDevice m) m.devices ok.devices) (λ list device. (let none = unknown_pulses m n unknown list device in omega arith)) in
    omega arith

-- ---- the controller's event and the lock's

pub in_block_gbl : (m : MachineData) (n : Event) → is_in_block (blocks_in m) n ≡ true → same_event gbl n ≡ false
in_block_gbl m (event.Fixed f) is = cc
in_block_gbl m (event.Gpe k) is = refl

pub always_kind : (b c : Bool) (l : Option Listed) → c ≡ true → (if b || c then always else slot_or l no_slot).kind ≡ kind.Always
always_kind true c l is = refl
always_kind false c l is = rw is refl

pub own_is : (m : MachineData) (n : Event) → IsMachine m → own_event m ≡ Some n → IsOwn m n
own_is m n ok named =
    let is : is_controllers (own_event m) n ≡ true = rw named (same_event-self n) in
    let kind_is = always_kind (is_gbl n) (is_controllers (own_event m) n) (listing (listed_in m) n) is in
    record {
      named = named;
      unlisted = ap state.is_listed kind_is;
      edge = ap state.is_level kind_is;
      not_gbl = in_block_gbl m n (subst (IsOwnEvent m) named ok.own);
    }

pub own_not_gbl : (m : MachineData) → IsMachine m → is_own m gbl ≡ false
own_not_gbl m ok = at (own_event m) ok.own
  where
    at : (o : Option Event) → IsOwnEvent m o → names o gbl ≡ false
    at None own = refl
    at (Some n) own = same_event-swap n gbl ∙ in_block_gbl m n own

-- ---- listed events

pub listed_each : (m : MachineData) → IsMachine m → Each (IsListed m) m.events
listed_each m ok = each_all (IsListed m) m.events ok.events

pub none_listed : (m : MachineData) (n : Event) (ls : List ListedEvent) → Each (IsListed m) ls → ((l : ListedEvent) → IsListed m l → same_event l.listed.event n ≡ false) → list_any (λ l. same_event l.listed.event n) ls ≡ false
none_listed m n [] each other = refl
none_listed m n (l ∷ ls) each other = rw (other l (each zero l refl)) (none_listed m n ls (λ k x at. each (suc k) x at) other)

pub gbl_unlisted : (m : MachineData) → IsMachine m → is_listed (listed_in m) gbl ≡ false
gbl_unlisted m ok = any_mapped (λ (x : Listed). same_event x.event gbl) (λ l. l.listed) m.events ∙ none_listed m gbl m.events (listed_each m ok) (λ l kept. kept.lock)

pub own_unlisted : (m : MachineData) (n : Event) → IsMachine m → own_event m ≡ Some n → is_listed (listed_in m) n ≡ false
own_unlisted m n ok named =
    any_mapped (λ (x : Listed). same_event x.event n) (λ l. l.listed) m.events
    ∙ none_listed m n m.events (listed_each m ok) (λ l kept. same_event-swap l.listed.event n ∙ subst (λ o. is_event_of l.listed.event o ≡ false) named kept.own)

-- no listed event is the controller's or the lock's
pub listed_own : (m : MachineData) (l : ListedEvent) → IsListed m l → is_own m l.listed.event ≡ false
listed_own m l kept = at (own_event m) kept.own
  where
    at : (o : Option Event) → is_event_of l.listed.event o ≡ false → names o l.listed.event ≡ false
    at None own = refl
    at (Some n) own = own

pub listing-any : (items : List Listed) (n : Event) → state.is_listed (slot_or (listing items n) no_slot).kind ≡ is_listed items n
listing-any [] n = refl
listing-any (l ∷ items) n = at (same_event l.event n) (listing-any items n)
  where
    listed_kind : (level : Bool) → state.is_listed (if level then kind.Level else kind.Edge) ≡ true
    listed_kind true = refl
    listed_kind false = refl

    at : (b : Bool) → state.is_listed (slot_or (listing items n) no_slot).kind ≡ is_listed items n → state.is_listed (slot_or (if b then Some l else listing items n) no_slot).kind ≡ (b || is_listed items n)
    at true rest = listed_kind l.level
    at false rest = rest

abbrev pub kind_at : Bool → Option Listed → Bool
kind_at b l = state.is_listed (if b then always else slot_or l no_slot).kind

-- an event that the machine lists stands in its list
pub lists_any : (m : MachineData) (n : Event) → lists m n ≡ true → list_any (λ l. same_event l.listed.event n) m.events ≡ true
lists_any m n is =
    sym (any_mapped (λ (x : Listed). same_event x.event n) (λ l. l.listed) m.events) ∙ (sym (listing-any (listed_in m) n) ∙ at (is_gbl n || is_controllers (own_event m) n) is)
  where
    at : (b : Bool) → kind_at b (listing (listed_in m) n) ≡ true → state.is_listed (slot_or (listing (listed_in m) n) no_slot).kind ≡ true
    at true is = cc
    at false is = is

-- an event that is not listed, nor the lock's or the controller's, is not known
pub unlisted_unknown : (m : MachineData) (n : Event) → lists m n ≡ false → is_gbl n ≡ false → is_own m n ≡ false → is_known (listed_in m) (own_event m) n ≡ false
unlisted_unknown m n unlisted not_gbl not_own =
    let control = controls (own_event m) not_own in
    let own = own_of (own_event m) not_own in
    let none = sym (listing-any (listed_in m) n) ∙ at (is_gbl n) (is_controllers (own_event m) n) not_gbl control unlisted in
    rw (not_gbl, own, none) refl
  where
    controls : (o : Option Event) → names o n ≡ false → is_controllers o n ≡ false
    controls None other = refl
    controls (Some x) other = other

    own_of : (o : Option Event) → names o n ≡ false → is_event_of n o ≡ false
    own_of None other = refl
    own_of (Some x) other = other

    at : (b c : Bool) → b ≡ false → c ≡ false → kind_at (b || c) (listing (listed_in m) n) ≡ false → state.is_listed (slot_or (listing (listed_in m) n) no_slot).kind ≡ false
    at b c not_b not_c is = rw (not_b, not_c) at is

-- ---- what plans cost

-- what scripts are worth at a price: no less than their operations cost
pub record Covers (m : MachineData) (f : Act → ℕ) (c : List Op → ℕ) : Type 0 where
  pub uniform : IsUniform f
  pub within : (ops : List Op) → ops_cost f (act_fields m) false ops ≤ c ops
  pub empty : c [] ≡ 0

pub script_costs : (m : MachineData) (f : Act → ℕ) (c : List Op → ℕ) → Covers m f c → (ops : List Op) → Accepted (act_fields m) ops → Costs f (plan (act_fields m) ops) (c ops)
script_costs m f c covers ops accepted = more f (plan (act_fields m) ops) (ops_cost f (act_fields m) false ops) (c ops) (covers.within ops) (costs f (act_fields m) ops covers.uniform accepted)

pub event_costs : (m : MachineData) (f : Act → ℕ) (c : List Op → ℕ) → Covers m f c → (n : Event) (ls : List ListedEvent) → Each (IsListed m) ls → Costs f (plan (act_fields m) (script_in ls n)) (c (script_in ls n))
event_costs m f c covers n [] each = tt
event_costs m f c covers n (l ∷ ls) each = at (same_event l.listed.event n) (event_costs m f c covers n ls (λ k x at. each (suc k) x at))
  where
    at : (b : Bool) → Costs f (plan (act_fields m) (script_in ls n)) (c (script_in ls n)) → Costs f (plan (act_fields m) (if b then l.script else script_in ls n)) (c (if b then l.script else script_in ls n))
    at true rest = script_costs m f c covers l.script (each zero l refl).script.accepted
    at false rest = rest

pub query_costs : (m : MachineData) (f : Act → ℕ) (c : List Op → ℕ) → Covers m f c → (q : ℕ) (queries : List Query) → Each (IsQuery m) queries → Costs f (plan (act_fields m) (query_in queries q)) (c (query_in queries q))
query_costs m f c covers q [] each = tt
query_costs m f c covers q (h ∷ queries) each = at (nat_eq h.code q) (query_costs m f c covers q queries (λ k x at. each (suc k) x at))
  where
    at : (b : Bool) → Costs f (plan (act_fields m) (query_in queries q)) (c (query_in queries q)) → Costs f (plan (act_fields m) (if b then h.script else query_in queries q)) (c (if b then h.script else query_in queries q))
    at true rest = script_costs m f c covers h.script (each zero h refl).script.accepted
    at false rest = rest

-- what a query job costs
abbrev pub query_price : (Act → ℕ) → ℕ
query_price f = f act.Lock + (f (act.Ask request.Qr) + (f act.Unlock + 0))

-- a query that takes no lock costs less
pub asking_costs : (f : Act → ℕ) (needs : Bool) → Costs f (query_plan needs) (query_price f)
asking_costs f false = (0, omega arith, λ byte. tt)
asking_costs f true = (f (act.Ask request.Qr) + (f act.Unlock + 0), omega arith, λ byte. (f act.Unlock + 0, omega arith, λ byte. (0, omega arith, λ byte. tt)))

-- what a job is worth
abbrev pub job_worth : (List Op → ℕ) → ℕ → MachineData → Option Job → ℕ
job_worth c q m None = 0
job_worth c q m (Some (job.Event n)) = c (event_script m n)
job_worth c q m (Some job.Query) = q
job_worth c q m (Some (job.Code k)) = c (code_script m k)

pub jobs_cost : (m : MachineData) (f : Act → ℕ) (c : List Op → ℕ) → IsMachine m → Covers m f c → JobsCost f m (job_worth c (query_price f) m)
jobs_cost m f c ok covers None = tt
jobs_cost m f c ok covers (Some (job.Event n)) = event_costs m f c covers n m.events (listed_each m ok)
jobs_cost m f c ok covers (Some job.Query) = asking_costs f (glk m)
jobs_cost m f c ok covers (Some (job.Code k)) = query_costs m f c covers k (queries_in m) (each_all (IsQuery m) (queries_in m) ok.queries)

-- what an actor has before it at the start
abbrev pub first_worth : (List Op → ℕ) → MachineData → Actor → ℕ
first_worth c m (actor.Firmware k) = c (script_of m k)
first_worth c m _ = 0

pub found_costs : (m : MachineData) (f : Act → ℕ) (c : List Op → ℕ) → Covers m f c → (found : Option (List Op)) → ((ops : List Op) → found ≡ Some ops → IsHandler m side.Firmware ops) → Costs f (plan (act_fields m) (unwrap_or found [])) (c (unwrap_or found []))
found_costs m f c covers None each = tt
found_costs m f c covers (Some ops) each = script_costs m f c covers ops (each ops refl).accepted

pub firsts_cost : (m : MachineData) (f : Act → ℕ) (c : List Op → ℕ) → IsMachine m → Covers m f c → FirstsCost f m (first_worth c m)
firsts_cost m f c ok covers actor.Int = tt
firsts_cost m f c ok covers actor.Poll = tt
firsts_cost m f c ok covers (actor.Worker k) = tt
firsts_cost m f c ok covers actor.Ec = tt
firsts_cost m f c ok covers (actor.Device k) = tt
firsts_cost m f c ok covers (actor.Firmware k) = found_costs m f c covers (slice_get m.firmware k) (λ ops is. each_all (IsHandler m side.Firmware) m.firmware ok.firmware k ops is)

-- ---- sums over the firmware

pub shift : (g : ℕ → ℕ) (n : ℕ) → upto g (suc n) ≡ g 0 + upto (λ k. g (suc k)) n
shift g zero = refl
shift g (suc n) = let rest = shift g n in omega arith

pub upto-sum : (f : List Op → ℕ) (lists : List (List Op)) → upto (λ k. f (unwrap_or (slice_get lists k) [])) (length lists) ≡ sum_of f lists
upto-sum f [] = refl
upto-sum f (x ∷ lists) = let rest = upto-sum f lists in let first = shift (λ k. f (unwrap_or (slice_get (x ∷ lists) k) [])) (length lists) in omega arith
