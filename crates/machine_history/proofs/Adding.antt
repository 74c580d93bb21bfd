-- Parts of the sum: classes of entries, latches, listed events, what jobs are worth, handlers of pushed codes.
use Rattle.std.proofs.Common.{ℕ, ◌+◌, ◌*◌, ◌≤◌, ◌≡◌, ◌==◌, ◌⊎◌, inl, inr, Bool, true, false, not, ◌&&◌, ◌||◌, List, [], ◌∷◌, ◌++◌, length, sum_by, Option, Some, None, if◌then◌else◌, refl, sym, ap, ◌∙◌, arith, add-mul}
use Rattle.std.specs.List.{list_any}
use Rattle.std.proofs.lemmas.List.{length-append}
use Rattle.acpi_regs.specs.declared.actor.Actor.{Actor}
use Rattle.acpi_regs.specs.declared.actor.Actor.TheVariants as actor
use Rattle.acpi_regs.specs.declared.entry.Deed.{Deed}
use Rattle.acpi_regs.specs.declared.entry.Deed.TheVariants as deed
use Rattle.acpi_regs.specs.declared.entry.Entry.{Entry}
use Rattle.acpi_regs.specs.declared.event.Event.{Event}
use Rattle.acpi_regs.specs.Event.{same_event}
use Rattle.handler_script.specs.declared.act.Act.{Act}
use Rattle.handler_script.specs.declared.op.Op.{Op}
use Rattle.handler_script.specs.declared.op.Op.TheVariants as op
use Rattle.machine_desc.specs.declared.machine.ListedEvent.{ListedEvent}
use Rattle.machine_desc.specs.declared.machine.Query.{Query}
use Rattle.machine_desc.specs.declared.tally.Tally.TheVariants as tally
use Rattle.machine_desc.specs.Kept.{IsMachine}
use Rattle.machine_desc.specs.Machine.{MachineData}
use Rattle.machine_desc.specs.Weight.{counted, in_firmware, in_script, one_if}
use Rattle.machine_history.specs.declared.parts.Job.{Job}
use Rattle.machine_history.specs.declared.parts.Job.TheVariants as job
use Rattle.machine_history.specs.Jobs.{claimed_job, is_empty, taken_job}
use Rattle.machine_history.specs.Legal.{Allowed, LegalPast, is_firmware, is_worker, runs_scripts}
use Rattle.machine_history.specs.Machine.{code_script, is_own, lists, query_in, script_in, times}
use Rattle.machine_history.specs.Scripts.{script_of}
use Rattle.machine_history.specs.Wire.{Open, asks_code, codes, open_of}
use Rattle.machine_history.proofs.Actors.{ByFirmware, ByScripts, over, over-le, over-plus, over_within, upto-le, upto-zero, within_firmware, within_over}
use Rattle.machine_history.proofs.Claims.{few_latches, latch_in, takes}
use Rattle.machine_history.proofs.Codes.{code_jobs_in, code_price}
use Rattle.machine_history.proofs.JobCounts.{firmware_starts, is_finish, is_start, made_in, made_worth}
use Rattle.machine_history.proofs.Known.{hold, same_event-self, same_event-swap, same_event-true}
use Rattle.machine_history.proofs.Locking.{by_firmware}
use Rattle.machine_history.proofs.Machines.{Covers, first_worth, firsts_cost, in_firmware-is, in_script-is, job_worth, jobs_cost, lists_any, query_price, sum-same, upto-sum}
use Rattle.machine_history.proofs.Paying.{few_paid, started}
use Rattle.machine_history.proofs.Prices.{charge, charged, entries_price, lifts, pushes_price}
use Rattle.machine_history.proofs.Queries.{is_query_job, queries_in}
use Rattle.machine_history.proofs.ScriptPrices.{push_of, sums-same}
use Rattle.machine_history.proofs.Stages.{is_episode, is_seek, is_woken}
use Rattle.machine_history.proofs.Totals.{Count, by_deed, one, own, sum_of, total, total-le_all, total-plus, total-scale}
use Rattle.machine_history.proofs.Wires.{begins_price, is_wire, request_entries}

-- ---- classes of entries

abbrev pub latch_of : Deed → ℕ
latch_of (deed.Latch n) = 1
latch_of _ = 0

abbrev pub claim_of : Deed → ℕ
claim_of (deed.Claim n) = 1
claim_of _ = 0

pub class : (d : Deed) → 1 + (8 * is_seek d + begins_price request_entries d) ≡ charge entries_price d + (is_seek d + (is_episode d + (is_woken d + (is_wire d + (latch_of d + (claim_of d + (is_start d + is_finish d)))))))
class deed.Seek = refl
class deed.Busy = refl
class deed.Woken = refl
class deed.Own = refl
class deed.Disown = refl
class (deed.Leave s) = refl
class (deed.Begin r) = omega arith
class _ = refl

pub classes : (past : List Entry) → length past + (8 * total (by_deed is_seek) past + total (by_deed (begins_price request_entries)) past)
    ≡ total (charged entries_price) past + (total (by_deed is_seek) past + (total (by_deed is_episode) past + (total (by_deed is_woken) past + (total (by_deed is_wire) past + (total (by_deed latch_of) past + (total (by_deed claim_of) past + (total (by_deed is_start) past + total (by_deed is_finish) past)))))))
classes [] = refl
classes (e ∷ past) = let rest = classes past in let one_more = class e.deed in omega arith

-- ---- latches

abbrev pub latched_by : Deed → List Event → List Event
latched_by (deed.Latch n) old = n ∷ old
latched_by _ old = old

abbrev pub latched : List Entry → List Event
latched [] = []
latched (e ∷ past) = latched_by e.deed (latched past)

pub latched-length : (past : List Entry) → length (latched past) ≡ total (by_deed latch_of) past
latched-length [] = refl
latched-length (e ∷ past) = at e.deed (latched-length past)
  where
    at : (d : Deed) → length (latched past) ≡ total (by_deed latch_of) past → length (latched_by d (latched past)) ≡ latch_of d + total (by_deed latch_of) past
    at (deed.Latch n) rest = omega arith
    at _ rest = omega arith

pub latched-times : (n : Event) (past : List Entry) → times n (latched past) ≡ total (by_deed (latch_in n)) past
latched-times n [] = refl
latched-times n (e ∷ past) = at e.deed (latched-times n past)
  where
    at : (d : Deed) → times n (latched past) ≡ total (by_deed (latch_in n)) past → times n (latched_by d (latched past)) ≡ latch_in n d + total (by_deed (latch_in n)) past
    at (deed.Latch x) rest = omega arith
    at _ rest = omega arith

abbrev pub all_pulses : List (List Event) → List Event
all_pulses [] = []
all_pulses (list ∷ lists) = list ++ all_pulses lists

pub times-append : (n : Event) (xs ys : List Event) → times n (xs ++ ys) ≡ times n xs + times n ys
times-append n [] ys = omega arith
times-append n (x ∷ xs) ys = let rest = times-append n xs ys in omega arith

pub pulses-times : (n : Event) (lists : List (List Event)) → times n (all_pulses lists) ≡ sum_of (times n) lists
pulses-times n [] = refl
pulses-times n (list ∷ lists) = let rest = pulses-times n lists in let first = times-append n list (all_pulses lists) in omega arith

pub pulses-length : (lists : List (List Event)) → length (all_pulses lists) ≡ sum_of length lists
pulses-length [] = refl
pulses-length (list ∷ lists) = let rest = pulses-length lists in let first = length-append list (all_pulses lists) in omega arith

-- one of an event is taken away
abbrev pub Without : Event → List Event → Type 0
Without x ys = (zs : List Event) × (length ys ≡ 1 + length zs) × ((n : Event) → times n ys ≡ one (same_event x n) + times n zs)

pub without : (x : Event) (ys : List Event) → 1 ≤ times x ys → Without x ys
without x [] some = absurd (omega arith)
without x (y ∷ ys) some = at (same_event y x) refl (without x ys)
  where
    skipped : same_event y x ≡ false → 1 ≤ times x ys
    skipped other = let none : one (same_event y x) ≡ 0 = ap one other in omega arith

    later : Without x ys → Without x (y ∷ ys)
    later rest = (y ∷ rest.0, (let long = rest.1 in omega arith), λ n. (let same = rest.2 n in omega arith))

    at : (b : Bool) → same_event y x ≡ b → (1 ≤ times x ys → Without x ys) → Without x (y ∷ ys)
    at true same rest = (ys, omega arith, λ n. ap (λ z. one (same_event z n) + times n ys) (same_event-true y x same))
    at false other rest = later (rest (skipped other))

pub few_length : (xs ys : List Event) → ((n : Event) → times n xs ≤ times n ys) → length xs ≤ length ys
few_length [] ys less = omega arith
few_length (x ∷ xs) ys less =
    let here : one (same_event x x) ≡ 1 = ap one (same_event-self x) in
    let most = less x in
    let rest = without x ys (omega arith) in
    let long = rest.1 in
    let shorter = few_length xs rest.0 (λ n. (let l = less n in let same = rest.2 n in omega arith)) in
    omega arith

pub all_latches : (m : MachineData) (past : List Entry) → LegalPast m past → total (by_deed latch_of) past ≤ sum_by length m.devices
all_latches m past legal =
    let long = latched-length past in
    let pulses = pulses-length m.devices in
    let same = sums-same length m.devices in
    let less = few_length (latched past) (all_pulses m.devices) (λ n. (let l = few_latches m n past legal in let t = latched-times n past in let p = pulses-times n m.devices in let s = sums-same (times n) m.devices in omega arith)) in
    omega arith

-- ---- sums over listed events

abbrev pub listed_part : (ListedEvent → ℕ) → MachineData → List ListedEvent → Count
listed_part g m ls past e = sum_of (λ (l : ListedEvent). takes m l.listed.event past e * g l) ls

pub no-part : (g : ListedEvent → ℕ) (ls : List ListedEvent) → sum_of (λ l. 0 * g l) ls ≡ 0
no-part g [] = refl
no-part g (l ∷ ls) = let rest = no-part g ls in omega arith

pub part-plus : (a b g : ListedEvent → ℕ) (ls : List ListedEvent) → sum_of (λ l. (a l + b l) * g l) ls ≡ sum_of (λ l. a l * g l) ls + sum_of (λ l. b l * g l) ls
part-plus a b g [] = refl
part-plus a b g (l ∷ ls) = let rest = part-plus a b g ls in let out = add-mul (a l) (b l) (g l) in omega arith

pub exchange : (g : ListedEvent → ℕ) (m : MachineData) (ls : List ListedEvent) (past : List Entry) → total (listed_part g m ls) past ≡ sum_of (λ (l : ListedEvent). total (takes m l.listed.event) past * g l) ls
exchange g m ls [] = sym (no-part g ls)
exchange g m ls (e ∷ past) =
    let rest = exchange g m ls past in
    let split = part-plus (λ (l : ListedEvent). takes m l.listed.event past e) (λ (l : ListedEvent). total (takes m l.listed.event) past) g ls in
    omega arith

-- the claim of a listed event is counted
pub any_worth : (g : List Op → ℕ) (n : Event) (ls : List ListedEvent) → list_any (λ (l : ListedEvent). same_event l.listed.event n) ls ≡ true → g (script_in ls n) ≤ sum_of (λ (l : ListedEvent). one (same_event n l.listed.event) * g l.script) ls
any_worth g n [] any = cc
any_worth g n (l ∷ ls) any = at (same_event l.listed.event n) refl any (any_worth g n ls)
  where
    at : (b : Bool) → same_event l.listed.event n ≡ b → (b || list_any (λ (x : ListedEvent). same_event x.listed.event n) ls) ≡ true → (list_any (λ (x : ListedEvent). same_event x.listed.event n) ls ≡ true → g (script_in ls n) ≤ sum_of (λ (x : ListedEvent). one (same_event n x.listed.event) * g x.script) ls)
        → g (if b then l.script else script_in ls n) ≤ one (same_event n l.listed.event) * g l.script + sum_of (λ (x : ListedEvent). one (same_event n x.listed.event) * g x.script) ls
    at true same any rest = let here : same_event n l.listed.event ≡ true = same_event-swap n l.listed.event ∙ same in rw here (omega arith)
    at false other any rest = let before = rest any in omega arith

-- ---- what jobs are worth

abbrev pub worth : ℕ → (List Op → ℕ) → ℕ → MachineData → Option Job → ℕ
worth b c q m j = b + job_worth c q m j

abbrev pub listed_worth : ℕ → (List Op → ℕ) → ListedEvent → ℕ
listed_worth b c l = b + c l.script

abbrev pub code_worth : ℕ → (List Op → ℕ) → MachineData → ℕ → ℕ
code_worth b c m k = b + c (code_script m k)

pub made_claim : (b : ℕ) (c : List Op → ℕ) (q : ℕ) (m : MachineData) (queue : List ℕ) (n : Event) → made_worth (worth b c q m) (claimed_job m queue n) ≤ sum_of (λ (l : ListedEvent). one (same_event n l.listed.event) * listed_worth b c l) m.events + is_query_job (claimed_job m queue n) * (b + q)
made_claim b c q m queue n = at (lists m n) refl (is_own m n && not (is_empty queue))
  where
    at : (x : Bool) → lists m n ≡ x → (y : Bool) → made_worth (worth b c q m) (if x then Some (job.Event n) else if y then Some job.Query else None) ≤ sum_of (λ (l : ListedEvent). one (same_event n l.listed.event) * listed_worth b c l) m.events + is_query_job (if x then Some (job.Event n) else if y then Some job.Query else None) * (b + q)
    at true listed y = let most = any_worth (λ ops. b + c ops) n m.events (lists_any m n listed) in omega arith
    at false unlisted true = omega arith
    at false unlisted false = omega arith

pub made_take : (b : ℕ) (c : List Op → ℕ) (q : ℕ) (m : MachineData) (o : Option Open) (v : Option ℕ) → made_worth (worth b c q m) (taken_job o v) ≡ code_price (code_worth b c m) (taken_job o v)
made_take b c q m o None = refl
made_take b c q m o (Some k) = at (asks_code o && not (k == 0))
  where
    at : (x : Bool) → made_worth (worth b c q m) (if x then Some (job.Code k) else None) ≡ code_price (code_worth b c m) (if x then Some (job.Code k) else None)
    at true = refl
    at false = refl

pub made_split : (b : ℕ) (c : List Op → ℕ) (q : ℕ) (m : MachineData) (past : List Entry) (a : Actor) (d : Deed)
    → made_in (worth b c q m) m past (record { actor = a; deed = d }) ≤ listed_part (listed_worth b c) m m.events past (record { actor = a; deed = d }) + (queries_in m past (record { actor = a; deed = d }) * (b + q) + code_jobs_in (code_worth b c m) m past (record { actor = a; deed = d }))
made_split b c q m past a (deed.Claim n) = let most = made_claim b c q m (codes past) n in omega arith
made_split b c q m past a (deed.Take v) = let most = made_take b c q m (open_of past) v in omega arith
made_split b c q m past a _ = omega arith

pub all_made : (b : ℕ) (c : List Op → ℕ) (q : ℕ) (m : MachineData) (past : List Entry) → total (made_in (worth b c q m) m) past ≤ sum_of (λ (l : ListedEvent). total (takes m l.listed.event) past * listed_worth b c l) m.events + (total (queries_in m) past * (b + q) + total (code_jobs_in (code_worth b c m) m) past)
all_made b c q m past =
    let each = total-le_all (made_in (worth b c q m) m) (λ p e. listed_part (listed_worth b c) m m.events p e + (queries_in m p e * (b + q) + code_jobs_in (code_worth b c m) m p e)) (λ p e. made_split b c q m p e.actor e.deed) past in
    let split = total-plus (listed_part (listed_worth b c) m m.events) (λ p e. queries_in m p e * (b + q) + code_jobs_in (code_worth b c m) m p e) past in
    let parts = total-plus (λ p e. queries_in m p e * (b + q)) (code_jobs_in (code_worth b c m) m) past in
    let scaled = total-scale (queries_in m) (b + q) past in
    let exchanged = exchange (listed_worth b c) m m.events past in
    omega arith

-- ---- charges

pub charged_by : (m : MachineData) (f : Act → ℕ) → ByScripts m (charged f)
charged_by m f past e ok = at e.actor e.deed ok
  where
    at : (a : Actor) (d : Deed) → Allowed m past (record { actor = a; deed = d }) → (charge f d ≡ 0) ⊎ (runs_scripts m a ≡ true)
    at a deed.Seek ok = inr (hold m past a deed.Seek ok).0
    at a deed.Disown ok = inr (hold m past a deed.Disown ok).0
    at a (deed.Read c v) ok = inr (hold m past a (deed.Read c v) ok).0
    at a (deed.Write c v) ok = inr (hold m past a (deed.Write c v) ok).0
    at a (deed.Begin r) ok = inr (hold m past a (deed.Begin r) ok).0
    at a (deed.Drop n) ok = inr (hold m past a (deed.Drop n) ok).0
    at a (deed.Push q) ok = inr (by_firmware m a (hold m past a (deed.Push q) ok).0)
    at a (deed.Raise n) ok = inr (by_firmware m a (hold m past a (deed.Raise n) ok).0)
    at a (deed.Assert n) ok = inr (by_firmware m a (hold m past a (deed.Assert n) ok).0)
    at a (deed.Notify x v) ok = inr (works a (hold m past a (deed.Notify x v) ok).0) where
      works : (a : Actor) → is_worker m a ≡ true → runs_scripts m a ≡ true
      works a is = rw is refl
    at a (deed.Up n) ok = inr (works a (hold m past a (deed.Up n) ok).0) where
      works : (a : Actor) → is_worker m a ≡ true → runs_scripts m a ≡ true
      works a is = rw is refl
    at a (deed.Down n) ok = inr (works a (hold m past a (deed.Down n) ok).0) where
      works : (a : Actor) → is_worker m a ≡ true → runs_scripts m a ≡ true
      works a is = rw is refl
    at a _ ok = inl refl

pub lifts_by : (m : MachineData) (n : Event) → ByFirmware m (charged (lifts n))
lifts_by m n past e ok = at e.actor e.deed ok
  where
    at : (a : Actor) (d : Deed) → Allowed m past (record { actor = a; deed = d }) → (charge (lifts n) d ≡ 0) ⊎ (is_firmware m a ≡ true)
    at a (deed.Raise x) ok = inr (hold m past a (deed.Raise x) ok).0
    at a (deed.Assert x) ok = inr (hold m past a (deed.Assert x) ok).0
    at a _ ok = inl refl

pub pushes_by : (m : MachineData) (g : ℕ → ℕ) → ByFirmware m (charged (pushes_price g))
pushes_by m g past e ok = at e.actor e.deed ok
  where
    at : (a : Actor) (d : Deed) → Allowed m past (record { actor = a; deed = d }) → (charge (pushes_price g) d ≡ 0) ⊎ (is_firmware m a ≡ true)
    at a (deed.Push q) ok = inr (hold m past a (deed.Push q) ok).0
    at a _ ok = inl refl

pub over_firsts : (m : MachineData) (c : List Op → ℕ) → over m (first_worth c m) ≡ sum_of c m.firmware
over_firsts m c = let none = upto-zero m.workers in let firmware = upto-sum c m.firmware in omega arith

-- all entries are charged for no more than the firmware's scripts and the jobs that were started
pub all_charged : (f : Act → ℕ) (c : List Op → ℕ) (m : MachineData) → IsMachine m → Covers m f c → (past : List Entry) → LegalPast m past → total (charged f) past ≤ sum_of c m.firmware + total (started (job_worth c (query_price f) m) m) past
all_charged f c m ok covers past legal =
    let split = within_over m (charged f) (charged_by m f) past legal in
    let each = over-le m (λ a. total (own a (charged f)) past) (λ a. first_worth c m a + total (own a (started (job_worth c (query_price f) m) m)) past)
    (λ a. few_paid (job_worth c (query_price f) m) (first_worth c m) f m a (jobs_cost m f c ok covers) (firsts_cost m f c ok covers) past legal) in
    let parts = over-plus m (first_worth c m) (λ a. total (own a (started (job_worth c (query_price f) m) m)) past) in
    let joined = over_within m (started (job_worth c (query_price f) m) m) past in
    let firsts = over_firsts m c in
    omega arith

-- where only firmware is charged
pub firmware_charged : (f : Act → ℕ) (c : List Op → ℕ) (m : MachineData) → IsMachine m → Covers m f c → ByFirmware m (charged f) → (past : List Entry) → LegalPast m past → total (charged f) past ≤ sum_of c m.firmware
firmware_charged f c m ok covers by past legal =
    let split = within_firmware m (charged f) by past legal in
    let each = upto-le (λ k. total (own (actor.Firmware k) (charged f)) past) (λ k. c (script_of m k)) (length m.firmware)
    (λ k. (
    let paid = few_paid (job_worth c (query_price f) m) (first_worth c m) f m (actor.Firmware k) (jobs_cost m f c ok covers) (firsts_cost m f c ok covers) past legal in
    let none = firmware_starts (job_worth c (query_price f) m) m k past legal in
    omega arith)) in
    let sum = upto-sum c m.firmware in
    omega arith

-- ---- handlers of pushed codes

abbrev pub handlers : (ℕ → ℕ) → (List Op → ℕ) → List Query → ℕ
handlers p c qs = sum_of (λ (h : Query). p h.code * c h.script) qs

pub handlers-plus : (p r : ℕ → ℕ) (c : List Op → ℕ) (qs : List Query) → handlers (λ q. p q + r q) c qs ≡ handlers p c qs + handlers r c qs
handlers-plus p r c [] = refl
handlers-plus p r c (h ∷ qs) = let rest = handlers-plus p r c qs in let out = add-mul (p h.code) (r h.code) (c h.script) in omega arith

pub one_handler : (c : List Op → ℕ) (k : ℕ) (qs : List Query) → c [] ≡ 0 → c (query_in qs k) ≤ handlers (λ q. one_if (q == k)) c qs
one_handler c k [] none = omega arith
one_handler c k (h ∷ qs) none = at (h.code == k) (one_handler c k qs none)
  where
    at : (b : Bool) → c (query_in qs k) ≤ handlers (λ q. one_if (q == k)) c qs → c (if b then h.script else query_in qs k) ≤ one_if b * c h.script + handlers (λ q. one_if (q == k)) c qs
    at true rest = omega arith
    at false rest = omega arith

pub spread : {X : Type 0} (b : ℕ) (c : List Op → ℕ) (qs : List Query) (t pc : X → ℕ) (p : ℕ → X → ℕ) → ((x : X) → t x ≤ b * pc x + handlers (λ q. p q x) c qs) → (xs : List X) → sum_of t xs ≤ b * sum_of pc xs + handlers (λ q. sum_of (p q) xs) c qs
spread b c qs t pc p each [] = omega arith
spread b c qs t pc p each (x ∷ xs) =
    let rest = spread b c qs t pc p each xs in
    let here = each x in
    let split = handlers-plus (λ q. p q x) (λ q. sum_of (p q) xs) c qs in
    omega arith

pub push_handled : (b : ℕ) (c : List Op → ℕ) (qs : List Query) → c [] ≡ 0 → (o : Op) → push_of (λ k. b + c (query_in qs k)) o ≤ b * counted tally.Pushes o + handlers (λ q. counted (tally.Code q) o) c qs
push_handled b c qs none (op.Push k) = let most = one_handler c k qs none in omega arith
push_handled b c qs none _ = omega arith

pub ops_handled : (b : ℕ) (c : List Op → ℕ) (qs : List Query) → c [] ≡ 0 → (ops : List Op) → sum_of (push_of (λ k. b + c (query_in qs k))) ops ≤ b * in_script tally.Pushes ops + handlers (λ q. in_script (tally.Code q) ops) c qs
ops_handled b c qs none ops =
    let all = spread b c qs (push_of (λ k. b + c (query_in qs k))) (counted tally.Pushes) (λ q. counted (tally.Code q)) (push_handled b c qs none) ops in
    let pushes = in_script-is tally.Pushes ops in
    let by_code = sum-same (λ (h : Query). in_script (tally.Code h.code) ops * c h.script) (λ (h : Query). sum_of (counted (tally.Code h.code)) ops * c h.script) qs (λ h. ap (λ k. k * c h.script) (in_script-is (tally.Code h.code) ops)) in
    let scaled : b * in_script tally.Pushes ops ≡ b * sum_of (counted tally.Pushes) ops = ap (λ k. b * k) pushes in
    omega arith

pub all_handled : (b : ℕ) (c : List Op → ℕ) (qs : List Query) → c [] ≡ 0 → (firmware : List (List Op)) → sum_of (sum_of (push_of (λ k. b + c (query_in qs k)))) firmware ≤ b * in_firmware tally.Pushes firmware + sum_of (λ (h : Query). in_firmware (tally.Code h.code) firmware * c h.script) qs
all_handled b c qs none firmware =
    let all = spread b c qs (sum_of (push_of (λ k. b + c (query_in qs k)))) (in_script tally.Pushes) (λ q. in_script (tally.Code q)) (ops_handled b c qs none) firmware in
    let pushes = in_firmware-is tally.Pushes firmware in
    let by_code = sum-same (λ (h : Query). in_firmware (tally.Code h.code) firmware * c h.script) (λ (h : Query). sum_of (in_script (tally.Code h.code)) firmware * c h.script) qs (λ h. ap (λ k. k * c h.script) (in_firmware-is (tally.Code h.code) firmware)) in
    let scaled : b * in_firmware tally.Pushes firmware ≡ b * sum_of (in_script tally.Pushes) firmware = ap (λ k. b * k) pushes in
    omega arith
