-- Every legal history of a machine has at most as many entries as the machine's weight.
use Rattle.std.proofs.Common.{ℕ, ◌+◌, ◌*◌, ◌≤◌, ◌≡◌, ◌==◌, inl, inr, Bool, true, false, not, ◌&&◌, List, [], ◌∷◌, length, reverse, Option, Some, None, is_some, if◌then◌else◌, refl, ap, ◌∙◌, arith, mul-le-mul_right}
use Rattle.std.proofs.lemmas.Bool.{cases_Bool, eqb-true}
use Rattle.std.proofs.lemmas.List.{length-reverse}
use Rattle.acpi_regs.specs.declared.actor.Actor.{Actor}
use Rattle.acpi_regs.specs.declared.entry.Deed.{Deed}
use Rattle.acpi_regs.specs.declared.entry.Deed.TheVariants as deed
use Rattle.acpi_regs.specs.declared.entry.Entry.{Entry}
use Rattle.acpi_regs.specs.declared.event.Event.{Event}
use Rattle.acpi_regs.specs.Event.{gbl, is_gbl, same_event}
use Rattle.handler_script.specs.declared.op.Op.{Op}
use Rattle.machine_desc.specs.declared.machine.ControllerDesc.{ControllerDesc}
use Rattle.machine_desc.specs.declared.machine.ListedEvent.{ListedEvent}
use Rattle.machine_desc.specs.declared.machine.Query.{Query}
use Rattle.machine_desc.specs.declared.tally.Tally.TheVariants as tally
use Rattle.machine_desc.specs.Kept.{IsListed, IsMachine, event_of_controller, own_event, queries_in as handlers_in}
use Rattle.machine_desc.specs.Machine.{MachineData, act_fields}
use Rattle.machine_desc.specs.Weight.{all_moves, calls_of, event_moves, event_size, events_moves, events_size, firmware_moves, firmware_size, in_firmware, in_script, own_calls, own_claims, pushes, queries_asked, queries_moves, queries_size, query_moves, query_size, runs_of, script_moves, script_size, weight_by, weight_of}
use Rattle.machine_history.specs.declared.parts.Job.{Job}
use Rattle.machine_history.specs.declared.parts.Job.TheVariants as job
use Rattle.machine_history.specs.Jobs.{is_empty, jobs, made, taken_job}
use Rattle.machine_history.specs.Legal.{Legal, LegalPast}
use Rattle.machine_history.specs.Machine.{is_own, lists, names}
use Rattle.machine_history.specs.Wire.{Open, codes, open_of}
use Rattle.machine_history.proofs.Adding.{all_charged, all_handled, all_latches, all_made, any_worth, claim_of, classes, code_worth, exchange, firmware_charged, lifts_by, listed_part, listed_worth, pushes_by, worth}
use Rattle.machine_history.proofs.Claims.{claims_within, few_latches, is_push, latch_in, sets_in, takes}
use Rattle.machine_history.proofs.Codes.{code_jobs_in, code_price, few_codes}
use Rattle.machine_history.proofs.JobCounts.{few_started, is_start}
use Rattle.machine_history.proofs.Known.{same_event-self, same_event-swap}
use Rattle.machine_history.proofs.Locking.{all_finishes, all_lock}
use Rattle.machine_history.proofs.Machines.{Covers, gbl_unlisted, in_firmware-is, job_worth, listed_each, listed_own, lists_any, own_is, own_not_gbl, own_unlisted, pulses-is, sum-each, sum-zero, unknown_runs, unlisted_runs, unlisted_unknown}
use Rattle.machine_history.proofs.Paying.{start_worth, started}
use Rattle.machine_history.proofs.Prices.{charge, charged, entries_price, lifts, moves_price, pushes_price, queries_price}
use Rattle.machine_history.proofs.Queries.{few_queries, is_query_job, queries_in, query_allows_in}
use Rattle.machine_history.proofs.ScriptPrices.{entries_within, lifts_within, moves_within, push_of, pushes_from, queries_none, sums-same, uniform_entries, uniform_lifts, uniform_moves, uniform_pushes, uniform_queries}
use Rattle.machine_history.proofs.Totals.{Count, by_deed, one, sum_of, total, total-le, total-le_all, total-plus, total-zero}
use Rattle.machine_history.proofs.Wires.{begins_price, is_qr, moves_in, query_moves_in, request_moves, wire_entries, wire_moves, wire_queries}

-- ---- what scripts are worth at each price

abbrev pub no_worth : List Op → ℕ
no_worth ops = 0

pub covers_entries : (m : MachineData) → Covers m entries_price (script_size (act_fields m))
unfolding script_size
covers_entries m = record { uniform = uniform_entries; within = entries_within (act_fields m); empty = refl }

pub covers_moves : (m : MachineData) → Covers m moves_price (script_moves (act_fields m))
unfolding script_moves
covers_moves m = record { uniform = uniform_moves; within = moves_within (act_fields m); empty = refl }

pub covers_queries : (m : MachineData) → Covers m queries_price no_worth
covers_queries m = record { uniform = uniform_queries; within = queries_none (act_fields m) false; empty = refl }

pub covers_lifts : (m : MachineData) (n : Event) → Covers m (lifts n) (in_script (tally.Runs n))
unfolding in_script
covers_lifts m n = record { uniform = uniform_lifts n; within = lifts_within n (act_fields m); empty = refl }

pub covers_pushes : (m : MachineData) (g : ℕ → ℕ) → Covers m (pushes_price g) (sum_of (push_of g))
covers_pushes m g = record { uniform = uniform_pushes g; within = pushes_from g (act_fields m) false; empty = refl }

-- ---- the weight's sums, written plainly

pub size_empty : (m : MachineData) → script_size (act_fields m) [] ≡ 0
size_empty m = (covers_entries m).empty

pub moves_empty : (m : MachineData) → script_moves (act_fields m) [] ≡ 0
moves_empty m = (covers_moves m).empty

pub firmware_size-is : (m : MachineData) → firmware_size m ≡ sum_of (script_size (act_fields m)) m.firmware
unfolding firmware_size
firmware_size-is m = sums-same (script_size (act_fields m)) m.firmware

pub firmware_moves-is : (m : MachineData) → firmware_moves m ≡ sum_of (script_moves (act_fields m)) m.firmware
unfolding firmware_moves
firmware_moves-is m = sums-same (script_moves (act_fields m)) m.firmware

pub events_size-is : (m : MachineData) → events_size m ≡ sum_of (λ (l : ListedEvent). runs_of m l.listed.event * (3 + script_size (act_fields m) l.script)) m.events
unfolding events_size
events_size-is m = sums-same (event_size m) m.events

pub events_moves-is : (m : MachineData) → events_moves m ≡ sum_of (λ (l : ListedEvent). runs_of m l.listed.event * script_moves (act_fields m) l.script) m.events
unfolding events_moves
events_moves-is m = sums-same (event_moves m) m.events

pub queries_size-is : (m : MachineData) → queries_size m ≡ sum_of (λ (h : Query). in_firmware (tally.Code h.code) m.firmware * script_size (act_fields m) h.script) (handlers_in m)
unfolding queries_size
queries_size-is m = sums-same (query_size m) (handlers_in m)

pub queries_moves-is : (m : MachineData) → queries_moves m ≡ sum_of (λ (h : Query). in_firmware (tally.Code h.code) m.firmware * script_moves (act_fields m) h.script) (handlers_in m)
unfolding queries_moves
queries_moves-is m = sums-same (query_moves m) (handlers_in m)

-- ---- claims of one event

-- what raises an event
pub raises : (m : MachineData) (n : Event) → IsMachine m → (past : List Entry) → LegalPast m past → total (charged (lifts n)) past + total (by_deed (latch_in n)) past ≤ runs_of m n
raises m n ok past legal =
    let scripts = firmware_charged (lifts n) (in_script (tally.Runs n)) m ok (covers_lifts m n) (lifts_by m n) past legal in
    let is = in_firmware-is (tally.Runs n) m.firmware in
    let latches = few_latches m n past legal in
    let pulses = pulses-is m n in
    omega arith

pub plain_sets : (m : MachineData) (n : Event) → is_own m n ≡ false → is_gbl n ≡ false → (past : List Entry) → total (sets_in m n) past ≡ total (charged (lifts n)) past + total (by_deed (latch_in n)) past
plain_sets m n not_own not_gbl [] = refl
plain_sets m n not_own not_gbl (e ∷ past) = let before = plain_sets m n not_own not_gbl past in rw (not_own, not_gbl) (omega arith)

pub own_sets : (m : MachineData) (n : Event) → is_own m n ≡ true → is_gbl n ≡ false → (past : List Entry) → total (sets_in m n) past ≡ (total (charged (lifts n)) past + total (by_deed (latch_in n)) past) + (total (by_deed is_push) past + (total moves_in past + total query_moves_in past))
own_sets m n own not_gbl [] = refl
own_sets m n own not_gbl (e ∷ past) = let before = own_sets m n own not_gbl past in rw (own, not_gbl) (omega arith)

pub claims_reach : (m : MachineData) (n : Event) → IsMachine m → is_own m n ≡ false → is_gbl n ≡ false → (past : List Entry) → LegalPast m past → total (takes m n) past ≤ runs_of m n
claims_reach m n ok not_own not_gbl past legal =
    let claims = claims_within m n past legal in
    let sets = plain_sets m n not_own not_gbl past in
    let most = raises m n ok past legal in
    omega arith

-- the runs of listed events, each worth g
pub bound_runs : (m : MachineData) (g : ListedEvent → ℕ) → IsMachine m → (past : List Entry) → LegalPast m past → sum_of (λ (l : ListedEvent). total (takes m l.listed.event) past * g l) m.events ≤ sum_of (λ (l : ListedEvent). runs_of m l.listed.event * g l) m.events
bound_runs m g ok past legal =
    sum-each (IsListed m) (λ (l : ListedEvent). total (takes m l.listed.event) past * g l) (λ (l : ListedEvent). runs_of m l.listed.event * g l) m.events (listed_each m ok)
    (λ l kept. mul-le-mul_right (g l) (claims_reach m l.listed.event ok (listed_own m l kept) kept.lock past legal))

-- ---- every claim is of an event that the machine knows

abbrev pub ctl_takes : MachineData → Option Event → Count
ctl_takes m None past e = 0
ctl_takes m (Some n) past e = takes m n past e

pub ctl_claim : (m : MachineData) (past : List Entry) (a : Actor) (n : Event) (o : Option Event) → names o n ≡ true → 1 ≤ ctl_takes m o past (record { actor = a; deed = deed.Claim n })
ctl_claim m past a n None is = cc
ctl_claim m past a n (Some x) is = let same : one (same_event n x) ≡ 1 = ap one (same_event-swap n x ∙ is) in omega arith

abbrev pub KnownClaim : MachineData → List Entry → Entry → Type 0
KnownClaim m past e = claim_of e.deed ≤ listed_part (λ l. 1) m m.events past e + (takes m gbl past e + ctl_takes m (own_event m) past e)

pub known_claim : (m : MachineData) (past : List Entry) (a : Actor) (n : Event) → IsMachine m → LegalPast m (record { actor = a; deed = deed.Claim n } ∷ past) → KnownClaim m past (record { actor = a; deed = deed.Claim n })
known_claim m past a n ok legal = elim (cases_Bool (lists m n)) [
  | inl listed ↦ (let most = any_worth (λ ops. 1) n m.events (lists_any m n listed) in omega arith)
  | inr unlisted ↦ elim (cases_Bool (is_gbl n)) [
    | inl lock ↦ (let same : one (same_event n gbl) ≡ 1 = ap one lock in omega arith)
    | inr not_gbl ↦ elim (cases_Bool (is_own m n)) [
      | inl own ↦ (let most = ctl_claim m past a n (own_event m) own in omega arith)
      | inr not_own ↦ (
          let none = unknown_runs m n ok (unlisted_unknown m n unlisted not_gbl not_own) in
          let few = claims_reach m n ok not_own not_gbl (record { actor = a; deed = deed.Claim n } ∷ past) legal in
          let here : one (same_event n n) ≡ 1 = ap one (same_event-self n) in
          omega arith)
    ]
  ]
]

pub known_step : (m : MachineData) (past : List Entry) (a : Actor) (d : Deed) → IsMachine m → LegalPast m (record { actor = a; deed = d } ∷ past) → KnownClaim m past (record { actor = a; deed = d })
known_step m past a (deed.Claim n) ok legal = known_claim m past a n ok legal
known_step m past a _ ok legal = omega arith

pub all_claims : (m : MachineData) → IsMachine m → (past : List Entry) → LegalPast m past → total (by_deed claim_of) past ≤ total (listed_part (λ l. 1) m m.events) past + (total (takes m gbl) past + total (ctl_takes m (own_event m)) past)
all_claims m ok past legal =
    let each = total-le m (by_deed claim_of) (λ p e. listed_part (λ l. 1) m m.events p e + (takes m gbl p e + ctl_takes m (own_event m) p e)) (λ p e lp allowed. known_step m p e.actor e.deed ok (allowed, lp)) past legal in
    let split = total-plus (listed_part (λ l. 1) m m.events) (λ p e. takes m gbl p e + ctl_takes m (own_event m) p e) past in
    let parts = total-plus (takes m gbl) (ctl_takes m (own_event m)) past in
    omega arith

-- ---- code jobs

pub codes_within : (g : ℕ → ℕ) (m : MachineData) → IsMachine m → (past : List Entry) → LegalPast m past → total (code_jobs_in g m) past ≤ sum_of (sum_of (push_of g)) m.firmware
codes_within g m ok past legal =
    let runs = few_codes g m past legal in
    let scripts = firmware_charged (pushes_price g) (sum_of (push_of g)) m ok (covers_pushes m g) (pushes_by m g) past legal in
    omega arith

pub code_sizes : (m : MachineData) → IsMachine m → (past : List Entry) → LegalPast m past → total (code_jobs_in (code_worth 2 (script_size (act_fields m)) m) m) past ≤ 2 * pushes m + queries_size m
code_sizes m ok past legal =
    let runs = codes_within (code_worth 2 (script_size (act_fields m)) m) m ok past legal in
    let handled = all_handled 2 (script_size (act_fields m)) (handlers_in m) (size_empty m) m.firmware in
    let is = queries_size-is m in
    omega arith

pub code_moves : (m : MachineData) → IsMachine m → (past : List Entry) → LegalPast m past → total (code_jobs_in (code_worth 0 (script_moves (act_fields m)) m) m) past ≤ queries_moves m
code_moves m ok past legal =
    let runs = codes_within (code_worth 0 (script_moves (act_fields m)) m) m ok past legal in
    let handled = all_handled 0 (script_moves (act_fields m)) (handlers_in m) (moves_empty m) m.firmware in
    let is = queries_moves-is m in
    omega arith

pub no_code_worth : (m : MachineData) (past : List Entry) → total (code_jobs_in (code_worth 0 no_worth m) m) past ≤ 0
no_code_worth m past =
    let each = total-le_all (code_jobs_in (code_worth 0 no_worth m) m) (λ p e. 0) (λ p e. none (made m p e)) past in
    let nothing = total-zero past in
    omega arith
  where
    none : (j : Option Job) → code_price (code_worth 0 no_worth m) j ≤ 0
    none None = omega arith
    none (Some (job.Event n)) = omega arith
    none (Some job.Query) = omega arith
    none (Some (job.Code q)) = omega arith

-- ---- moves

pub started_zero : (c : List Op → ℕ) (q : ℕ) (m : MachineData) (past : List Entry) → total (started (job_worth c q m) m) past ≤ total (started (worth 0 c q m) m) past
started_zero c q m past = total-le_all (started (job_worth c q m) m) (started (worth 0 c q m) m) (λ p e. same p e.deed) past
  where
    same : (p : List Entry) (d : Deed) → start_worth (job_worth c q m) (jobs m p) d ≤ start_worth (worth 0 c q m) (jobs m p) d
    same p (deed.Start j) = omega arith
    same p _ = omega arith

pub moves_charge : (past : List Entry) → total (by_deed (begins_price request_moves)) past ≤ total (charged moves_price) past
moves_charge past = total-le_all (by_deed (begins_price request_moves)) (charged moves_price) (λ p e. same e.deed) past
  where
    same : (d : Deed) → begins_price request_moves d ≤ charge moves_price d
    same (deed.Begin r) = omega arith
    same _ = omega arith

pub queries_charge : (past : List Entry) → total (by_deed (begins_price is_qr)) past ≤ total (charged queries_price) past
queries_charge past = total-le_all (by_deed (begins_price is_qr)) (charged queries_price) (λ p e. same e.deed) past
  where
    same : (d : Deed) → begins_price is_qr d ≤ charge queries_price d
    same (deed.Begin r) = omega arith
    same _ = omega arith

pub moves_bound : (m : MachineData) → IsMachine m → (past : List Entry) → LegalPast m past → total moves_in past ≤ all_moves m
moves_bound m ok past legal =
    let wire = wire_moves m past legal in
    let begins = moves_charge past in
    let paid = all_charged moves_price (script_moves (act_fields m)) m ok (covers_moves m) past legal in
    let same = started_zero (script_moves (act_fields m)) 0 m past in
    let made = few_started (worth 0 (script_moves (act_fields m)) 0 m) m past legal in
    let split = all_made 0 (script_moves (act_fields m)) 0 m past in
    let runs = bound_runs m (listed_worth 0 (script_moves (act_fields m))) ok past legal in
    let listed = sum-each (IsListed m) (λ (l : ListedEvent). runs_of m l.listed.event * listed_worth 0 (script_moves (act_fields m)) l) (λ (l : ListedEvent). runs_of m l.listed.event * script_moves (act_fields m) l.script) m.events (listed_each m ok)
    (λ l kept. plain (runs_of m l.listed.event) (script_moves (act_fields m) l.script)) in
    let codes = code_moves m ok past legal in
    let firmware = firmware_moves-is m in
    let events = events_moves-is m in
    let none = zero_times (total (queries_in m) past) in
    omega arith
  where
    plain : (x y : ℕ) → x * (0 + y) ≤ x * y
    plain x y = omega arith

    zero_times : (x : ℕ) → x * (0 + 0) ≡ 0
    zero_times x = omega arith

-- ---- queries

pub asked : MachineData → ℕ
asked m = queries_asked (pushes m) (all_moves m) (own_calls m (own_event m))

pub no_query : (m : MachineData) (past : List Entry) (a : Actor) (d : Deed) → ((n : Event) → (is_own m n && not (is_empty (codes past))) ≡ false) → queries_in m past (record { actor = a; deed = d }) ≤ 0
no_query m past a (deed.Claim n) none = at (lists m n) (is_own m n && not (is_empty (codes past))) (none n)
  where
    at : (x y : Bool) → y ≡ false → is_query_job (if x then Some (job.Event n) else if y then Some job.Query else None) ≤ 0
    at true y is = omega arith
    at false y is = rw is (omega arith)
no_query m past a (deed.Take v) none = at (open_of past) v
  where
    of_code : (x : Bool) (q : ℕ) → is_query_job (if x then Some (job.Code q) else None) ≤ 0
    of_code true q = omega arith
    of_code false q = omega arith

    at : (o : Option Open) (v : Option ℕ) → is_query_job (taken_job o v) ≤ 0
    at o None = omega arith
    at o (Some q) = of_code _ q
no_query m past a _ none = omega arith

pub few_waiting : (m : MachineData) → IsMachine m → (past : List Entry) → LegalPast m past → sum_of (λ (q : ℕ). 1) (codes past) ≤ pushes m
few_waiting m ok past legal =
    let runs = few_codes (λ q. 1) m past legal in
    let scripts = firmware_charged (pushes_price (λ q. 1)) (sum_of (push_of (λ q. 1))) m ok (covers_pushes m (λ q. 1)) (pushes_by m (λ q. 1)) past legal in
    let handled = all_handled 1 no_worth (handlers_in m) refl m.firmware in
    let none = nothing_handled (handlers_in m) in
    omega arith
  where
    nothing_handled : (qs : List Query) → sum_of (λ (h : Query). in_firmware (tally.Code h.code) m.firmware * 0) qs ≡ 0
    nothing_handled [] = refl
    nothing_handled (h ∷ qs) = let rest = nothing_handled qs in omega arith

pub pushed : (m : MachineData) → IsMachine m → (past : List Entry) → LegalPast m past → total (by_deed is_push) past ≤ pushes m
pushed m ok past legal =
    let scripts = firmware_charged (pushes_price (λ q. 1)) (sum_of (push_of (λ q. 1))) m ok (covers_pushes m (λ q. 1)) (pushes_by m (λ q. 1)) past legal in
    let handled = all_handled 1 no_worth (handlers_in m) refl m.firmware in
    let none = nothing_handled (handlers_in m) in
    let same = total-le_all (by_deed is_push) (charged (pushes_price (λ q. 1))) (λ p e. charge_same e.deed) past in
    omega arith
  where
    nothing_handled : (qs : List Query) → sum_of (λ (h : Query). in_firmware (tally.Code h.code) m.firmware * 0) qs ≡ 0
    nothing_handled [] = refl
    nothing_handled (h ∷ qs) = let rest = nothing_handled qs in omega arith

    charge_same : (d : Deed) → is_push d ≤ charge (pushes_price (λ q. 1)) d
    charge_same (deed.Push q) = omega arith
    charge_same _ = omega arith

pub empty_is : (queue : List ℕ) → sum_of (λ (q : ℕ). 1) queue ≤ 0 → is_empty queue ≡ true
empty_is [] none = refl
empty_is (q ∷ queue) none = absurd (omega arith)

pub and_not : (b c : Bool) → c ≡ true → (b && not c) ≡ false
and_not true c is = rw is refl
and_not false c is = refl

-- without a push no query is asked
pub unpushed : (m : MachineData) → IsMachine m → pushes m ≡ 0 → (past : List Entry) → LegalPast m past → total (queries_in m) past ≤ 0
unpushed m ok none past legal =
    let each = total-le m (queries_in m) (λ p e. 0) (λ p e lp allowed. no_query m p e.actor e.deed (λ n. and_not (is_own m n) (is_empty (codes p)) (empty_is (codes p) (let few = few_waiting m ok p lp in omega arith)))) past legal in
    let nothing = total-zero past in
    omega arith

-- without a controller neither
pub uncontrolled : (m : MachineData) → own_event m ≡ None → (past : List Entry) → LegalPast m past → total (queries_in m) past ≤ 0
uncontrolled m none past legal =
    let each = total-le m (queries_in m) (λ p e. 0) (λ p e lp allowed. no_query m p e.actor e.deed (λ n. and_none (is_own m n) (not (is_empty (codes p))) (ap (λ o. names o n) none))) past legal in
    let nothing = total-zero past in
    omega arith
  where
    and_none : (b c : Bool) → b ≡ false → (b && c) ≡ false
    and_none b c is = rw is refl

pub allows_split : (n : Event) (past : List Entry) → total (query_allows_in n) past ≡ (total (charged (lifts n)) past + total (by_deed (latch_in n)) past) + (2 * total (by_deed is_push) past + total moves_in past)
allows_split n [] = refl
allows_split n (e ∷ past) = let before = allows_split n past in omega arith

pub own_raises : (m : MachineData) (n : Event) → IsMachine m → own_event m ≡ Some n → (past : List Entry) → LegalPast m past → total (charged (lifts n)) past + total (by_deed (latch_in n)) past ≤ own_calls m (own_event m)
own_raises m n ok named past legal =
    let most = raises m n ok past legal in
    let calls = unlisted_runs m n ok (own_unlisted m n ok named) in
    let is : own_calls m (own_event m) ≡ calls_of m n = ap (own_calls m) named in
    omega arith

pub queries_bound : (m : MachineData) → IsMachine m → (past : List Entry) → LegalPast m past → total (queries_in m) past ≤ asked m
unfolding asked
queries_bound m ok past legal = at (pushes m == 0) refl (own_event m) refl
  where
    some : (n : Event) → own_event m ≡ Some n → total (queries_in m) past ≤ 2 * pushes m + all_moves m + own_calls m (own_event m)
    some n named =
        let few = few_queries m n (own_is m n ok named) past legal in
        let split = allows_split n past in
        let calls = own_raises m n ok named past legal in
        let push = pushed m ok past legal in
        let moves = moves_bound m ok past legal in
        omega arith

    at : (b : Bool) → (pushes m == 0) ≡ b → (o : Option Event) → own_event m ≡ o → total (queries_in m) past ≤ (if b then 0 else 2 * pushes m + all_moves m + own_calls m (own_event m))
    at true none o named = unpushed m ok (eqb-true (pushes m) 0 none) past legal
    at false is None named = let none = uncontrolled m named past legal in omega arith
    at false is (Some n) named = some n named

pub query_moves_bound : (m : MachineData) → IsMachine m → (past : List Entry) → LegalPast m past → total query_moves_in past ≤ total (queries_in m) past
query_moves_bound m ok past legal =
    let wire = wire_queries m past legal in
    let begins = queries_charge past in
    let paid = all_charged queries_price no_worth m ok (covers_queries m) past legal in
    let same = started_zero no_worth 1 m past in
    let made = few_started (worth 0 no_worth 1 m) m past legal in
    let split = all_made 0 no_worth 1 m past in
    let firmware = sum-zero m.firmware in
    let listed = nothing_listed m.events in
    let codes = no_code_worth m past in
    let once = one_times (total (queries_in m) past) in
    omega arith
  where
    nothing_listed : (ls : List ListedEvent) → sum_of (λ (l : ListedEvent). total (takes m l.listed.event) past * listed_worth 0 no_worth l) ls ≡ 0
    nothing_listed [] = refl
    nothing_listed (l ∷ ls) = let rest = nothing_listed ls in omega arith

    one_times : (x : ℕ) → x * (0 + 1) ≡ x
    one_times x = omega arith

-- ---- claims of the controller's event

pub none_claimed : (m : MachineData) (past : List Entry) → total (ctl_takes m None) past ≡ 0
none_claimed m past = total-zero past

pub some_takes : (m : MachineData) (n : Event) (past : List Entry) → total (ctl_takes m (Some n)) past ≤ total (takes m n) past
some_takes m n past = total-le_all (ctl_takes m (Some n)) (takes m n) (λ p e. omega arith) past

pub own_claims_bound : (m : MachineData) → IsMachine m → (past : List Entry) → LegalPast m past → total (ctl_takes m (own_event m)) past ≤ own_claims (is_some m.controller) (pushes m) (all_moves m) (own_calls m (own_event m)) (asked m)
own_claims_bound m ok past legal = at m.controller refl
  where
    none : own_event m ≡ None → total (ctl_takes m (own_event m)) past ≤ 0
    none named = let is = ap (λ o. total (ctl_takes m o) past) named in let nothing = none_claimed m past in omega arith

    some : (n : Event) → own_event m ≡ Some n → total (ctl_takes m (own_event m)) past ≤ pushes m + all_moves m + own_calls m (own_event m) + asked m
    some n named =
        let own = own_is m n ok named in
        let is : is_own m n ≡ true = rw named (same_event-self n) in
        let claims = claims_within m n past legal in
        let sets = own_sets m n is (same_event-swap n gbl ∙ own.not_gbl) past in
        let calls = own_raises m n ok named past legal in
        let push = pushed m ok past legal in
        let moves = moves_bound m ok past legal in
        let query_moves = query_moves_bound m ok past legal in
        let queries = queries_bound m ok past legal in
        let named_takes = ap (λ o. total (ctl_takes m o) past) named in
        let takes_same = some_takes m n past in
        omega arith

    at : (c : Option ControllerDesc) → m.controller ≡ c → total (ctl_takes m (own_event m)) past ≤ own_claims (is_some c) (pushes m) (all_moves m) (own_calls m (own_event m)) (asked m)
    at None is = none (ap event_of_controller is)
    at (Some c) is = some c.event (ap event_of_controller is)

-- ---- the sum

pub worth_two : (c : List Op → ℕ) (q : ℕ) (m : MachineData) (past : List Entry) → 2 * total (by_deed is_start) past + total (started (job_worth c q m) m) past ≡ total (started (worth 2 c q m) m) past
worth_two c q m [] = refl
worth_two c q m (e ∷ past) = let before = worth_two c q m past in let here = same past e.deed in omega arith
  where
    same : (p : List Entry) (d : Deed) → 2 * is_start d + start_worth (job_worth c q m) (jobs m p) d ≡ start_worth (worth 2 c q m) (jobs m p) d
    same p (deed.Start j) = omega arith
    same p _ = omega arith

pub three_sum : (m : MachineData) (past : List Entry) (ls : List ListedEvent) → sum_of (λ (l : ListedEvent). total (takes m l.listed.event) past * 1) ls + sum_of (λ (l : ListedEvent). total (takes m l.listed.event) past * listed_worth 2 (script_size (act_fields m)) l) ls ≡ sum_of (λ (l : ListedEvent). total (takes m l.listed.event) past * (3 + script_size (act_fields m) l.script)) ls
three_sum m past [] = refl
three_sum m past (l ∷ ls) = let rest = three_sum m past ls in omega arith

pub fifteen : (x : ℕ) → x * (2 + 13) ≡ 15 * x
fifteen x = omega arith

pub listed_bound : (m : MachineData) → IsMachine m → (past : List Entry) → LegalPast m past → total (listed_part (λ l. 1) m m.events) past + sum_of (λ (l : ListedEvent). total (takes m l.listed.event) past * listed_worth 2 (script_size (act_fields m)) l) m.events ≤ events_size m
listed_bound m ok past legal =
    let exchanged = exchange (λ l. 1) m m.events past in
    let three = three_sum m past m.events in
    let runs = bound_runs m (λ l. 3 + script_size (act_fields m) l.script) ok past legal in
    let is = events_size-is m in
    omega arith

-- the parts of the weight, and those of a history
pub plain_weight : (m : MachineData) → weight_of m ≡ weight_by m (pushes m) (all_moves m) (own_calls m (own_event m)) (asked m)
unfolding weight_of asked
plain_weight m = refl

pub weighed : (m : MachineData) → IsMachine m → (past : List Entry) → LegalPast m past → length past ≤ weight_of m
weighed m ok past legal =
    let class = classes past in
    let lock = all_lock m past (calls_of m gbl) (own_not_gbl m ok) legal (let most = raises m gbl ok past legal in let calls = unlisted_runs m gbl ok (gbl_unlisted m ok) in omega arith) in
    let wire = wire_entries m past legal in
    let latches = all_latches m past legal in
    let claims = all_claims m ok past legal in
    let finishes = all_finishes m past legal in
    let paid = all_charged entries_price (script_size (act_fields m)) m ok (covers_entries m) past legal in
    let two = worth_two (script_size (act_fields m)) 13 m past in
    let made = few_started (worth 2 (script_size (act_fields m)) 13 m) m past legal in
    let split = all_made 2 (script_size (act_fields m)) 13 m past in
    let listed = listed_bound m ok past legal in
    let codes = code_sizes m ok past legal in
    let asks = queries_bound m ok past legal in
    let own = own_claims_bound m ok past legal in
    let times = fifteen (total (queries_in m) past) in
    let firmware = firmware_size-is m in
    let weight = plain_weight m in
    omega arith

pub weight_bounds : (m : MachineData) (history : List Entry) → IsMachine m → Legal m history → length history ≤ weight_of m
weight_bounds m history ok legal =
    let most = weighed m ok (reverse history) legal in
    let same = length-reverse history in
    omega arith
