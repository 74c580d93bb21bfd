-- What a complete history of a machine that is made is counted for is what its operations come to.
use Rattle.std.proofs.Common.{ℕ, ◌+◌, ◌<◌, ◌≡◌, ◌⊎◌, inl, inr, Bool, true, false, List, [], ◌∷◌, length, reverse, slice_get, sum_by, Option, Some, None, refl, sym, ap, ◌∙◌, subst, arith}
use Rattle.acpi_regs.specs.declared.actor.Actor.{Actor}
use Rattle.acpi_regs.specs.declared.actor.Actor.TheVariants as actor
use Rattle.acpi_regs.specs.declared.entry.Deed.{Deed}
use Rattle.acpi_regs.specs.declared.entry.Deed.TheVariants as deed
use Rattle.acpi_regs.specs.declared.entry.Entry.{Entry}
use Rattle.handler_script.specs.declared.op.Op.{Op}
use Rattle.handler_script.specs.Costs.{ops_cost}
use Rattle.handler_script.specs.Plan.{plan, query_plan}
use Rattle.machine_desc.specs.Kept.{IsMachine}
use Rattle.machine_desc.specs.Machine.{MachineData, act_fields, glk}
use Rattle.machine_history.specs.declared.parts.Job.{Job}
use Rattle.machine_history.specs.declared.parts.Job.TheVariants as job
use Rattle.machine_history.specs.Complete.{Complete}
use Rattle.machine_history.specs.Jobs.{jobs}
use Rattle.machine_history.specs.Legal.{Allowed, is_firmware}
use Rattle.machine_history.specs.Machine.{code_script}
use Rattle.machine_history.specs.Sentences.{codes_of}
use Rattle.machine_history.proofs.Actors.{ByFirmware}
use Rattle.machine_history.proofs.Adding.{pushes_by}
use Rattle.machine_history.proofs.Codes.{code_price}
use Rattle.machine_history.proofs.Known.{hold}
use Rattle.machine_history.proofs.Machines.{sum-same}
use Rattle.machine_history.proofs.Paying.{start_worth, started}
use Rattle.machine_history.proofs.Prices.{charge, charged, pushes_price}
use Rattle.machine_history.proofs.ScriptPrices.{push_of, sums-same, uniform_pushes}
use Rattle.machine_history.proofs.Totals.{Count, sum_of, total}
use Rattle.machine_maker.specs.Maker as maker
use Rattle.machine_maker.specs.Maker.{made}
use Rattle.machine_maker.specs.Summary.{one_add, one_push, over_firmware}
use Rattle.run_summary.specs.Told.{adds, adds_by, is_code, notifies, notifies_by, runs, runs_by}
use Rattle.run_summary.proofs.Drawn.{each_drawn, each_script, four-same, handler_notifies, handler_skips, no_notifies, no_skips, pushes_sum, quiet, writes_sum}
use Rattle.run_summary.proofs.Exact.{Counts, JobsCount}
use Rattle.run_summary.proofs.Firmware.{IsPriceOf, ScriptsCount, all_counted, all_ended, firmware_counted}
use Rattle.run_summary.proofs.Plans.{is, script_counts}
use Rattle.run_summary.proofs.Priced.{notifies_ops, notifies_price, notify_of, prompt_notifies, prompt_pushes, prompt_writes, pushes_ops, uniform_notifies, uniform_writes, writes_price}
use Rattle.run_summary.proofs.Pushed.{codes_started, jobs_worth, starts_worth}

-- ---- the counts as totals

abbrev pub adds_count : Count
adds_count past e = adds_by e.actor e.deed

pub adds-is : (past : List Entry) → adds past ≡ total adds_count past
adds-is [] = refl
adds-is (e ∷ past) = ap (λ n. adds_by e.actor e.deed + n) (adds-is past)

abbrev pub once : ℕ → ℕ
once q = 1

pub runs-is : (m : MachineData) (past : List Entry) → runs m past ≡ total (started (code_price once) m) past
runs-is m [] = refl
runs-is m (e ∷ past) = let rest = runs-is m past in let here = at e.deed in omega arith
  where
    code : (o : Option Job) → is_code o ≡ code_price once o
    code None = refl
    code (Some (job.Event n)) = refl
    code (Some job.Query) = refl
    code (Some (job.Code q)) = refl

    at : (d : Deed) → runs_by (jobs m past) d ≡ start_worth (code_price once) (jobs m past) d
    at (deed.Start j) = code (slice_get (jobs m past) j)
    at _ = refl

pub notifies-is : (past : List Entry) → notifies past ≡ total (charged notifies_price) past
notifies-is [] = refl
notifies-is (e ∷ past) = let rest = notifies-is past in let here = at e.deed in omega arith
  where
    at : (d : Deed) → notifies_by d ≡ charge notifies_price d
    at (deed.Notify x v) = refl
    at _ = refl

pub over_firmware-is : (f : Op → ℕ) (m : MachineData) → over_firmware f m ≡ sum_of (sum_of f) m.firmware
over_firmware-is f m = sums-same (sum_by f) m.firmware ∙ sum-same (sum_by f) (sum_of f) m.firmware (sums-same f)

-- ---- additions

pub adds_price : IsPriceOf writes_price adds_count
adds_price past k (deed.Write c v) = refl
adds_price past k _ = refl

pub adds_by_firmware : (m : MachineData) → ByFirmware m adds_count
adds_by_firmware m past e ok = at e.actor e.deed ok
  where
    at : (a : Actor) (d : Deed) → Allowed m past (record { actor = a; deed = d }) → (adds_by a d ≡ 0) ⊎ (is_firmware m a ≡ true)
    at (actor.Firmware k) (deed.Write c v) ok = inr (hold m past (actor.Firmware k) (deed.Write c v) ok).0
    at _ _ ok = inl refl

abbrev pub cost_in : (number size : ℕ) → List Op → ℕ
cost_in number size ops = ops_cost writes_price (act_fields (made number size)) false ops

pub writes_count : (number size : ℕ) → ScriptsCount writes_price (made number size) (cost_in number size)
writes_count number size k = each_script (λ ops. Counts writes_price (plan (act_fields (made number size)) ops) (cost_in number size ops)) number size refl
    (λ k. script_counts writes_price (act_fields (made number size)) (maker.script_of number size k) uniform_writes (no_skips number size (maker.script_of number size k) (each_drawn number size k))) k

pub all_adds : (number size : ℕ) (history : List Entry) → Complete (made number size) history → adds (reverse history) ≡ over_firmware one_add (made number size)
all_adds number size history complete =
    let counted = firmware_counted writes_price adds_count (cost_in number size) (made number size) prompt_writes adds_price (adds_by_firmware (made number size)) (writes_count number size) (reverse history) complete.legal (all_ended (made number size) history complete) in
    let same = four-same number size (cost_in number size) (sum_of one_add) (λ k. writes_sum number size (maker.script_of number size k) (each_drawn number size k)) in
    adds-is (reverse history) ∙ (counted ∙ (same ∙ sym (over_firmware-is one_add (made number size))))

-- ---- pushes

pub pushes_count : (number size : ℕ) (g : ℕ → ℕ) → ScriptsCount (pushes_price g) (made number size) (sum_of (push_of g))
pushes_count number size g k = each_script (λ ops. Counts (pushes_price g) (plan (act_fields (made number size)) ops) (sum_of (push_of g) ops)) number size refl
    (λ k. is (pushes_price g) (plan (act_fields (made number size)) (maker.script_of number size k)) _ _ (pushes_ops g (act_fields (made number size)) false (maker.script_of number size k))
    (script_counts (pushes_price g) (act_fields (made number size)) (maker.script_of number size k) (uniform_pushes g) (no_skips number size (maker.script_of number size k) (each_drawn number size k)))) k

-- what the pushes of the scripts are worth
pub all_pushed : (number size : ℕ) (g : ℕ → ℕ) (history : List Entry) → Complete (made number size) history
    → total (charged (pushes_price g)) (reverse history) ≡ sum_of (sum_of (push_of g)) (made number size).firmware
all_pushed number size g history complete =
    firmware_counted (pushes_price g) (charged (pushes_price g)) (sum_of (push_of g)) (made number size) (prompt_pushes g) (λ past k d. refl) (pushes_by (made number size) g) (pushes_count number size g) (reverse history) complete.legal (all_ended (made number size) history complete)

-- the starts of codes are worth as much
pub all_codes : (number size : ℕ) (g : ℕ → ℕ) (history : List Entry) → IsMachine (made number size) → Complete (made number size) history
    → total (started (code_price g) (made number size)) (reverse history) ≡ sum_of (sum_of (push_of g)) (made number size).firmware
all_codes number size g history ok complete =
    codes_started g (made number size) ok (reverse history) complete.legal complete.rest ∙ all_pushed number size g history complete

-- where each of the eight codes is worth 1
pub codes_once : (number size : ℕ) (g : ℕ → ℕ) (history : List Entry) → ((q : ℕ) → q < 8 → g (1 + q) ≡ 1) → IsMachine (made number size) → Complete (made number size) history
    → total (started (code_price g) (made number size)) (reverse history) ≡ over_firmware one_push (made number size)
codes_once number size g history one ok complete =
    all_codes number size g history ok complete
    ∙ (four-same number size (sum_of (push_of g)) (sum_of one_push) (λ k. pushes_sum number size g one (maker.script_of number size k) (each_drawn number size k))
    ∙ sym (over_firmware-is one_push (made number size)))

pub all_runs : (number size : ℕ) (history : List Entry) → IsMachine (made number size) → Complete (made number size) history → runs (made number size) (reverse history) ≡ over_firmware one_push (made number size)
all_runs number size history ok complete = runs-is (made number size) (reverse history) ∙ codes_once number size once history (λ q less. refl) ok complete

sum_once : (xs : List ℕ) → sum_of once xs ≡ length xs
sum_once [] = refl
sum_once (x ∷ xs) = let rest = sum_once xs in omega arith

-- the jobs of codes, of which each was started
pub all_made : (number size : ℕ) (history : List Entry) → IsMachine (made number size) → Complete (made number size) history → length (codes_of (jobs (made number size) (reverse history))) ≡ over_firmware one_push (made number size)
all_made number size history ok complete =
    let past = reverse history in
    let long = sum_once (codes_of (jobs (made number size) past)) in
    let worth = jobs_worth once (made number size) past in
    let all = starts_worth once (made number size) past complete.legal complete.rest.all_started in
    let codes = codes_once number size once history (λ q less. refl) ok complete in
    omega arith

-- ---- notifies

abbrev pub notified_by : (number size q : ℕ) → ℕ
notified_by number size q = sum_of notify_of (code_script (made number size) q)

query_notifies : (needs : Bool) → Counts notifies_price (query_plan needs) 0
query_notifies false = (0, refl, λ byte. refl)
query_notifies true = (0, refl, λ byte. (0, refl, λ byte. (0, refl, λ byte. refl)))

pub jobs_notify : (number size : ℕ) (a : Actor) → JobsCount notifies_price (made number size) a (code_price (notified_by number size))
jobs_notify number size a works None = refl
jobs_notify number size a works (Some (job.Event n)) = subst (λ ops. Counts notifies_price (plan (act_fields (made number size)) ops) 0) (sym (quiet number size n)) refl
jobs_notify number size a works (Some job.Query) = query_notifies (glk (made number size))
jobs_notify number size a works (Some (job.Code q)) =
    is notifies_price (plan (act_fields (made number size)) (code_script (made number size) q)) _ _ (notifies_ops (act_fields (made number size)) false (code_script (made number size) q))
    (script_counts notifies_price (act_fields (made number size)) (code_script (made number size) q) uniform_notifies (handler_skips number size q))

pub firmware_notifies : (number size : ℕ) → ScriptsCount notifies_price (made number size) (sum_of notify_of)
firmware_notifies number size k = each_script (λ ops. Counts notifies_price (plan (act_fields (made number size)) ops) (sum_of notify_of ops)) number size refl
    (λ k. is notifies_price (plan (act_fields (made number size)) (maker.script_of number size k)) _ _ (notifies_ops (act_fields (made number size)) false (maker.script_of number size k))
    (script_counts notifies_price (act_fields (made number size)) (maker.script_of number size k) uniform_notifies (no_skips number size (maker.script_of number size k) (each_drawn number size k)))) k

none : (firmware : List (List Op)) → sum_of (λ ops. 0) firmware ≡ 0
none [] = refl
none (ops ∷ firmware) = let rest = none firmware in omega arith

pub all_notifies : (number size : ℕ) (history : List Entry) → IsMachine (made number size) → Complete (made number size) history → notifies (reverse history) ≡ over_firmware one_push (made number size)
all_notifies number size history ok complete =
    let counted = all_counted notifies_price (code_price (notified_by number size)) (sum_of notify_of) (made number size) prompt_notifies (jobs_notify number size) (firmware_notifies number size) (reverse history) complete.legal (all_ended (made number size) history complete) in
    let no_firmware = four-same number size (sum_of notify_of) (λ ops. 0) (λ k. no_notifies number size (maker.script_of number size k) (each_drawn number size k)) in
    let nothing = none (made number size).firmware in
    let codes = codes_once number size (notified_by number size) history (handler_notifies number size) ok complete in
    let all = notifies-is (reverse history) in
    omega arith
