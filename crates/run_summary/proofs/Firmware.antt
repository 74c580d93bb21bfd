-- What the entries of a history at rest are charged for, at prices at which each plan has one price.
use Rattle.std.proofs.Common.{ℕ, zero, suc, ◌+◌, ◌<◌, ◌≡◌, ◌⊎◌, inl, inr, true, List, [], ◌∷◌, length, reverse, Option, if◌then◌else◌, refl, subst, arith}
use Rattle.std.proofs.lemmas.Bool.{lt-ltb}
use Rattle.acpi_regs.specs.declared.actor.Actor.{Actor}
use Rattle.acpi_regs.specs.declared.actor.Actor.TheVariants as actor
use Rattle.acpi_regs.specs.declared.entry.Deed.{Deed}
use Rattle.acpi_regs.specs.declared.entry.Deed.TheVariants as deed
use Rattle.acpi_regs.specs.declared.entry.Entry.{Entry}
use Rattle.handler_script.specs.declared.act.Act.{Act}
use Rattle.handler_script.specs.declared.op.Op.{Op}
use Rattle.handler_script.specs.Plan.{End, plan}
use Rattle.machine_desc.specs.Machine.{MachineData, act_fields}
use Rattle.machine_history.specs.declared.parts.Job.{Job}
use Rattle.machine_history.specs.Complete.{Complete}
use Rattle.machine_history.specs.Legal.{Allowed, LegalPast, is_worker, runs_scripts}
use Rattle.machine_history.specs.Scripts.{plan_left, script_of}
use Rattle.machine_history.proofs.Actors.{ByFirmware, ByScripts, over, over-plus, over_within, upto, within_firmware, within_over}
use Rattle.machine_history.proofs.Adding.{charged_by, over_firsts}
use Rattle.machine_history.proofs.JobCounts.{firmware_starts}
use Rattle.machine_history.proofs.Keeping.{kept}
use Rattle.machine_history.proofs.Known.{hold}
use Rattle.machine_history.proofs.Machines.{first_worth, upto-sum}
use Rattle.machine_history.proofs.Paying.{started}
use Rattle.machine_history.proofs.Prices.{charged}
use Rattle.machine_history.proofs.Stages.{by_own}
use Rattle.machine_history.proofs.Totals.{Count, own, sum_of, total}
use Rattle.run_summary.proofs.Exact.{Counts, IsPrompt, JobsCount, counted_all}

pub upto-same : (f g : ℕ → ℕ) (n : ℕ) → ((k : ℕ) → k < n → f k ≡ g k) → upto f n ≡ upto g n
upto-same f g zero same = refl
upto-same f g (suc n) same =
    let here = same n (omega arith) in
    let rest = upto-same f g n (λ k less. same k (omega arith)) in
    omega arith

-- ---- nothing is left of any plan

-- each worker has nothing left, and each firmware
pub record AllEnded (m : MachineData) (past : List Entry) : Type 0 where
  pub workers : (k : ℕ) → k < m.workers → plan_left m past (actor.Worker k) ≡ End
  pub firmware : (k : ℕ) → k < length m.firmware → plan_left m past (actor.Firmware k) ≡ End

pub all_ended : (m : MachineData) (history : List Entry) → Complete m history → AllEnded m (reverse history)
all_ended m history complete = record {
  workers = λ k less. (kept m (reverse history) (actor.Worker k) complete.legal).2 (lt-ltb k m.workers less) (complete.rest.none_runs (actor.Worker k));
  firmware = complete.ended;
}

-- ---- the firmware

-- what each script of the firmware costs
abbrev pub ScriptsCount : (Act → ℕ) → MachineData → (List Op → ℕ) → Type 0
ScriptsCount f m c = (k : ℕ) → Counts f (plan (act_fields m) (script_of m k)) (c (script_of m k))

-- a count that is the price of each act of the firmware
abbrev pub IsPriceOf : (Act → ℕ) → Count → Type 0
IsPriceOf f c = (past : List Entry) (k : ℕ) (d : Deed) → c past (record { actor = actor.Firmware k; deed = d }) ≡ charged f past (record { actor = actor.Firmware k; deed = d })

pub own_price : (f : Act → ℕ) (c : Count) (k : ℕ) → IsPriceOf f c → (past : List Entry) → total (own (actor.Firmware k) c) past ≡ total (own (actor.Firmware k) (charged f)) past
own_price f c k price [] = refl
own_price f c k price (e ∷ past) =
    let rest = own_price f c k price past in
    let here = by_own (actor.Firmware k) e.actor (λ x. (if x then c past e else 0) ≡ (if x then charged f past e else 0))
    (λ same. subst (λ a. c past (record { actor = a; deed = e.deed }) ≡ charged f past (record { actor = a; deed = e.deed })) same (price past k e.deed))
    (λ other. refl) in
    omega arith

pub firmware_counted : (f : Act → ℕ) (c : Count) (cost : List Op → ℕ) (m : MachineData) → IsPrompt f → IsPriceOf f c → ByFirmware m c → ScriptsCount f m cost → (past : List Entry) → LegalPast m past → AllEnded m past
    → total c past ≡ sum_of cost m.firmware
firmware_counted f c cost m prompt price by scripts past legal ended =
    let most = within_firmware m c by past legal in
    let least = over_within m c past in
    let each = upto-same (λ k. total (own (actor.Firmware k) c) past) (λ k. cost (script_of m k)) (length m.firmware)
    (λ k less. (
    let same = own_price f c k price past in
    let all = counted_all (λ j. 0) (cost (script_of m k)) f m (actor.Firmware k) prompt (λ works. cc) (scripts k) past legal (ended.firmware k less) in
    let none = firmware_starts (λ j. 0) m k past legal in
    omega arith)) in
    let sum = upto-sum cost m.firmware in
    omega arith

-- ---- workers and firmware

pub over-same : (m : MachineData) (f g : Actor → ℕ) → ((k : ℕ) → k < m.workers → f (actor.Worker k) ≡ g (actor.Worker k)) → ((k : ℕ) → k < length m.firmware → f (actor.Firmware k) ≡ g (actor.Firmware k)) → over m f ≡ over m g
over-same m f g workers firmware =
    let one = upto-same (λ k. f (actor.Worker k)) (λ k. g (actor.Worker k)) m.workers workers in
    let other = upto-same (λ k. f (actor.Firmware k)) (λ k. g (actor.Firmware k)) (length m.firmware) firmware in
    omega arith

pub started_by : (w : Option Job → ℕ) (m : MachineData) → ByScripts m (started w m)
started_by w m past e ok = at e.actor e.deed ok
  where
    works : (a : Actor) → is_worker m a ≡ true → runs_scripts m a ≡ true
    works a is = rw is refl

    at : (a : Actor) (d : Deed) → Allowed m past (record { actor = a; deed = d }) → (started w m past (record { actor = a; deed = d }) ≡ 0) ⊎ (runs_scripts m a ≡ true)
    at a (deed.Start k) ok = inr (works a (hold m past a (deed.Start k) ok).0)
    at a _ ok = inl refl

pub all_counted : (f : Act → ℕ) (w : Option Job → ℕ) (cost : List Op → ℕ) (m : MachineData) → IsPrompt f → ((a : Actor) → JobsCount f m a w) → ScriptsCount f m cost → (past : List Entry) → LegalPast m past → AllEnded m past
    → total (charged f) past ≡ sum_of cost m.firmware + total (started w m) past
all_counted f w cost m prompt jobs scripts past legal ended =
    let most = within_over m (charged f) (charged_by m f) past legal in
    let least = over_within m (charged f) past in
    let each = over-same m (λ a. total (own a (charged f)) past) (λ a. first_worth cost m a + total (own a (started w m)) past)
    (λ k less. counted_all w 0 f m (actor.Worker k) prompt (jobs (actor.Worker k)) refl past legal (ended.workers k less))
    (λ k less. counted_all w (cost (script_of m k)) f m (actor.Firmware k) prompt (jobs (actor.Firmware k)) (scripts k) past legal (ended.firmware k less)) in
    let parts = over-plus m (first_worth cost m) (λ a. total (own a (started w m)) past) in
    let starts_most = within_over m (started w m) (started_by w m) past legal in
    let starts_least = over_within m (started w m) past in
    let firsts = over_firsts m cost in
    omega arith
