-- In a complete history all that was to be added has been added.
use Rattle.std.proofs.Common.{ℕ, zero, suc, ◌+◌, ◌%◌, ◌<◌, ◌≡◌, ◌==◌, ◌&&◌, ◌⊎◌, inl, inr, not, nat_lt, Bool, true, false, List, [], ◌∷◌, length, reverse, if◌then◌else◌, Option, Some, None, option_map, slice_get, unwrap_or, refl, sym, ap, ◌∙◌, subst, arith}
use Rattle.std.proofs.lemmas.Bool.{and_from, and_parts, cases_Bool, eq-eqb, le-leb, lt-ltb}
use Rattle.acpi_regs.specs.declared.actor.Actor.{Actor}
use Rattle.acpi_regs.specs.declared.actor.Actor.TheVariants as actor
use Rattle.acpi_regs.specs.declared.entry.Cell.{Cell}
use Rattle.acpi_regs.specs.declared.entry.Deed.{Deed}
use Rattle.acpi_regs.specs.declared.entry.Deed.TheVariants as deed
use Rattle.acpi_regs.specs.declared.entry.Entry.{Entry}
use Rattle.field_units.specs.declared.rules.RegionKind.{RegionKind}
use Rattle.field_units.specs.declared.rules.RegionKind.TheVariants as kind
use Rattle.field_units.specs.Bits.{byte_count, in_span}
use Rattle.field_units.specs.Bits as bits
use Rattle.field_units.specs.declared.rules.LockRule.{LockRule}
use Rattle.field_units.specs.declared.rules.LockRule.TheVariants as lock
use Rattle.field_units.specs.Field.{Field, RegionData, is_controller}
use Rattle.handler_script.specs.Parts.{cell_of}
use Rattle.handler_script.specs.Plan.{End}
use Rattle.machine_desc.specs.Kept.{IsField, IsMachine}
use Rattle.machine_desc.specs.Machine.{MachineData, act_fields, acting, glk, lock_where}
use Rattle.machine_desc.proofs.Acting.{acting_at, acts_at}
use Rattle.machine_desc.proofs.EachItem.{each_all}
use Rattle.machine_history.specs.declared.parts.Job.{Job}
use Rattle.machine_history.specs.declared.parts.Job.TheVariants as job
use Rattle.machine_history.specs.Acts.{is_memory}
use Rattle.machine_history.specs.Cells.{cells_in, first_byte}
use Rattle.machine_history.specs.Complete.{Complete}
use Rattle.machine_history.specs.Jobs.{and_job, jobs, made, starts}
use Rattle.machine_history.specs.Legal.{Allowed, LegalPast, runs_scripts}
use Rattle.machine_history.specs.Machine.{code_script, controller_place, event_script, space}
use Rattle.machine_history.specs.Scripts.{first_plan, job_plan, plan_left, script_of}
use Rattle.machine_history.specs.Values.{same_cell, value}
use Rattle.machine_history.specs.Wire.{open_of}
use Rattle.machine_history.proofs.Actors.{ByScripts, over, over-plus, over_within, upto, upto-zero, within_over}
use Rattle.machine_history.proofs.JobCounts.{made_in, made_worth, started_is, waits}
use Rattle.machine_history.proofs.Keeping.{kept}
use Rattle.machine_history.proofs.Known.{hold, same_cell-true}
use Rattle.machine_history.proofs.Locking.{by_worker}
use Rattle.machine_history.proofs.Paying.{started}
use Rattle.machine_history.proofs.ScriptPrices.{sums-same}
use Rattle.machine_history.proofs.Totals.{Count, own, sum_of, sum_of-push, total}
use Rattle.core_laws.specs.Adds.{EveryOp, IsAddedTo, SumsAdds, adds, is_no_skip, job_adds, touches}
use Rattle.core_laws.proofs.AddPlans.{Adds, Around, query_adds, script_adds}
use Rattle.core_laws.proofs.AddLedger.{Apart, Left, Sums, accounts, amount, amount_of, end_left, entry, open_apart}

-- ---- sums over actors, modulo 256

upto_mod : (f g : ℕ → ℕ) (n : ℕ) → ((k : ℕ) → k < n → f k % 256 ≡ g k % 256) → upto f n % 256 ≡ upto g n % 256
upto_mod f g zero same = refl
upto_mod f g (suc n) same =
    let rest = upto_mod f g n (λ k below. same k (omega arith)) in
    let here = same n (omega arith) in
    omega arith

upto_first : (f : ℕ → ℕ) (n : ℕ) → upto f (suc n) ≡ f 0 + upto (λ k. f (suc k)) n
upto_first f zero = refl
upto_first f (suc n) = let rest = upto_first f n in omega arith

-- the firmware's scripts one by one, or as a list
upto_list : {X : Type 0} (f : X → ℕ) (none : X) (xs : List X) → upto (λ k. f (unwrap_or (slice_get xs k) none)) (length xs) ≡ sum_of f xs
upto_list f none [] = refl
upto_list f none (x ∷ xs) = upto_first (λ k. f (unwrap_or (slice_get (x ∷ xs) k) none)) (length xs) ∙ ap (λ k. f x + k) (upto_list f none xs)

-- a count of the entries of workers and firmware is the sum of their own
whole : (m : MachineData) (c : Count) → ByScripts m c → (past : List Entry) → LegalPast m past → total c past ≡ over m (λ a. total (own a c) past)
whole m c by past legal = let most = within_over m c by past legal in let least = over_within m c past in omega arith

amount_by : (m : MachineData) (c : Cell) → Apart m c → ByScripts m (amount m c)
amount_by m c apart past e ok = at e.actor e.deed ok
  where
    at : (a : Actor) (d : Deed) → Allowed m past (entry a d) → (amount m c past (entry a d) ≡ 0) ⊎ (runs_scripts m a ≡ true)
    at a (deed.Write x u) ok = inr (hold m past a (deed.Write x u) ok).0
    at a (deed.Ctl e) ok = inl (ap (amount_of (value m past c)) (open_apart m c (open_of past) e apart))
    at a (deed.Read x u) ok = inl refl
    at a _ ok = inl refl

started_by : (m : MachineData) (w : Option Job → ℕ) → ByScripts m (started w m)
started_by m w past e ok = at e.actor e.deed ok
  where
    at : (a : Actor) (d : Deed) → Allowed m past (entry a d) → (started w m past (entry a d) ≡ 0) ⊎ (runs_scripts m a ≡ true)
    at a (deed.Start j) ok = inr (by_worker m a (hold m past a (deed.Start j) ok).0)
    at a _ ok = inl refl

-- ---- the jobs: at rest each that was made was started

made_all : (m : MachineData) (w : Option Job → ℕ) (past : List Entry) → total (made_in w m) past ≡ sum_of (λ j. w (Some j)) (jobs m past)
made_all m w [] = refl
made_all m w (e ∷ past) = at (made m past e) (made_all m w past)
  where
    at : (o : Option Job) → total (made_in w m) past ≡ sum_of (λ j. w (Some j)) (jobs m past) → made_worth w o + total (made_in w m) past ≡ sum_of (λ j. w (Some j)) (and_job (jobs m past) o)
    at None before = omega arith
    at (Some j) before = let push = sum_of-push (λ x. w (Some x)) (jobs m past) j in omega arith

none_waits : (w : Option Job → ℕ) (js : List Job) → waits w js (length js) ≡ 0
none_waits w [] = refl
none_waits w (j ∷ js) = none_waits w js

started_all : (m : MachineData) (w : Option Job → ℕ) (past : List Entry) → LegalPast m past → starts past ≡ length (jobs m past) → total (started w m) past ≡ sum_of (λ j. w (Some j)) (jobs m past)
started_all m w past legal all =
    let counts = (started_is w m past legal).1 in
    let none : waits w (jobs m past) (starts past) ≡ 0 = ap (waits w (jobs m past)) all ∙ none_waits w (jobs m past) in
    let made = made_all m w past in
    omega arith

-- ---- the end

module _ (m : MachineData) (c : Cell) (v : Actor → ℕ) (w : Option Job → ℕ) (is : IsMachine m) (sums : Sums m c v w) (past : List Entry) (legal : LegalPast m past) where
  -- an actor that has nothing left has added all
  ended : (a : Actor) → plan_left m past a ≡ End → total (own a (amount m c)) past % 256 ≡ (v a + total (own a (started w m)) past) % 256
  ended a over =
      let account = (accounts m c v w is sums past legal).1 a in
      let none = end_left c (value m past c) account.0 (subst (λ p. Left c (value m past c) account.0 p) over account.1) in
      let sum : (total (own a (amount m c)) past + account.0) % 256 ≡ (v a + total (own a (started w m)) past) % 256 = account.2 in
      omega arith

  all_ended : ((k : ℕ) → k < m.workers → plan_left m past (actor.Worker k) ≡ End) → ((k : ℕ) → k < length m.firmware → plan_left m past (actor.Firmware k) ≡ End) → starts past ≡ length (jobs m past)
      → value m past c ≡ (first_byte m c + (over m v + sum_of (λ j. w (Some j)) (jobs m past))) % 256
  all_ended workers firmware all =
      let byte = (accounts m c v w is sums past legal).0 in
      let amounts = whole m (amount m c) (amount_by m c sums.apart) past legal in
      let starts = whole m (started w m) (started_by m w) past legal in
      let jobs = started_all m w past legal all in
      let split = over-plus m v (λ a. total (own a (started w m)) past) in
      let os = upto_mod (λ k. total (own (actor.Worker k) (amount m c)) past) (λ k. v (actor.Worker k) + total (own (actor.Worker k) (started w m)) past) m.workers (λ k below. ended (actor.Worker k) (workers k below)) in
      let fw = upto_mod (λ k. total (own (actor.Firmware k) (amount m c)) past) (λ k. v (actor.Firmware k) + total (own (actor.Firmware k) (started w m)) past) (length m.firmware) (λ k below. ended (actor.Firmware k) (firmware k below)) in
      byte ∙ omega arith

-- ---- a field that the law speaks of

kind_memory : (k : RegionKind) → not (is_controller k) ≡ true → k ≡ kind.Memory
kind_memory kind.Memory is = refl
kind_memory kind.Controller is = cc

region_memory : (o : Option RegionData) (r : RegionData) → o ≡ Some r → is_memory o ≡ true → r.kind ≡ kind.Memory
region_memory None r is memory = cc
region_memory (Some x) r is memory = let same : x ≡ r = cc in subst (λ y. y.kind ≡ kind.Memory) same (kind_memory x.kind memory)

-- a cell of the controller's space is no cell of memory
place_kind : (regions : List RegionData) → is_memory (slice_get regions (controller_place regions)) ≡ false
place_kind [] = refl
place_kind (r ∷ regions) = at (is_controller r.kind) refl (place_kind regions)
  where
    at : (b : Bool) → is_controller r.kind ≡ b → is_memory (slice_get regions (controller_place regions)) ≡ false → is_memory (slice_get (r ∷ regions) (if b then 0 else (1 + controller_place regions))) ≡ false
    at true is rest = ap not is
    at false is rest = let next : 1 + controller_place regions ≡ suc (controller_place regions) = omega arith in ap (λ k. is_memory (slice_get (r ∷ regions) k)) next ∙ rest

never : {X : Type 0} (b : Bool) → b ≡ false → b ≡ true → X
never b isnt is = cc

apart : (m : MachineData) (c : Cell) → is_memory (slice_get m.regions c.region) ≡ true → Apart m c
apart m c memory x = elim (cases_Bool (same_cell (space m x) c)) [
  | inl same ↦
      let region = ap (λ (d : Cell). is_memory (slice_get m.regions d.region)) (same_cell-true (space m x) c same) in
      never (is_memory (slice_get m.regions (controller_place m.regions))) (place_kind m.regions) (region ∙ memory)
  | inr other ↦ other
]

beside : (m : MachineData) (c : Cell) (f g : ℕ) (other : Field) → IsAddedTo m c f → slice_get m.fields g ≡ Some other → (g == f) ≡ false → (k : ℕ) → k < byte_count other → same_cell (cell_of other k) c ≡ false
beside m c f g other h named apart k below = elim (cases_Bool (same_cell (cell_of other k) c)) [
  | inl same ↦
      let is = same_cell-true (cell_of other k) c same in
      let region : other.region ≡ c.region = ap (λ (d : Cell). d.region) is in
      let offset : bits.first_byte other + k ≡ c.offset = ap (λ (d : Cell). d.offset) is in
      let spans : in_span other c.offset ≡ true = and_from _ _ (le-leb (bits.first_byte other) c.offset (omega arith)) (lt-ltb c.offset (bits.first_byte other + byte_count other) (omega arith)) in
      let touched : touches other c ≡ true = and_from _ _ (eq-eqb other.region c.region region) spans in
      never (g == f) apart (eq-eqb g f (h.alone g other named touched))
  | inr none ↦ none
]

-- acts go by the rule Lock where the description gives it
stays_lock : (b : Bool) (rule : LockRule) → rule ≡ lock.Lock → lock_where b rule ≡ lock.Lock
stays_lock true rule is = refl
stays_lock false rule is = is

around : (m : MachineData) (c : Cell) (f : ℕ) → IsMachine m → IsAddedTo m c f → Around (act_fields m) c f
around m c f is h =
    let field = each_all (IsField m) m.fields is.fields f h.field h.named in
    let memory = (and_parts (is_memory (slice_get m.regions c.region)) (nat_lt c.offset (cells_in (slice_get m.regions c.region))) h.memory).0 in
    record {
      field = acting (glk m) h.field;
      named = acting_at (glk m) m.fields f ∙ ap (option_map (acting (glk m))) h.named;
      on = record {
        memory = field.kind ∙ region_memory (slice_get m.regions c.region) field.region (ap (slice_get m.regions) (sym h.region) ∙ field.named) memory;
        region = h.region;
        byte = record { first = h.first; width = h.width };
        lock = stays_lock (is_controller h.field.kind && glk m) h.field.lock h.lock;
      };
      others = λ g other named apart. (
          let a = acts_at (glk m) m.fields g other named in
          subst (λ (x : Field). (k : ℕ) → k < byte_count x → same_cell (cell_of x k) c ≡ false) a.same (beside m c f g a.given h a.named apart));
    }

-- ---- what each actor and each job adds

abbrev pub first_adds : MachineData → ℕ → Actor → ℕ
first_adds m f (actor.Firmware k) = adds f (script_of m k)
first_adds m f _ = 0

abbrev pub job_worth : MachineData → ℕ → Option Job → ℕ
job_worth m f None = 0
job_worth m f (Some j) = job_adds m f j

sums : (m : MachineData) (c : Cell) (f : ℕ) → IsMachine m → EveryOp is_no_skip m → IsAddedTo m c f → Sums m c (first_adds m f) (job_worth m f)
sums m c f is plain h = record {
  apart = apart m c (and_parts (is_memory (slice_get m.regions c.region)) (nat_lt c.offset (cells_in (slice_get m.regions c.region))) h.memory).0;
  byte = h.byte;
  firsts = firsts;
  jobs = of_job;
}
  where
    firsts : (a : Actor) → Adds c None (first_adds m f a) (first_plan m a)
    firsts (actor.Firmware k) = script_adds (act_fields m) c f (script_of m k) (around m c f is h) (h.adds.firmware k) (plain.firmware k)
    firsts _ = refl

    of_job : (j : Option Job) → Adds c None (job_worth m f j) (job_plan m j)
    of_job None = refl
    of_job (Some (job.Event n)) = script_adds (act_fields m) c f (event_script m n) (around m c f is h) (h.adds.events n) (plain.events n)
    of_job (Some job.Query) = query_adds c (glk m)
    of_job (Some (job.Code q)) = script_adds (act_fields m) c f (code_script m q) (around m c f is h) (h.adds.codes q) (plain.codes q)

pub sums_adds : (m : MachineData) (history : List Entry) → IsMachine m → EveryOp is_no_skip m → Complete m history → SumsAdds m history
sums_adds m history is plain complete c f h =
    let past = reverse history in
    let all = all_ended m c (first_adds m f) (job_worth m f) is (sums m c f is plain h) past complete.legal
    (λ k below. (kept m past (actor.Worker k) complete.legal).2 (lt-ltb k m.workers below) (complete.rest.none_runs (actor.Worker k)))
    complete.ended complete.rest.all_started in
    let workers = upto-zero m.workers in
    let firmware = upto_list (adds f) [] m.firmware in
    let scripts = sums-same (adds f) m.firmware in
    let jobs = sums-same (job_adds m f) (jobs m past) in
    all ∙ omega arith
