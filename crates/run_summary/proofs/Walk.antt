-- The walk over the entries of a board, oldest first, against the counts of its past.
use Rattle.std.proofs.Common.{ℕ, ◌+◌, ◌≤◌, ◌≡◌, ◌==◌, ◌&&◌, not, Bool, true, false, List, [], ◌∷◌, length, reverse, take, Option, Some, None, slice_get, if◌then◌else◌, refl, sym, ap, ◌∙◌, arith}
use Rattle.std.proofs.lemmas.List.{reverse-append, take_all}
use Rattle.acpi_regs.specs.declared.actor.Actor.{Actor}
use Rattle.acpi_regs.specs.declared.entry.Deed.{Deed}
use Rattle.acpi_regs.specs.declared.entry.Deed.TheVariants as deed
use Rattle.acpi_regs.specs.declared.entry.Effect.TheVariants as effect
use Rattle.acpi_regs.specs.declared.entry.Entry.{Entry}
use Rattle.acpi_regs.specs.History.{past_of}
use Rattle.machine_desc.specs.Machine.{MachineData}
use Rattle.machine_history.specs.declared.parts.Job.TheVariants as job
use Rattle.machine_history.specs.Jobs.{jobs, made_by}
use Rattle.machine_history.specs.Sentences.{codes_of}
use Rattle.machine_history.specs.Wire.{Open, asks_code, codes, moved, open_after, open_of, put_out}
use Rattle.machine_history.proofs.Codes.{claim_code, code_jobs_in, code_price}
use Rattle.machine_history.proofs.Fronts.{take-more}
use Rattle.machine_history.proofs.Totals.{sum_of, total}
use Rattle.run_summary.specs.Told.{adds, adds_by, asks_after, codes_by, notifies, notifies_by, tally_of}
use Rattle.run_summary.proofs.Counts.{once}
use Rattle.run_summary.proofs.Pushed.{jobs_worth}

-- ---- one entry more

pub past-next : (history : List Entry) (i : ℕ) (e : Entry) → slice_get history i ≡ Some e → past_of history (i + 1) ≡ e ∷ past_of history i
past-next history i e at = ap reverse (take-more history i e at) ∙ reverse-append (take i history) (e ∷ [])

pub past-all : (history : List Entry) (i : ℕ) → length history ≤ i → past_of history i ≡ reverse history
past-all history i whole = ap reverse (take_all i history whole)

-- ---- what the walk counts

pub tally-adds : (past : List Entry) → (tally_of past).adds ≡ adds past
tally-adds [] = refl
tally-adds (e ∷ past) = ap (λ n. adds_by e.actor e.deed + n) (tally-adds past)

pub tally-notifies : (past : List Entry) → (tally_of past).notifies ≡ notifies past
tally-notifies [] = refl
tally-notifies (e ∷ past) = ap (λ n. notifies_by e.deed + n) (tally-notifies past)

asks_moved : (o : Option Open) → asks_code (moved o) ≡ asks_code o
asks_moved None = refl
asks_moved (Some o) = refl

asks_put : (v : ℕ) (o : Option Open) → asks_code (put_out v o) ≡ asks_code o
asks_put v None = refl
asks_put v (Some o) = refl

asks_next : (a : Actor) (d : Deed) (o : Option Open) → asks_code (open_after a d o) ≡ asks_after d (asks_code o)
asks_next a (deed.Begin r) o = refl
asks_next a (deed.Take v) o = refl
asks_next a (deed.Step h) o = asks_moved o
asks_next a (deed.Ctl effect.Taken) o = asks_moved o
asks_next a (deed.Ctl (effect.Out v)) o = asks_put v o
asks_next a (deed.Ctl effect.Put) o = asks_moved o
asks_next a (deed.Ctl effect.Calm) o = refl
asks_next a _ o = refl

pub tally-asks : (past : List Entry) → (tally_of past).asks ≡ asks_code (open_of past)
tally-asks [] = refl
tally-asks (e ∷ past) = ap (asks_after e.deed) (tally-asks past) ∙ sym (asks_next e.actor e.deed (open_of past))

code_made : (m : MachineData) (o : Option Open) (queue : List ℕ) (d : Deed) → codes_by (asks_code o) d ≡ code_price once (made_by m o queue d)
code_made m o queue (deed.Claim n) = sym (claim_code once m queue n)
code_made m o queue (deed.Take None) = refl
code_made m o queue (deed.Take (Some q)) = at (asks_code o && not (q == 0))
  where
    at : (b : Bool) → (if b then 1 else 0) ≡ code_price once (if b then Some (job.Code q) else None)
    at true = refl
    at false = refl
code_made m o queue _ = refl

tally-made : (m : MachineData) (past : List Entry) → (tally_of past).codes ≡ total (code_jobs_in once m) past
tally-made m [] = refl
tally-made m (e ∷ past) =
    let rest = tally-made m past in
    let same = ap (λ b. codes_by b e.deed) (tally-asks past) in
    let here = code_made m (open_of past) (codes past) e.deed in
    omega arith

sum_once : (xs : List ℕ) → sum_of once xs ≡ length xs
sum_once [] = refl
sum_once (x ∷ xs) = let rest = sum_once xs in omega arith

pub tally-codes : (m : MachineData) (past : List Entry) → (tally_of past).codes ≡ length (codes_of (jobs m past))
tally-codes m past = tally-made m past ∙ (jobs_worth once m past ∙ sum_once (codes_of (jobs m past)))
