-- The codes of the runs that were started are a front of those that were given.
use Rattle.std.proofs.Common.{ℕ, zero, suc, ◌+◌, ◌<◌, ◌≤◌, ◌≡◌, List, [], ◌∷◌, ◌++◌, length, reverse, take, drop, slice_get, Option, Some, None, refl, sym, ap, ◌∙◌, append_assoc, arith}
use Rattle.std.proofs.lemmas.List.{take-append-drop, take-append-le}
use Rattle.acpi_regs.specs.declared.actor.Actor.{Actor}
use Rattle.acpi_regs.specs.declared.entry.Deed.{Deed}
use Rattle.acpi_regs.specs.declared.entry.Deed.TheVariants as deed
use Rattle.acpi_regs.specs.declared.entry.Entry.{Entry}
use Rattle.acpi_regs.specs.CoreEvents.{entry}
use Rattle.machine_desc.specs.Machine.{MachineData}
use Rattle.machine_history.specs.declared.parts.Job.{Job}
use Rattle.machine_history.specs.Jobs.{and_job, jobs, made, starts}
use Rattle.machine_history.specs.Legal.{Allowed, Legal, LegalPast}
use Rattle.machine_history.specs.Sentences.{code_of, codes_of, out_in}
use Rattle.machine_history.specs.Wire.{given, open_of}
use Rattle.history_laws.proofs.CodeOrder.{runs_as_given}
use Rattle.machine_history.proofs.JobCounts.{start_parts}
use Rattle.machine_history.proofs.Known.{hold}
use Rattle.core_laws.specs.Codes.{IsFront, code_at, started_codes}

append-nil : (xs : List ℕ) → xs ++ [] ≡ xs
append-nil [] = refl
append-nil (x ∷ xs) = ap (λ l. x ∷ l) (append-nil xs)

codes-append : (xs ys : List Job) → codes_of (xs ++ ys) ≡ codes_of xs ++ codes_of ys
codes-append [] ys = refl
codes-append (x ∷ xs) ys = ap (λ l. code_of x ++ l) (codes-append xs ys) ∙ sym (append_assoc (code_of x) (codes_of xs) (codes_of ys))

-- one job more
take_more : (js : List Job) (k : ℕ) → k < length js → codes_of (take (k + 1) js) ≡ codes_of (take k js) ++ code_at (slice_get js k)
take_more [] k less = absurd (omega arith)
take_more (j ∷ js) zero less = append-nil (code_of j)
take_more (j ∷ js) (suc k) less = at (take_more js k (omega (arith, less))) (suc k + 1) (omega arith)
  where
    at : codes_of (take (k + 1) js) ≡ codes_of (take k js) ++ code_at (slice_get js k) → (n : ℕ) → n ≡ suc (k + 1) → codes_of (take n (j ∷ js)) ≡ codes_of (take (suc k) (j ∷ js)) ++ code_at (slice_get js k)
    at rest n is = ap (λ n. codes_of (take n (j ∷ js))) is ∙ (ap (λ l. code_of j ++ l) rest ∙ sym (append_assoc (code_of j) (codes_of (take k js)) (code_at (slice_get js k))))

-- the starts so far are of the first jobs
abbrev Started : MachineData → List Entry → Type 0
Started m past = (starts past ≤ length (jobs m past)) × (started_codes m past ≡ codes_of (take (starts past) (jobs m past)))

grown : (js : List Job) (o : Option Job) (k : ℕ) → k ≤ length js → (k ≤ length (and_job js o)) × (take k (and_job js o) ≡ take k js)
grown js None k most = (most, refl)
grown js (Some j) k most = (let one = push js in omega arith, take-append-le k js (j ∷ []) most)
  where
    push : (xs : List Job) → length (xs ++ j ∷ []) ≡ length xs + 1
    push [] = refl
    push (x ∷ xs) = let rest = push xs in omega arith

started_step : (m : MachineData) (past : List Entry) (a : Actor) (d : Deed) → Allowed m past (entry a d) → Started m past → Started m (entry a d ∷ past)
started_step m past a (deed.Start j) ok before =
    let p = start_parts m past a j (hold m past a (deed.Start j) ok).1.1.0 in
    (omega (arith, p.1), ap (λ l. l ++ code_at (slice_get (jobs m past) j)) before.1 ∙ (ap (λ k. codes_of (take (starts past) (jobs m past)) ++ code_at (slice_get (jobs m past) k)) p.0 ∙ sym (take_more (jobs m past) (starts past) p.1)))
started_step m past a d ok before = let g = grown (jobs m past) (made m past (entry a d)) (starts past) before.0 in (g.0, append-nil (started_codes m past) ∙ (before.1 ∙ ap codes_of (sym g.1)))

started : (m : MachineData) (past : List Entry) → LegalPast m past → Started m past
started m [] legal = (omega arith, refl)
started m (e ∷ past) legal = started_step m past e.actor e.deed legal.0 (started m past legal.1)

pub started_given : (m : MachineData) (history : List Entry) → Legal m history → IsFront (started_codes m (reverse history)) (given (reverse history))
started_given m history legal =
    let past : List Entry = reverse history in
    let js : List Job = jobs m past in
    let front = (started m past legal).1 in (
      codes_of (drop (starts past) js) ++ out_in (open_of past),
      runs_as_given m history legal
          ∙ (ap (λ l. codes_of l ++ out_in (open_of past)) (sym (take-append-drop (starts past) js))
          ∙ (ap (λ l. l ++ out_in (open_of past)) (codes-append (take (starts past) js) (drop (starts past) js))
          ∙ (append_assoc (codes_of (take (starts past) js)) (codes_of (drop (starts past) js)) (out_in (open_of past))
          ∙ ap (λ l. l ++ (codes_of (drop (starts past) js) ++ out_in (open_of past))) (sym front)))),
    )
