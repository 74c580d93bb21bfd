-- The codes that were pushed are those that were given, and behind them those that wait.
use Rattle.std.proofs.Common.{ℕ, ◌+◌, ◌<◌, ◌≤◌, ◌≡◌, ◌==◌, ◌&&◌, not, Bool, true, false, List, [], ◌∷◌, ◌++◌, drop, length, reverse, filter_map, Option, Some, None, is_some, is_none, slice_get, unwrap_or, if◌then◌else◌, refl, sym, ap, ◌∙◌, subst, append_assoc, arith}
use Rattle.std.proofs.lemmas.Bool.{eqb-true, ltb-true, ne_eqb}
use Rattle.std.proofs.lemmas.List.{append-nil, reverse-reverse}
use Rattle.std.proofs.lemmas.List.Elements.{filter_map-append}
use Rattle.acpi_regs.specs.declared.actor.Actor.{Actor}
use Rattle.acpi_regs.specs.declared.entry.Deed.{Deed}
use Rattle.acpi_regs.specs.declared.entry.Deed.TheVariants as deed
use Rattle.acpi_regs.specs.declared.entry.Effect.TheVariants as effect
use Rattle.acpi_regs.specs.declared.entry.Entry.{Entry}
use Rattle.acpi_regs.specs.declared.entry.Request.{Request}
use Rattle.acpi_regs.specs.declared.entry.Request.TheVariants as request
use Rattle.acpi_regs.specs.declared.event.Event.{Event}
use Rattle.ec_chip.specs.Parts.{first_code}
use Rattle.ec_driver.specs.declared.wire.Move.TheVariants as move
use Rattle.ec_driver.specs.Wire.{carried, wire}
use Rattle.handler_script.specs.declared.act.Act.{Act}
use Rattle.handler_script.specs.declared.act.Act.TheVariants as act
use Rattle.machine_desc.specs.Kept.{IsMachine}
use Rattle.machine_desc.specs.Machine.{MachineData}
use Rattle.machine_history.specs.Acts.{fits}
use Rattle.machine_history.specs.declared.parts.Job.{Job}
use Rattle.machine_history.specs.declared.parts.Job.TheVariants as job
use Rattle.machine_history.specs.Jobs.{and_job, claimed_job, is_empty, jobs, made_by, taken_job}
use Rattle.machine_history.specs.Legal.{Allowed, Legal, LegalPast, asked_by, is_ctl_move, is_taking, same_number}
use Rattle.machine_history.specs.Machine.{is_own, lists}
use Rattle.machine_history.specs.Scripts.{next_of, plan_left}
use Rattle.machine_history.specs.Sentences.{CodesInOrder, RunsAsGiven, code_of, codes_of, out_in, push_by, pushed_in}
use Rattle.machine_history.specs.Values.{answer, blank, next_in, taking_in}
use Rattle.machine_history.specs.Wire.{Open, asks_code, begun, code, codes, codes_after, given, gives, is_query, moved, open_after, open_of, put_out}
use Rattle.machine_history.proofs.Codes.{Filled, filled, out_is}
use Rattle.machine_history.proofs.Known.{hold}
use Rattle.machine_history.proofs.Fitting.{left_fits}
use Rattle.machine_history.proofs.PlanFacts.{next_each}
use Rattle.machine_history.proofs.Places.{reverse-cons}
use Rattle.machine_history.proofs.Queries.{is_qr_request, qr_move}
use Rattle.machine_history.proofs.Wires.{ctl_is}

abbrev pub entry : Actor → Deed → Entry
entry a d = record { actor = a; deed = d }

-- ---- a query's byte is put out by its second move

abbrev pub Unput : Option Open → Type 0
Unput None = Unit {0}
Unput (Some o) = is_query o.asks ≡ true → o.made ≤ 1 → o.out ≡ None

pub unput_moved : (oo : Option Open) → Unput oo → Unput (moved oo)
unput_moved None before = tt
unput_moved (Some o) before = λ asks few. before asks (let most : o.made + 1 ≤ 1 = few in omega arith)

pub out_place : (m : MachineData) (past : List Entry) (v : ℕ) (o : Open) → is_query o.asks ≡ true → is_ctl_move (effect.Out v) (next_in m past (Some o)) ≡ true → o.made ≡ 1
out_place m past v o asks is =
    let next = ctl_is (effect.Out v) (next_in m past (Some o)) is in
    let at = subst (λ r. slice_get (wire r (blank m past o)) o.made ≡ Some (move.Ctl next.0)) (is_qr_request o.asks asks) next.1 in
    (qr_move (blank m past o) o.made next.0 at).0

pub unput_out : (m : MachineData) (past : List Entry) (v : ℕ) (oo : Option Open) → is_ctl_move (effect.Out v) (next_in m past oo) ≡ true → Unput (put_out v oo)
unput_out m past v None is = tt
unput_out m past v (Some o) is = λ asks few. (let place = out_place m past v o asks is in let most : o.made + 1 ≤ 1 = few in absurd (omega arith))

pub unput_deed : (m : MachineData) (past : List Entry) (a : Actor) (d : Deed) → Allowed m past (entry a d) → Unput (open_of past) → Unput (open_after a d (open_of past))
unput_deed m past a (deed.Begin r) ok before = λ asks few. refl
unput_deed m past a (deed.Take v) ok before = tt
unput_deed m past a (deed.Step h) ok before = unput_moved (open_of past) before
unput_deed m past a (deed.Ctl effect.Calm) ok before = before
unput_deed m past a (deed.Ctl effect.Taken) ok before = unput_moved (open_of past) before
unput_deed m past a (deed.Ctl effect.Put) ok before = unput_moved (open_of past) before
unput_deed m past a (deed.Ctl (effect.Out v)) ok before = unput_out m past v (open_of past) (hold m past a (deed.Ctl (effect.Out v)) ok).1.1.1.0
unput_deed m past a _ ok before = before

pub unput : (m : MachineData) (past : List Entry) → LegalPast m past → Unput (open_of past)
unput m [] legal = tt
unput m (e ∷ past) legal = unput_deed m past e.actor e.deed legal.0 (unput m past legal.1)

-- a query puts out the first code that waits
pub puts_first : (m : MachineData) (past : List Entry) (v : ℕ) (oo : Option Open) → Unput oo → asks_code oo ≡ true → is_ctl_move (effect.Out v) (next_in m past oo) ≡ true → v ≡ first_code (codes past)
puts_first m past v None before asks is = cc
puts_first m past v (Some o) before asks is =
    let none = before asks (let place = out_place m past v o asks is in omega arith) in
    out_is m past v o (is_qr_request o.asks asks) is ∙ ap (λ out. unwrap_or out (first_code (codes past))) none

-- ---- no code that waits is 00

abbrev pub NoZero : List ℕ → Type 0
NoZero [] = Unit {0}
NoZero (q ∷ queue) = ((q == 0) ≡ false) × NoZero queue

pub zero-push : (queue : List ℕ) (q : ℕ) → NoZero queue → (q == 0) ≡ false → NoZero (queue ++ q ∷ [])
zero-push [] q before other = (other, tt)
zero-push (x ∷ queue) q before other = (before.0, zero-push queue q before.1 other)

pub zero-drop : (queue : List ℕ) → NoZero queue → NoZero (drop 1 queue)
zero-drop [] before = tt
zero-drop (q ∷ queue) before = before.1

pub pushes_some : (m : MachineData) → IsMachine m → (past : List Entry) (a : Actor) (q : ℕ) → Allowed m past (entry a (deed.Push q)) → (q == 0) ≡ false
pushes_some m ok past a q allowed = at (next_of m past a) refl (hold m past a (deed.Push q) allowed).1.1.0
  where
    same : (x : Act) (is : asked_by (Some x) (deed.Push q) ≡ true) → x ≡ act.Push q
    same (act.Push k) is = ap act.Push (eqb-true k q is)
    same _ is = cc

    at : (x : Option Act) → next_of m past a ≡ x → asked_by x (deed.Push q) ≡ true → (q == 0) ≡ false
    at None none is = cc
    at (Some x) next is =
        let fitting = next_each (fits m) (plan_left m past a) x next (left_fits m ok past a) in
        let some : 0 < q = ltb-true 0 q (ap (fits m fitting.0) (sym (same x is)) ∙ fitting.1) in
        ne_eqb q 0 (λ zero_code. omega arith)

pub zero_if : (b : Bool) (queue : List ℕ) → NoZero queue → NoZero (if b then drop 1 queue else queue)
zero_if true queue before = zero-drop queue before
zero_if false queue before = before

pub no_zero : (m : MachineData) → IsMachine m → (past : List Entry) → LegalPast m past → NoZero (codes past)
no_zero m ok [] legal = tt
no_zero m ok (e ∷ past) legal = at e.actor e.deed legal.0 (no_zero m ok past legal.1)
  where
    at : (a : Actor) (d : Deed) → Allowed m past (entry a d) → NoZero (codes past) → NoZero (codes_after (open_of past) d (codes past))
    at a (deed.Push q) allowed before = zero-push (codes past) q before (pushes_some m ok past a q allowed)
    at a (deed.Ctl (effect.Out v)) allowed before = zero_if (asks_code (open_of past)) (codes past) before
    at a (deed.Ctl effect.Taken) allowed before = before
    at a (deed.Ctl effect.Put) allowed before = before
    at a (deed.Ctl effect.Calm) allowed before = before
    at a _ allowed before = before

-- ---- in order

pub first_given : (queue : List ℕ) → NoZero queue → code (first_code queue) ++ drop 1 queue ≡ queue
first_given [] before = refl
first_given (q ∷ queue) before = rw before.0 refl

pub pushed-push : (past : List Entry) (e : Entry) → pushed_in (reverse (e ∷ past)) ≡ pushed_in (reverse past) ++ filter_map (λ (x : Entry). push_by x.deed) (e ∷ [])
pushed-push past e = ap pushed_in (reverse-cons e past) ∙ filter_map-append (λ (x : Entry). push_by x.deed) (reverse past) (e ∷ [])

abbrev pub Same : List ℕ → List ℕ → List ℕ → Type 0
Same pushed gave waits = pushed ≡ gave ++ waits

pub other_same : (pushed gave waits : List ℕ) → Same pushed gave waits → Same (pushed ++ []) (gave ++ []) waits
other_same pushed gave waits same = append-nil pushed ∙ (same ∙ ap (λ g. g ++ waits) (sym (append-nil gave)))

pub out_same : (m : MachineData) → IsMachine m → (past : List Entry) (v : ℕ) → LegalPast m past → is_ctl_move (effect.Out v) (next_in m past (open_of past)) ≡ true → Same (pushed_in (reverse past)) (given past) (codes past)
    → Same (pushed_in (reverse past) ++ []) (given past ++ (if asks_code (open_of past) then code v else [])) (if asks_code (open_of past) then drop 1 (codes past) else codes past)
out_same m ok past v legal is before = at (asks_code (open_of past)) refl
  where
    at : (b : Bool) → asks_code (open_of past) ≡ b → Same (pushed_in (reverse past) ++ []) (given past ++ (if b then code v else [])) (if b then drop 1 (codes past) else codes past)
    at true asks =
        let first = puts_first m past v (open_of past) (unput m past legal) asks is in
        append-nil (pushed_in (reverse past)) ∙ (before ∙ (ap (λ q. given past ++ q) (sym (first_given (codes past) (no_zero m ok past legal)) ∙ ap (λ q. code q ++ drop 1 (codes past)) (sym first)) ∙ sym (append_assoc (given past) (code v) (drop 1 (codes past)))))
    at false other = other_same (pushed_in (reverse past)) (given past) (codes past) before

pub step : (m : MachineData) → IsMachine m → (past : List Entry) (a : Actor) (d : Deed) → LegalPast m past → Allowed m past (entry a d) → Same (pushed_in (reverse past)) (given past) (codes past)
    → Same (pushed_in (reverse past) ++ filter_map (λ (x : Entry). push_by x.deed) (entry a d ∷ [])) (given past ++ gives (open_of past) d) (codes_after (open_of past) d (codes past))
step m ok past a (deed.Push q) legal allowed before = ap (λ ps. ps ++ q ∷ []) before ∙ (append_assoc (given past) (codes past) (q ∷ []) ∙ ap (λ g. g ++ (codes past ++ q ∷ [])) (sym (append-nil (given past))))
step m ok past a (deed.Ctl (effect.Out v)) legal allowed before = out_same m ok past v legal (hold m past a (deed.Ctl (effect.Out v)) allowed).1.1.1.0 before
step m ok past a (deed.Ctl effect.Taken) legal allowed before = other_same (pushed_in (reverse past)) (given past) (codes past) before
step m ok past a (deed.Ctl effect.Put) legal allowed before = other_same (pushed_in (reverse past)) (given past) (codes past) before
step m ok past a (deed.Ctl effect.Calm) legal allowed before = other_same (pushed_in (reverse past)) (given past) (codes past) before
step m ok past a _ legal allowed before = other_same (pushed_in (reverse past)) (given past) (codes past) before

pub same_codes : (m : MachineData) → IsMachine m → (past : List Entry) → LegalPast m past → Same (pushed_in (reverse past)) (given past) (codes past)
same_codes m ok [] legal = refl
same_codes m ok (e ∷ past) legal = pushed-push past e ∙ step m ok past e.actor e.deed legal.1 legal.0 (same_codes m ok past legal.1)

pub codes_in_order : (m : MachineData) (history : List Entry) → IsMachine m → Legal m history → CodesInOrder history
codes_in_order m history ok legal = ap pushed_in (sym (reverse-reverse history)) ∙ same_codes m ok (reverse history) legal

-- ---- runs of handlers, as given

abbrev pub codes_at : MachineData → List Entry → List ℕ
codes_at m past = codes_of (jobs m past)

pub codes-push : (js : List Job) (j : Job) → codes_of (js ++ j ∷ []) ≡ codes_of js ++ code_of j
codes-push [] j = append-nil (code_of j)
codes-push (x ∷ js) j = ap (λ l. code_of x ++ l) (codes-push js j) ∙ sym (append_assoc (code_of x) (codes_of js) (code_of j))

abbrev pub job_codes : Option Job → List ℕ
job_codes None = []
job_codes (Some j) = code_of j

pub codes-grown : (js : List Job) (o : Option Job) → codes_of (and_job js o) ≡ codes_of js ++ job_codes o
codes-grown js None = sym (append-nil (codes_of js))
codes-grown js (Some j) = codes-push js j

pub claim_codes : (m : MachineData) (queue : List ℕ) (n : Event) → job_codes (claimed_job m queue n) ≡ []
claim_codes m queue n = at (lists m n) (is_own m n && not (is_empty queue))
  where
    at : (b c : Bool) → job_codes (if b then Some (job.Event n) else if c then Some job.Query else None) ≡ []
    at true c = refl
    at false true = refl
    at false false = refl

-- the take of a query makes the run of the code that is out, and every other take none
pub run_of : (b : Bool) (q : ℕ) → (q == 0) ≡ b → job_codes (if not b then Some (job.Code q) else None) ≡ (if b then [] else q ∷ [])
run_of true q is = refl
run_of false q is = refl

pub taken_if : (asks : Bool) (v : Option ℕ) (o : Option Open) → asks_code o ≡ asks → asks ≡ false → job_codes (taken_job o v) ≡ []
taken_if asks None o is not_asked = refl
taken_if asks (Some q) o is not_asked = rw (is ∙ not_asked) refl

pub take_all : (b : Bool) (w v : Option ℕ) → is_taking v (if b then Some w else None) ≡ true → (b ≡ true) × (same_number v w ≡ true)
take_all true w v is = (refl, is)
take_all false w v is = cc

pub take_given : (v out : Option ℕ) (first : ℕ) (oo : Option Open) → asks_code oo ≡ true → is_some out ≡ true → same_number v (Some (unwrap_or out first)) ≡ true → job_codes (taken_job oo v) ≡ code (unwrap_or out 0)
take_given v None first oo asks some same = cc
take_given None (Some w) first oo asks some same = cc
take_given (Some q) (Some w) first oo asks some same = rw (asks, eqb-true q w same) (run_of (w == 0) w refl)

pub take_out : (m : MachineData) (past : List Entry) (v : Option ℕ) (oo : Option Open) → Filled oo → is_taking v (taking_in m past oo) ≡ true → job_codes (taken_job oo v) ≡ out_in oo
take_out m past v None full is = cc
take_out m past v (Some o) full is = at (is_query o.asks) refl
  where
    at : (b : Bool) → is_query o.asks ≡ b → job_codes (taken_job (Some o) v) ≡ (if b then code (unwrap_or o.out 0) else [])
    at true asks =
        let qr = is_qr_request o.asks asks in
        let all = take_all (o.made == 3) (Some (blank m past o)) v (subst (λ r. is_taking v (if o.made == length (wire r 0) then Some (carried r (blank m past o)) else None) ≡ true) qr is) in
        let made : o.made ≡ 3 = eqb-true o.made 3 all.0 in
        take_given v o.out (answer m past o.asks) (Some o) asks (full asks (omega arith)) all.1
    at false other = taken_if false v (Some o) other refl

pub moved_out : (oo : Option Open) → out_in (moved oo) ≡ out_in oo
moved_out None = refl
moved_out (Some o) = refl

pub begun_out : (a : Actor) (r : Request) → out_in (Some (begun a r)) ≡ []
begun_out a (request.Rd x) = refl
begun_out a (request.Wr x v) = refl
begun_out a request.Be = refl
begun_out a request.Bd = refl
begun_out a request.Qr = refl

pub none_out : (oo : Option Open) → is_none oo ≡ true → out_in oo ≡ []
none_out None none = refl
none_out (Some o) none = cc

-- an Out of a query puts its code out, where none was out
pub put_codes : (m : MachineData) (past : List Entry) (v : ℕ) (oo : Option Open) → Unput oo → is_ctl_move (effect.Out v) (next_in m past oo) ≡ true → (out_in oo ++ (if asks_code oo then code v else []) ≡ out_in (put_out v oo))
put_codes m past v None before is = refl
put_codes m past v (Some o) before is = at (is_query o.asks) refl
  where
    at : (b : Bool) → is_query o.asks ≡ b → (if b then code (unwrap_or o.out 0) else []) ++ (if b then code v else []) ≡ (if b then code v else [])
    at true asks = let none = before asks (let place = out_place m past v o asks is in omega arith) in rw none refl
    at false other = refl

abbrev pub Runs : List ℕ → List ℕ → List ℕ → Type 0
Runs gave ran out = gave ≡ ran ++ out

pub runs_same : (gave ran out later : List ℕ) → later ≡ out → Runs gave ran out → Runs (gave ++ []) ran later
runs_same gave ran out later same before = append-nil gave ∙ (before ∙ ap (λ l. ran ++ l) (sym same))

pub runs_step : (m : MachineData) (past : List Entry) (a : Actor) (d : Deed) → LegalPast m past → Allowed m past (entry a d) → Runs (given past) (codes_at m past) (out_in (open_of past))
    → Runs (given past ++ gives (open_of past) d) (codes_of (and_job (jobs m past) (made_by m (open_of past) (codes past) d))) (out_in (open_after a d (open_of past)))
runs_step m past a (deed.Begin r) legal ok before =
    runs_same (given past) (codes_at m past) (out_in (open_of past)) (out_in (Some (begun a r))) (begun_out a r ∙ sym (none_out (open_of past) (hold m past a (deed.Begin r) ok).1.1.1.0)) before
runs_step m past a (deed.Step h) legal ok before = runs_same (given past) (codes_at m past) (out_in (open_of past)) (out_in (moved (open_of past))) (moved_out (open_of past)) before
runs_step m past a (deed.Ctl effect.Taken) legal ok before = runs_same (given past) (codes_at m past) (out_in (open_of past)) (out_in (moved (open_of past))) (moved_out (open_of past)) before
runs_step m past a (deed.Ctl effect.Put) legal ok before = runs_same (given past) (codes_at m past) (out_in (open_of past)) (out_in (moved (open_of past))) (moved_out (open_of past)) before
runs_step m past a (deed.Ctl effect.Calm) legal ok before = runs_same (given past) (codes_at m past) (out_in (open_of past)) (out_in (open_of past)) refl before
runs_step m past a (deed.Ctl (effect.Out v)) legal ok before =
    ap (λ l. l ++ gives (open_of past) (deed.Ctl (effect.Out v))) before
    ∙ (append_assoc (codes_at m past) (out_in (open_of past)) (gives (open_of past) (deed.Ctl (effect.Out v)))
    ∙ ap (λ l. codes_at m past ++ l) (put_codes m past v (open_of past) (unput m past legal) (hold m past a (deed.Ctl (effect.Out v)) ok).1.1.1.0))
runs_step m past a (deed.Take v) legal ok before =
    append-nil (given past)
    ∙ (before
    ∙ (ap (λ l. codes_at m past ++ l) (sym (take_out m past v (open_of past) (filled m past legal) (hold m past a (deed.Take v) ok).1.1.1.1.0))
    ∙ (sym (codes-grown (jobs m past) (taken_job (open_of past) v)) ∙ sym (append-nil (codes_of (and_job (jobs m past) (taken_job (open_of past) v)))))))
runs_step m past a (deed.Claim n) legal ok before =
    append-nil (given past)
    ∙ (before
    ∙ ap (λ l. l ++ out_in (open_of past)) (sym (codes-grown (jobs m past) (claimed_job m (codes past) n) ∙ (ap (λ l. codes_at m past ++ l) (claim_codes m (codes past) n) ∙ append-nil (codes_at m past)))))
runs_step m past a _ legal ok before = runs_same (given past) (codes_at m past) (out_in (open_of past)) (out_in (open_of past)) refl before

pub runs_of_past : (m : MachineData) (past : List Entry) → LegalPast m past → RunsAsGiven m past
runs_of_past m [] legal = refl
runs_of_past m (e ∷ past) legal = runs_step m past e.actor e.deed legal.1 legal.0 (runs_of_past m past legal.1)

pub runs_as_given : (m : MachineData) (history : List Entry) → Legal m history → RunsAsGiven m (reverse history)
runs_as_given m history legal = runs_of_past m (reverse history) legal
