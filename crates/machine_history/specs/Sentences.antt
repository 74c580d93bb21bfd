-- The sentences that other definitions stand for: parked events, jobs in order, codes, the wire, and what a claim
-- consumes.
use Rattle.std.specs.Prelude.{ℕ, ◌==◌, ◌<◌, ◌≤◌, ◌≡◌, ◌↔◌, Bool, true, false, List, [], ◌∷◌, ◌++◌, length, reverse, count_by, filter_map, flat_map, unwrap_or, Option, Some, None, slice_get, if◌then◌else◌}
use Rattle.acpi_regs.specs.declared.actor.Actor.TheVariants as actor
use Rattle.acpi_regs.specs.declared.actor.Side.TheVariants as side
use Rattle.acpi_regs.specs.declared.entry.Deed.{Deed}
use Rattle.acpi_regs.specs.declared.entry.Deed.TheVariants as deed
use Rattle.acpi_regs.specs.declared.entry.Effect.TheVariants as effect
use Rattle.acpi_regs.specs.declared.entry.Entry.{Entry}
use Rattle.acpi_regs.specs.declared.entry.HostMove.{HostMove}
use Rattle.acpi_regs.specs.declared.event.Event.{Event}
use Rattle.acpi_regs.specs.Actor.{stands_on}
use Rattle.acpi_regs.specs.History.{past_of}
use Rattle.ec_driver.specs.declared.wire.Move.{Move}
use Rattle.ec_driver.specs.declared.wire.Move.TheVariants as move
use Rattle.ec_driver.specs.Wire.{wire}
use Rattle.event_chip.specs.declared.state.Touch.{Touch}
use Rattle.event_chip.specs.declared.state.Touch.TheVariants as touch
use Rattle.event_chip.specs.State.{is_level}
use Rattle.machine_desc.specs.Machine.{MachineData}
use Rattle.machine_history.specs.declared.parts.Job.{Job}
use Rattle.machine_history.specs.declared.parts.Job.TheVariants as job
use Rattle.machine_history.specs.Events.{latches, line, parked, pending, touched}
use Rattle.machine_history.specs.Jobs.{jobs}
use Rattle.machine_history.specs.Last.{SetsAt, done_to, status_set}
use Rattle.machine_history.specs.Legal.{is_host}
use Rattle.machine_history.specs.Machine.{kind_of, pulses_of}
use Rattle.machine_history.specs.Wire.{Open, code, codes, due, given, is_query, open_of}

-- ---- parked

-- a finish of the event, by whether its line was asserted; an assert or a drop of it counts as a finish without
abbrev pub mark_by : Bool → Option Touch → List Bool
mark_by line (Some touch.Finish) = line ∷ []
mark_by line (Some touch.Assert) = false ∷ []
mark_by line (Some touch.Drop) = false ∷ []
mark_by line _ = []

-- the finishes, asserts and drops of an event, the newest first
abbrev pub marks : MachineData → List Entry → Event → List Bool
marks m [] n = []
marks m (e ∷ past) n = mark_by (line m past n) (done_to n (touched m past e)) ++ marks m past n

-- the last sixteen finishes came with the line asserted, and no assert or drop stands among or after them
abbrev pub LastSixteen : MachineData → List Entry → Event → Type 0
LastSixteen m past n = (i : ℕ) → i < 16 → slice_get (marks m past n) i ≡ Some true

-- an event is parked where it is level and its last sixteen finishes came so, and only there
abbrev pub ParksAfterSixteen : MachineData → List Entry → Event → Type 0
ParksAfterSixteen m past n = (parked m past n ≡ true) ↔ ((is_level (kind_of m n) ≡ true) × LastSixteen m past n)

-- ---- jobs

abbrev pub start_by : Deed → Option ℕ
start_by (deed.Start j) = Some j
start_by _ = None

-- the jobs that were started, in order
abbrev pub started_in : List Entry → List ℕ
started_in history = filter_map (λ e. start_by e.deed) history

abbrev pub is_start_of : ℕ → Deed → Bool
is_start_of j (deed.Start k) = k == j
is_start_of j _ = false

abbrev pub is_finish_of : ℕ → Deed → Bool
is_finish_of j (deed.Finish k) = k == j
is_finish_of j _ = false

-- how often a job was started, and how often finished
abbrev pub times_started : ℕ → List Entry → ℕ
times_started j history = count_by (λ e. is_start_of j e.deed) history

abbrev pub times_finished : ℕ → List Entry → ℕ
times_finished j history = count_by (λ e. is_finish_of j e.deed) history

-- the k-th start is `start k`, of a job that was made; a job is started at most once, and finished no more often than
-- started
pub record JobsInOrder (m : MachineData) (history : List Entry) : Type 0 where
  pub in_order : (k j : ℕ) → slice_get (started_in history) k ≡ Some j → j ≡ k
  pub made : length (started_in history) ≤ length (jobs m (reverse history))
  pub once : (j : ℕ) → times_started j history ≤ 1
  pub ended : (j : ℕ) → times_finished j history ≤ times_started j history

-- each job that was made was started once and finished once
abbrev pub JobsDone : MachineData → List Entry → Type 0
JobsDone m history = (j : ℕ) → j < length (jobs m (reverse history))
    → (times_started j history ≡ 1) × (times_finished j history ≡ 1)

-- ---- latches

-- no event has more latches than pulses
abbrev pub LatchesFromPulses : MachineData → List Entry → Type 0
LatchesFromPulses m history = (n : Event) → latches (reverse history) n ≤ pulses_of m n

-- ---- claims

-- At each claim the event has status and is enabled; and before it, behind every claim of the event before it, stands
-- an entry that set its status.
abbrev pub ConsumesRaise : MachineData → List Entry → ℕ → Event → Type 0
ConsumesRaise m history i n =
    (j : ℕ) × (j < i) × SetsAt (status_set m n) history j true
    × ((k : ℕ) (e : Entry) → j < k → k < i → slice_get history k ≡ Some e → e.deed ≡ deed.Claim n → ⊥)

abbrev pub ClaimsConsume : MachineData → List Entry → Type 0
ClaimsConsume m history = (i : ℕ) (e : Entry) (n : Event) → slice_get history i ≡ Some e → e.deed ≡ deed.Claim n
    → (pending m (past_of history i) n ≡ true) × ConsumesRaise m history i n

-- ---- codes

abbrev pub push_by : Deed → Option ℕ
push_by (deed.Push q) = Some q
push_by _ = None

-- the codes that were pushed, in order
abbrev pub pushed_in : List Entry → List ℕ
pushed_in history = filter_map (λ e. push_by e.deed) history

-- they are the codes that were given, and behind them those that wait
abbrev pub CodesInOrder : List Entry → Type 0
CodesInOrder history = pushed_in history ≡ given (reverse history) ++ codes (reverse history)

-- the codes of runs of query handlers, in order
abbrev pub code_of : Job → List ℕ
code_of (job.Code q) = q ∷ []
code_of j = []

abbrev pub codes_of : List Job → List ℕ
codes_of js = flat_map code_of js

-- the code that the open query put out and whose take is to come
abbrev pub out_in : Option Open → List ℕ
out_in None = []
out_in (Some o) = if is_query o.asks then code (unwrap_or o.out 0) else []

-- the k-th code that was given is that of the k-th run of a handler, but for the last, while its take is to come
abbrev pub RunsAsGiven : MachineData → List Entry → Type 0
RunsAsGiven m past = given past ≡ codes_of (jobs m past) ++ out_in (open_of past)

-- ---- the wire

-- the move that a deed makes
abbrev pub move_by : Deed → List Move
move_by (deed.Step h) = move.Host h ∷ []
move_by (deed.Ctl effect.Calm) = []
move_by (deed.Ctl e) = move.Ctl e ∷ []
move_by _ = []

abbrev pub moves_after : Deed → List Move → List Move
moves_after (deed.Begin r) old = []
moves_after d old = old ++ move_by d

-- the moves since the last begin
abbrev pub moves : List Entry → List Move
moves [] = []
moves (e ∷ past) = moves_after e.deed (moves past)

-- they are a front of the moves of the open request, with some byte in the blank
abbrev pub FrontOfWire : List Entry → Open → Type 0
FrontOfWire past o = (b : ℕ) × (rest : List Move) × (wire o.asks b ≡ moves past ++ rest)
    × (length (moves past) ≡ o.made)

-- Each step is made while a transaction is open: by the interrupt handler or by polling where one of the OS's side
-- began it, and by the firmware itself where a firmware did. The interrupt handler's comes where it has claimed the
-- controller's event since its last one.
abbrev pub StepsByHosts : MachineData → List Entry → Type 0
StepsByHosts m history = (i : ℕ) (e : Entry) (h : HostMove) → slice_get history i ≡ Some e → e.deed ≡ deed.Step h
    → (o : Open) × (open_of (past_of history i) ≡ Some o) × (stands_on side.Os o.by ≡ true → is_host e.actor ≡ true)
    × (stands_on side.Os o.by ≡ false → e.actor ≡ o.by) × (e.actor ≡ actor.Int → due m (past_of history i) ≡ true)
