-- Over the world of one thread a step is exactly what its actor is given.
use Rattle.std.proofs.Common.{◌≡◌, ℕ, Bool, true, false, List, [], ◌∷◌, ◌++◌, reverse, Option, Some, None, if◌then◌else◌, refl, sym, ap, append-nil, ◌∙◌}
use Rattle.std.specs.Option.{option_map}
use Rattle.acpi_regs.specs.declared.actor.Actor.{Actor}
use Rattle.acpi_regs.specs.declared.entry.Deed.{Deed}
use Rattle.acpi_regs.specs.declared.entry.Entry.{Entry}
use Rattle.acpi_regs.specs.declared.event.Event.{Event}
use Rattle.acpi_regs.specs.declared.phase.LockPhase.{LockPhase}
use Rattle.acpi_regs.specs.declared.phase.LockPhase.TheVariants as phase
use Rattle.acpi_regs.specs.Core.{Core, events_of}
use Rattle.acpi_regs.specs.Phases.{Lock, Phase, lock_deed, put}
use Rattle.facs_word.specs.Word.{acquired, is_owned, released}
use Rattle.lock_table.specs.declared.words.Attempt.TheVariants as attempt
use Rattle.machine_core.specs.Board.{BoardData}
use Rattle.machine_desc.specs.Machine.{MachineData}
use Rattle.machine_history.specs.Steps.{Attempts, Releases, adds, entry, gives, happens, lock_step, moved_in, next_step, script_entry}
use Rattle.world.specs.declared.outcome.StepOutcome.{StepOutcome}
use Rattle.world.specs.Calls.{Attempted, Call, Missed, Pulsed_at, Released, To_attempt, To_release, To_turn, Turned}
use Rattle.world.specs.Duties.{added, did}
use Rattle.world.specs.Serial.{Has, Serial, SerialMakes, attempt_of, collected, core_of, left, pins_of}
use Rattle.world.specs.Stepping.{ScriptAnswers, ScriptSteps, TurnAnswers, TurnSteps, after_step, attempt_outcome, attempt_phase, did_outcome, has_ended, is_stepped, lock_want, moved_by, turn_outcome}

-- the core of a world whose parts are known
abbrev pub core_with : BoardData → ℕ → (Event → Bool) → (Actor → Phase) → Core
core_with board word pins phases = record { word = word; pins = pins; history = board.entries; phases = phases }

pub core-is : (w : Serial) (board : BoardData) (word : ℕ) (pins : Event → Bool) (phases : Actor → Phase) → Has w board word pins → core_of w phases ≡ core_with board word pins phases
core-is w board word pins phases has = λ i. record { word = has.1 i; pins = has.2 i; history = (has.0 i).entries; phases = phases }

-- ---- an attempt

attempts : (word : ℕ) (b : Bool) (c : Core) (a : Actor) → Some (record c { word = acquired word; phases = put a (Lock (if b then phase.Marked else phase.Won)) c.phases })
    ≡ after_step (attempt_outcome (if b then attempt.Marked word else attempt.Won)) (record c { word = acquired word; phases = put a (Lock (attempt_phase (if b then attempt.Marked word else attempt.Won))) c.phases })
attempts word true c a = refl
attempts word false c a = refl

seeking : (m : MachineData) (past : List Entry) (a : Actor) (p : LockPhase) → lock_want p ≡ To_attempt → lock_step m past a p ≡ Some Attempts
seeking m past a (phase.Seeking l) is = refl
seeking m past a phase.Quit is = cc
seeking m past a _ is = cc

quitting : (m : MachineData) (past : List Entry) (a : Actor) (p : LockPhase) → lock_want p ≡ To_release → lock_step m past a p ≡ Some Releases
quitting m past a (phase.Seeking l) is = cc
quitting m past a phase.Quit is = refl
quitting m past a _ is = cc

turning : (m : MachineData) (past : List Entry) (a : Actor) (p : LockPhase) → lock_want p ≡ To_turn false (lock_deed p) → lock_step m past a p ≡ adds (script_entry m past a p)
turning m past a (phase.Seeking l) is = cc
turning m past a phase.Quit is = cc
turning m past a phase.Idle is = refl
turning m past a phase.Marked is = refl
turning m past a phase.Waiting is = refl
turning m past a phase.Won is = refl
turning m past a phase.Owning is = refl
turning m past a (phase.Gone s) is = refl

-- ---- a turn

-- a turn that adds at most this entry
made-gives : (c : Core) (a : Actor) (p : LockPhase) (ended : Bool) (made : Option Deed) → c.phases a ≡ Lock p →
    option_map (happens c a) (adds made) ≡ after_step (turn_outcome ended made) (record c { history = c.history ++ added a made; phases = put a (Lock (moved_by made p)) c.phases })
made-gives c a p true None at = refl
made-gives c a p false None at = refl
made-gives c a p ended (Some d) at = ap (λ x. Some (record c { history = c.history ++ entry a d ∷ []; phases = put a (moved_in d x) c.phases })) at

-- ---- the step of a worker or a firmware

script-given : (m : MachineData) (a : Actor) (w w' : Serial) (phases : Actor → Phase) (p q : LockPhase) (o : StepOutcome) (call : Call) → phases a ≡ Lock p → SerialMakes w a call w' → ScriptAnswers m a p call o q → option_map (happens (core_of w phases) a) (lock_step m (reverse w.board.entries) a p) ≡ after_step o (core_of w' (put a (Lock q) phases))
script-given m a w w' phases p q o (Attempted r) at makes says =
    let c = core_of w phases in
    let word = w.words.facs in
    ap (option_map (happens c a)) (seeking m (reverse w.board.entries) a p says.0)
    ∙ (attempts word (is_owned word) c a
    ∙ (λ i. after_step (attempt_outcome (sym makes.0 i)) (core_with w.board (acquired word) (pins_of w) (put a (Lock (attempt_phase (sym makes.0 i))) phases)))
    ∙ (λ i. after_step (sym says.1 i) (sym (core-is w' w.board (acquired word) (pins_of w) (put a (Lock (sym says.2 i)) phases) makes.1) i)))
script-given m a w w' phases p q o (Released b) at makes says =
    let c = core_of w phases in
    let word = w.words.facs in
    ap (option_map (happens c a)) (quitting m (reverse w.board.entries) a p says.0)
    ∙ ((λ i. Some (core_with w.board (released word) (pins_of w) (put a (Lock (phase.Gone (sym makes.0 i))) phases)))
    ∙ (λ i. after_step (sym says.1 i) (sym (core-is w' w.board (released word) (pins_of w) (put a (Lock (sym says.2 i)) phases) makes.1) i)))
script-given m a w w' phases p q o (Pulsed_at n clear) at makes says = absurd says
script-given m a w w' phases p q o Missed at makes says = absurd makes
script-given m a w w' phases p q o (Turned collect before after events) at makes says =
    let c = core_of w phases in
    let past = reverse w.board.entries in
    ap (option_map (happens c a)) (turning m past a p says.0)
    ∙ (made-gives c a p (has_ended m past a p) (script_entry m past a p) at
    ∙ ((λ i. after_step (turn_outcome (has_ended m (reverse (sym makes.0 i)) a p) (script_entry m (reverse (sym makes.0 i)) a p)) (record c { history = sym makes.0 i ++ added a (script_entry m (reverse (sym makes.0 i)) a p); phases = put a (Lock (moved_by (script_entry m (reverse (sym makes.0 i)) a p) p)) phases }))
    ∙ ((λ i. after_step (sym says.3 i) (record c { pins = left (sym says.1 i) (pins_of w); history = sym says.2 i; phases = put a (Lock (sym says.4 i)) phases }))
    ∙ ap (after_step o) (sym (core-is w' (record w.board { entries = after }) w.words.facs (left collect (pins_of w)) (put a (Lock q) phases) makes.2)))))

pub script-gives : (m : MachineData) (a : Actor) (w w' : Serial) (phases : Actor → Phase) (p q : LockPhase) (o : StepOutcome) → phases a ≡ Lock p → ScriptSteps SerialMakes m a w p o w' q → gives m (core_of w phases) a ≡ after_step o (core_of w' (put a (Lock q) phases))
script-gives m a w w' phases p q o at steps = ap (λ x. option_map (happens (core_of w phases) a) (next_step m (pins_of w) (reverse w.board.entries) a x)) at ∙ script-given m a w w' phases p q o steps.0 at steps.1 steps.2

-- ---- a step that did nothing

no : {X : Type 0} → true ≡ false → X
no e = absurd (let x = e in cc)

-- a turn that added at most this entry
idle-turn : (ended : Bool) (made : Option Deed) (p : LockPhase) (a : Actor) → is_stepped (turn_outcome ended made) ≡ false → (moved_by made p ≡ p) × (added a made ≡ [])
idle-turn ended None p a idle = (refl, refl)
idle-turn ended (Some d) p a idle = no idle

attempted : (word : ℕ) → is_stepped (attempt_outcome (attempt_of word)) ≡ true
attempted word = by_owned (is_owned word)
  where
    by_owned : (b : Bool) → is_stepped (attempt_outcome (if b then attempt.Marked word else attempt.Won)) ≡ true
    by_owned true = refl
    by_owned false = refl

script-still : (m : MachineData) (a : Actor) (w w' : Serial) (phases : Actor → Phase) (p q : LockPhase) (o : StepOutcome) (call : Call) → SerialMakes w a call w' → ScriptAnswers m a p call o q → is_stepped o ≡ false → (core_of w' phases ≡ core_of w phases) × (q ≡ p)
script-still m a w w' phases p q o (Attempted r) makes says idle = no (sym (ap (λ x. is_stepped (attempt_outcome x)) makes.0 ∙ attempted w.words.facs) ∙ (ap is_stepped (sym says.1) ∙ idle))
script-still m a w w' phases p q o (Released b) makes says idle = no (ap is_stepped (sym says.1) ∙ idle)
script-still m a w w' phases p q o (Pulsed_at n clear) makes says idle = absurd says
script-still m a w w' phases p q o Missed makes says idle = absurd makes
script-still m a w w' phases p q o (Turned collect before after events) makes says idle =
    let past = reverse before in
    let rests = idle-turn (has_ended m past a p) (script_entry m past a p) p a (ap is_stepped (sym says.3) ∙ idle) in (
      core-is w' (record w.board { entries = after }) w.words.facs (left collect (pins_of w)) phases makes.2
          ∙ ((λ i. record (core_of w phases) { pins = left (says.1 i) (pins_of w); history = says.2 i })
          ∙ ((λ i. record (core_of w phases) { history = makes.0 i ++ rests.1 i }) ∙ ap (λ h. record (core_of w phases) { history = h }) (append-nil w.board.entries))),
      says.4 ∙ rests.0,
    )

pub script-stays : (m : MachineData) (a : Actor) (w w' : Serial) (phases : Actor → Phase) (p q : LockPhase) (o : StepOutcome) → ScriptSteps SerialMakes m a w p o w' q → is_stepped o ≡ false → (core_of w' phases ≡ core_of w phases) × (q ≡ p)
script-stays m a w w' phases p q o steps idle = script-still m a w w' phases p q o steps.0 steps.1 steps.2 idle

-- ---- a turn of an actor that is free

-- what such a turn leaves
pub turn-leaves : (a : Actor) (w w' : Serial) (phases : Actor → Phase) (collects : Bool) (adds : List Entry → List Event → List Entry) (o : StepOutcome) → TurnSteps SerialMakes collects adds a w o w' →
    (o ≡ did_outcome (did (adds (reverse w.board.entries) (events_of (collected collects (pins_of w))))))
    × (core_of w' phases ≡ record (core_of w phases) { pins = left collects (pins_of w); history = w.board.entries ++ adds (reverse w.board.entries) (events_of (collected collects (pins_of w))) })
turn-leaves a w w' phases collects adds o steps = by_call steps.0 steps.1 steps.2
  where
    by_call : (call : Call) → SerialMakes w a call w' → TurnAnswers collects adds call o →
        (o ≡ did_outcome (did (adds (reverse w.board.entries) (events_of (collected collects (pins_of w))))))
        × (core_of w' phases ≡ record (core_of w phases) { pins = left collects (pins_of w); history = w.board.entries ++ adds (reverse w.board.entries) (events_of (collected collects (pins_of w))) })
    by_call (Attempted r) makes says = absurd says
    by_call (Released b) makes says = absurd says
    by_call (Pulsed_at n clear) makes says = absurd says
    by_call Missed makes says = absurd makes
    by_call (Turned collect before after events) makes says =
        let found : events ≡ events_of (collected collects (pins_of w)) = makes.1 ∙ ap (λ x. events_of (collected x (pins_of w))) says.0 in
        let new : adds (reverse before) events ≡ adds (reverse w.board.entries) (events_of (collected collects (pins_of w))) = λ i. adds (reverse (makes.0 i)) (found i) in (
          says.2 ∙ ap (λ x. did_outcome (did x)) new,
          core-is w' (record w.board { entries = after }) w.words.facs (left collect (pins_of w)) phases makes.2
              ∙ ((λ i. record (core_of w phases) { pins = left (says.0 i) (pins_of w); history = says.1 i }) ∙ (λ i. record (core_of w phases) { pins = left collects (pins_of w); history = makes.0 i ++ new i })),
        )
