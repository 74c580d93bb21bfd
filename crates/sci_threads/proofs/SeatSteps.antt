-- What a step of an actor makes of its seat: the seat stays the actor's, and tells of one step more.
use Rattle.std.proofs.Common.{◌≡◌, ◌&&◌, ◌+◌, Bool, true, false, cond, ℕ, List, [], ◌∷◌, ◌++◌, length, drop, reverse, is_none, refl, sym, ap, subst, ◌∙◌, Option, Some, None, append-nil}
use Rattle.std.proofs.Math.Seq.{drop-append_seam}
use Rattle.acpi_regs.specs.declared.actor.Actor.{Actor}
use Rattle.acpi_regs.specs.declared.actor.Actor.TheVariants as actor
use Rattle.acpi_regs.specs.declared.entry.Deed.{Deed}
use Rattle.acpi_regs.specs.declared.entry.Entry.{Entry}
use Rattle.acpi_regs.specs.declared.event.Event.{Event}
use Rattle.acpi_regs.specs.declared.phase.LockPhase.{LockPhase}
use Rattle.acpi_regs.specs.declared.phase.LockPhase.TheVariants as phase
use Rattle.acpi_regs.specs.declared.phase.Pulse.{Pulse}
use Rattle.acpi_regs.specs.CoreEvents.{entry}
use Rattle.acpi_regs.specs.CoreSound.{lock_phase}
use Rattle.acpi_regs.specs.History.{entries_of}
use Rattle.acpi_regs.specs.Phases.{Free, Lock, Phase, Pulsed, is_idle}
use Rattle.fw_actors.specs.Hardware.{PulsesNext, next_pulse}
use Rattle.lock_table.specs.declared.view.Occupant.{Occupant}
use Rattle.lock_table.specs.declared.view.Occupant.TheVariants as who
use Rattle.lock_table.specs.declared.view.Part.{Part}
use Rattle.lock_table.specs.declared.view.SeatPhase.{SeatPhase}
use Rattle.lock_table.specs.declared.view.SeatPhase.TheVariants as kept
use Rattle.lock_table.specs.declared.view.Stage.TheVariants as stage
use Rattle.lock_table.specs.declared.view.View.{View}
use Rattle.lock_table.specs.declared.words.Attempt.{Attempt}
use Rattle.lock_table.specs.declared.words.Attempt.TheVariants as attempt
use Rattle.lock_table.specs.Calls.{Pass, SameSeat}
use Rattle.lock_table.specs.Views.{ForOne, MadeIn, after_deeds, deeds_of, let_go, map_one, phase_of, pulses, pulses_of}
use Rattle.lock_table.proofs.OneStep.{for_one}
use Rattle.machine_desc.specs.Machine.{MachineData}
use Rattle.machine_history.specs.Legal.{Legal}
use Rattle.machine_history.specs.Scripts.{next_of}
use Rattle.machine_history.specs.Steps.{script_entry}
use Rattle.atomic_table.specs.Seated.{TableId}
use Rattle.world.specs.declared.table_world.TableWorld.{TableWorld}
use Rattle.world.specs.declared.turn.Acted.{Acted}
use Rattle.world.specs.declared.turn.Acted.TheVariants as acted
use Rattle.world.specs.declared.outcome.StepOutcome.{StepOutcome}
use Rattle.world.specs.declared.outcome.StepOutcome.TheVariants as outcome
use Rattle.world.specs.Calls.{Attempted, Call, Missed, Pulsed_at, Released, Turned}
use Rattle.world.specs.Duties.{added, did}
use Rattle.world.specs.Shared.{SeatMakes, TurnMakes, turned}
use Rattle.world.specs.Stepping.{ScriptAnswers, TurnAnswers, attempt_outcome, attempt_phase, did_outcome, has_ended, may_end, moved_by, turn_outcome}
use Rattle.sci_threads.specs.Shared.{IsAtEnd, IsOf, IsReady, Rises, SeenMakes, ends_as, is_ended, steps_as, steps_in}
use Rattle.sci_threads.proofs.OwnEntries.{next_own}

pub record Stepped (m : MachineData) (o : StepOutcome) (a : Actor) (f : Phase) (v w : View) : Type 0 where
  pub away : w.stage ≡ stage.Away
  pub part : ForOne (IsOf a f) w.who
  pub rises : Rises m (is_ended o) v.who w.who

abbrev is_device : Actor → Bool
is_device (actor.Device k) = true
is_device _ = false

tried_steps : (a : Actor) (p : Part) → is_device a ≡ false → steps_as a p ≡ p.tried
tried_steps (actor.Device k) p isnt = cc
tried_steps _ p isnt = refl

one_after : (f : Part → Part) (x y : Occupant) (p : Part) → x ≡ who.One p → y ≡ map_one f x → y ≡ who.One (f p)
one_after f x y p is then = then ∙ ap (map_one f) is

-- a step that is told as one try more
tries_once : (m : MachineData) (o : StepOutcome) (a : Actor) (f : Phase) (v w : View) (p q : Part) → is_device a ≡ false → v.who ≡ who.One p → w.who ≡ who.One q → p.actor ≡ a → q.actor ≡ p.actor → phase_of q.phase ≡ f → q.tried ≡ p.tried + 1 → w.stage ≡ stage.Away
    → (is_ended o ≡ true → IsAtEnd m q) → Stepped m o a f v w
tries_once m o a f v w p q isnt is now its same in_phase tried away at_end = record {
  away = away;
  part = subst (ForOne (IsOf a f)) (sym now) (same ∙ its, in_phase);
  rises = by_end (is_ended o) refl;
}
  where
    steps : (x : Part) → x.actor ≡ a → steps_as x.actor x ≡ x.tried
    steps x is_a = ap (λ b. steps_as b x) is_a ∙ tried_steps a x isnt

    by_end : (b : Bool) → is_ended o ≡ b → Rises m b v.who w.who
    by_end true ended = subst (ForOne (IsAtEnd m)) (sym now) (at_end ended)
    by_end false going = ap steps_in now ∙ steps q (same ∙ its) ∙ tried ∙ sym (ap (λ n. n + 1) (ap steps_in is ∙ steps p its))

-- ---- workers and firmware

kept_lock : (k : SeatPhase) (q : LockPhase) → phase_of k ≡ Lock q → k ≡ kept.Lock q
kept_lock (kept.Lock p) q is = ap (λ x. kept.Lock (lock_phase x)) is
kept_lock kept.Free q is = cc
kept_lock (kept.Holding hand) q is = cc
kept_lock (kept.Pulsed ps) q is = cc

kept_free : (k : SeatPhase) → phase_of k ≡ Free → k ≡ kept.Free
kept_free (kept.Lock p) is = cc
kept_free kept.Free is = refl
kept_free (kept.Holding hand) is = cc
kept_free (kept.Pulsed ps) is = cc

not_ended : (r : Attempt) → is_ended (attempt_outcome r) ≡ true → ⊥
not_ended attempt.Won e = cc
not_ended (attempt.Marked n) e = cc
not_ended (attempt.Moved l n) e = cc

false_true : false ≡ true → ⊥
false_true e = cc

both_of : (a b : Bool) → (a && b) ≡ true → (a ≡ true) × (b ≡ true)
both_of true b is = (refl, is)
both_of false b is = cc

-- a turn of a worker or a firmware that is at its end added nothing
ended_made : (b : Bool) (made : Option Deed) → is_ended (turn_outcome b made) ≡ true → (b ≡ true) × (made ≡ None)
ended_made true None e = (refl, refl)
ended_made false None e = cc
ended_made b (Some d) e = cc

-- the phase behind one entry
moved_once : (a : Actor) (made : Option Deed) (q : LockPhase) → phase_of (let_go (after_deeds (deeds_of (added a made)) (kept.Lock q))) ≡ Lock (moved_by made q)
moved_once a None q = refl
moved_once a (Some d) q = refl

module _ (m : MachineData) (a : Actor) (k : LockPhase) (v w : View) (p : Part) (isnt : is_device a ≡ false) (is : v.who ≡ who.One p) (its : p.actor ≡ a) (in_phase : phase_of p.phase ≡ Lock k) (v_away : v.stage ≡ stage.Away) where
  attempted : (r : Attempt) (o : StepOutcome) (q : LockPhase) → SeatMakes m v (Attempted r) w → ScriptAnswers m a k (Attempted r) o q → Stepped m o a (Lock q) v w
  attempted attempt.Won o q makes says =
      tries_once m o a (Lock q) v w p _ isnt is (one_after _ v.who w.who p is (ap (λ (x : View). x.who) makes.3)) its refl (ap Lock (sym says.2)) refl (ap (λ (x : View). x.stage) makes.3 ∙ v_away) (λ ended. absurd (not_ended attempt.Won (sym (ap is_ended says.1) ∙ ended)))
  attempted (attempt.Marked n) o q makes says =
      tries_once m o a (Lock q) v w p _ isnt is (one_after _ v.who w.who p is (ap (λ (x : View). x.who) makes.2)) its refl (ap Lock (sym says.2)) refl (ap (λ (x : View). x.stage) makes.2 ∙ v_away) (λ ended. absurd (not_ended (attempt.Marked n) (sym (ap is_ended says.1) ∙ ended)))
  attempted (attempt.Moved l n) o q makes says =
      tries_once m o a (Lock q) v w p _ isnt is (one_after _ v.who w.who p is (ap (λ (x : View). x.who) makes.3)) its refl (ap Lock (sym says.2)) refl (ap (λ (x : View). x.stage) makes.3 ∙ v_away) (λ ended. absurd (not_ended (attempt.Moved l n) (sym (ap is_ended says.1) ∙ ended)))

  new_is : (before after : List Entry) (made : Option Deed) → after ≡ before ++ added a made → drop (length before) after ≡ added a made
  new_is before after made adds = ap (drop (length before)) adds ∙ drop-append_seam before (added a made)

  -- the end of a firmware, at the turn in which it found nothing left
  end_as : (b : Actor) (before after : List Entry) → p.actor ≡ b → drop (length before) after ≡ [] → Legal m before → p.mine ≡ entries_of before b → may_end b ≡ true → is_idle k ≡ true → is_none (next_of m (reverse before) b) ≡ true
      → ends_as m b (turned false before after p) ≡ true
  end_as (actor.Firmware j) before after its_b new legal mine may idle none = joined _ _ left right
    where
      joined : (x y : Bool) → x ≡ true → y ≡ true → (x && y) ≡ true
      joined true y is_x is_y = is_y
      joined false y is_x is_y = cc

      left : is_idle (lock_phase (phase_of (turned false before after p).phase)) ≡ true
      left = ap (λ l. is_idle (lock_phase (phase_of (let_go (after_deeds (deeds_of l) p.phase))))) new ∙ ap (λ x. is_idle (lock_phase (phase_of (let_go x)))) (kept_lock p.phase k in_phase) ∙ idle

      right : is_none (next_of m (reverse (turned false before after p).mine) (actor.Firmware j)) ≡ true
      right =
          ap (λ l. is_none (next_of m (reverse (p.mine ++ l)) (actor.Firmware j))) new
          ∙ ap (λ l. is_none (next_of m (reverse l) (actor.Firmware j))) (append-nil p.mine ∙ mine)
          ∙ sym (ap is_none (next_own m j before legal))
          ∙ none
  end_as _ before after its_b new legal mine may idle none = absurd (false_true may)

  at_end : (before after : List Entry) (made : Option Deed) → MadeIn before p → Legal m before → after ≡ before ++ added a made → (has_ended m (reverse before) a k ≡ true) × (made ≡ None) → IsAtEnd m (turned false before after p)
  at_end before after made mine legal adds ended =
      let first = both_of (may_end a && is_idle k) (is_none (next_of m (reverse before) a)) ended.0 in
      let more = both_of (may_end a) (is_idle k) first.0 in
      subst (λ b. ends_as m b (turned false before after p) ≡ true) (sym its) (end_as a before after its (new_is before after made adds ∙ ap (added a) ended.1) legal (mine ∙ ap (entries_of before) its) more.0 more.1 first.1)

  turned_call : (before after : List Entry) (o : StepOutcome) (q : LockPhase) → TurnMakes m v false before after w → after ≡ before ++ added a (script_entry m (reverse before) a k)
      → o ≡ turn_outcome (has_ended m (reverse before) a k) (script_entry m (reverse before) a k) → q ≡ moved_by (script_entry m (reverse before) a k) k → Stepped m o a (Lock q) v w
  turned_call before after o q makes adds out next =
      let made = script_entry m (reverse before) a k in
      tries_once m o a (Lock q) v w p (turned false before after p) isnt is (one_after _ v.who w.who p is (ap (λ (x : View). x.who) makes.seat)) its refl
      (ap (λ l. phase_of (let_go (after_deeds (deeds_of l) p.phase))) (new_is before after made adds) ∙ ap (λ x. phase_of (let_go (after_deeds (deeds_of (added a made)) x))) (kept_lock p.phase k in_phase) ∙ moved_once a made k ∙ ap Lock (sym next))
      refl (ap (λ (x : View). x.stage) makes.seat)
      (λ ended. at_end before after made (subst (ForOne (MadeIn before)) is makes.made) makes.legal adds (ended_made (has_ended m (reverse before) a k) made (sym (ap is_ended out) ∙ ended)))

  script_call : (call : Call) (o : StepOutcome) (q : LockPhase) → SeatMakes m v call w → ScriptAnswers m a k call o q → Stepped m o a (Lock q) v w
  script_call (Attempted r) o q makes says = attempted r o q makes says
  script_call (Released b) o q makes says =
      tries_once m o a (Lock q) v w p _ isnt is (one_after _ v.who w.who p is (ap (λ (x : View). x.who) makes.3)) its refl (ap (λ x. Lock (phase.Gone x)) (sym makes.2) ∙ ap Lock (sym says.2)) refl (ap (λ (x : View). x.stage) makes.3 ∙ v_away) (λ ended. absurd (false_true (sym (ap is_ended says.1) ∙ ended)))
  script_call (Pulsed_at n clear) o q makes says = absurd says
  script_call (Turned collect before after events) o q makes says = turned_call before after o q (subst (λ c. TurnMakes m v c before after w) says.1 makes) says.2 says.3 says.4
  script_call Missed o q makes says =
      tries_once m o a (Lock q) v w p _ isnt is (one_after _ v.who w.who p is (ap (λ (x : View). x.who) makes)) its refl (in_phase ∙ ap Lock (sym says.1)) refl (ap (λ (x : View). x.stage) makes ∙ v_away) (λ ended. absurd (false_true (sym (ap is_ended says.0) ∙ ended)))

-- what a step of a worker or a firmware makes of its seat
pub script_stepped : (m : MachineData) (a : Actor) (k : LockPhase) (v w : View) (o : StepOutcome) (q : LockPhase) (call : Call) → is_device a ≡ false → v.stage ≡ stage.Away → ForOne (IsOf a (Lock k)) v.who → SeatMakes m v call w → ScriptAnswers m a k call o q → Stepped m o a (Lock q) v w
script_stepped m a k v w o q call isnt away part makes says = let one = for_one (IsOf a (Lock k)) v.who part in script_call m a k v w one.0 isnt one.1 one.2.0 one.2.1 away call o q makes says

-- ---- int, poll and the controller

free_still : (ds : List Deed) → after_deeds ds kept.Free ≡ kept.Free
free_still [] = refl
free_still (d ∷ ds) = free_still ds

did_goes : (r : Acted) → is_ended (did_outcome r) ≡ true → ⊥
did_goes acted.Did e = cc
did_goes acted.Nothing e = cc

module _ (m : MachineData) (a : Actor) (v w : View) (p : Part) (isnt : is_device a ≡ false) (is : v.who ≡ who.One p) (its : p.actor ≡ a) (in_phase : phase_of p.phase ≡ Free) (v_away : v.stage ≡ stage.Away) where
  free_call : (collects : Bool) (adds : List Entry → List Event → List Entry) (call : Call) (o : StepOutcome) → SeatMakes m v call w → TurnAnswers collects adds call o → Stepped m o a Free v w
  free_call collects adds (Turned collect before after events) o makes says =
      tries_once m o a Free v w p (turned collect before after p) isnt is (one_after _ v.who w.who p is (ap (λ (x : View). x.who) makes.seat)) its refl
      (ap (λ x. phase_of (let_go x)) (ap (after_deeds (deeds_of (drop (length before) after))) (kept_free p.phase in_phase) ∙ free_still (deeds_of (drop (length before) after))))
      refl (ap (λ (x : View). x.stage) makes.seat) (λ ended. absurd (did_goes (did (adds (reverse before) events)) (sym (ap is_ended says.2) ∙ ended)))
  free_call collects adds Missed o makes says =
      tries_once m o a Free v w p _ isnt is (one_after _ v.who w.who p is (ap (λ (x : View). x.who) makes)) its refl in_phase refl (ap (λ (x : View). x.stage) makes ∙ v_away) (λ ended. absurd (false_true (sym (ap is_ended says) ∙ ended)))
  free_call collects adds (Attempted r) o makes says = absurd says
  free_call collects adds (Released b) o makes says = absurd says
  free_call collects adds (Pulsed_at n clear) o makes says = absurd says

pub free_stepped : (m : MachineData) (a : Actor) (v w : View) (o : StepOutcome) (collects : Bool) (adds : List Entry → List Event → List Entry) (call : Call) → is_device a ≡ false → v.stage ≡ stage.Away → ForOne (IsOf a Free) v.who → SeatMakes m v call w → TurnAnswers collects adds call o → Stepped m o a Free v w
free_stepped m a v w o collects adds call isnt away part makes says = let one = for_one (IsOf a Free) v.who part in free_call m a v w one.0 isnt one.1 one.2.0 one.2.1 away collects adds call o makes says

-- ---- the seat stays ready

pub ready_again : (m : MachineData) (id : TableId) (o : StepOutcome) (a : Actor) (f g : Phase) (s t : Pass) → IsReady id a f s → SameSeat s t → Stepped m o a g s.view t.view → IsReady id a g t
ready_again m id o a f g s t ready same stepped = record { table = same.0 ∙ ready.table; away = stepped.away; part = stepped.part }

-- ---- a device's pulse, as its seat tells it

-- what a call makes of the world over a seat
abbrev WorldMakes : TableWorld → Actor → Call → TableWorld → Type 0
WorldMakes w a call w' = (w'.table.now ≡ w.table.now) × (w'.seat.ghost_name ≡ w.seat.ghost_name) × SameSeat w.seat.now w'.seat.now × SeatMakes w.table.now.table.shared.key.machine w.seat.now.view call w'.seat.now.view

pub pulses_seen : (m : MachineData) (a : Actor) (w w' : TableWorld) (n : Option Event) (ps qs : List Pulse) (o : StepOutcome) → PulsesNext WorldMakes a w ps n o w' qs → PulsesNext (SeenMakes m) a w.seat.now.view ps n o w'.seat.now.view qs
pulses_seen m a w w' None ps qs o h = (h.0, ap (λ (t : TableWorld). t.seat.now.view) h.1, h.2)
pulses_seen m a w w' (Some n) ps qs o h = (h.0, h.1.3, h.2, h.3)
