-- A sound core in which no actor has a step is at rest: nobody owns the lock or competes for it, every script and every job is
-- through, and no code waits.
use Rattle.std.proofs.Common.{ℕ, zero, suc, ◌<◌, ◌≤◌, ◌≡◌, ◌==◌, ◌&&◌, ◌||◌, ◌⊎◌, inl, inr, Bool, true, false, not, cond, nat_lt, List, [], ◌∷◌, length, slice_get, unwrap_or, option_map, Option, Some, None, is_none, refl, sym, ap, ◌∙◌, subst, arith}
use Rattle.std.proofs.lemmas.Bool.{and_from, eqb-false, eqb-true, lt-ltb, ltb-false}
use Rattle.std.proofs.lemmas.Option.{slice_get_within}
use Rattle.acpi_regs.specs.declared.actor.Actor.{Actor}
use Rattle.acpi_regs.specs.declared.actor.Actor.TheVariants as actor
use Rattle.acpi_regs.specs.declared.actor.Side.{Side}
use Rattle.acpi_regs.specs.declared.actor.Side.TheVariants as side
use Rattle.acpi_regs.specs.declared.entry.Deed.TheVariants as deed
use Rattle.acpi_regs.specs.declared.entry.Entry.{Entry}
use Rattle.acpi_regs.specs.declared.event.Event.{Event}
use Rattle.acpi_regs.specs.declared.phase.LockPhase.{LockPhase}
use Rattle.acpi_regs.specs.declared.phase.LockPhase.TheVariants as phase
use Rattle.acpi_regs.specs.declared.phase.Pulse.{Pulse}
use Rattle.acpi_regs.specs.Actor.{side_of}
use Rattle.acpi_regs.specs.Core.{Core}
use Rattle.acpi_regs.specs.CoreEvents.{in_hand, is_holding, list_of, one, past_in, pulses_in}
use Rattle.acpi_regs.specs.CoreSound.{Fits, IsStart, competes, holds, is_kind, is_signalled, lock_phase, lock_phases, phase_at, sum_below, times, times_pulsed, waits}
use Rattle.acpi_regs.specs.Event.{gbl, same_event}
use Rattle.acpi_regs.specs.Lock.{busies, gbl_status, has_disowned, is_busy, is_someone, leaves, other, owner, seeker, wake}
use Rattle.acpi_regs.specs.Phases.{Free, Holding, Lock, Phase, Pulsed, is_idle, is_marked, is_owning}
use Rattle.acpi_regs.proofs.Latching.{someone_holds}
use Rattle.acpi_regs.proofs.LockActors.{someone_self}
use Rattle.handler_script.specs.declared.act.Act.{Act}
use Rattle.handler_script.specs.Locked.{Locked}
use Rattle.machine_desc.specs.Kept.{IsMachine}
use Rattle.machine_desc.specs.Machine.{MachineData}
use Rattle.machine_history.specs.Complete.{Complete}
use Rattle.machine_history.specs.Events.{pending, status}
use Rattle.machine_history.specs.Events as history
use Rattle.machine_history.specs.Jobs.{is_empty, jobs, running, starts}
use Rattle.machine_history.specs.Legal.{has_quit, is_seeker, is_worker, runs_scripts, same_number, unsought, woken_on}
use Rattle.machine_history.specs.Machine as machine
use Rattle.machine_history.specs.Scripts.{next_of, plan_left}
use Rattle.machine_history.specs.Steps.{adds, at_act, at_script, between, otherwise, pulses, waiting, where_may}
use Rattle.machine_history.specs.Steps as steps
use Rattle.machine_history.specs.Wire.{codes}
use Rattle.history_laws.proofs.LastEntries.{gbl_is_status}
use Rattle.machine_history.proofs.Owning.{ended, guarded}
use Rattle.machine_history.proofs.Stages.{is_owned, stage}
use Rattle.core_laws.specs.Said.{Reason}
use Rattle.core_laws.specs.Sound.{IsAsked, OwnHasStatus, Sound}
use Rattle.core_laws.specs.Stuck.{IsStuck}
use Rattle.core_laws.proofs.Asking.{few_starts}
use Rattle.core_laws.proofs.Deadlock.{RunsIn, SeeksIn, entry_not, gone_not, idle_seeks, lock_at, lock_still, marked_not, no_pin, none_open, owns_at, past_end, quiet, quit_not, runs_in, script_still, seeking_not, seeks_at, seeks_in, still, tells_at, trying_at}
use Rattle.core_laws.proofs.Giving.{latches_same, lists_same}
use Rattle.core_laws.proofs.Pending.{always_pending, gbl_always, own_always}
use Rattle.core_laws.proofs.Saying.{as_said}
use Rattle.core_laws.proofs.Stalls.{Ready, cannot, idle_words, keeps, map_none, next_locked, no_act, not_first, not_ready, not_then, owning_words, ready_act, same_nat, unquit_idle, unquit_owned, worker_runs}
use Rattle.core_laws.proofs.Suits.{next_suits}

both : (x : Bool) → x ≡ true → x ≡ false → ⊥
both x p q = cc

-- a phase of the lock that is not idle
pub lock_of : (q : Phase) (p : LockPhase) → lock_phase q ≡ p → is_idle p ≡ false → q ≡ Lock p
lock_of (Lock p') p is busy = ap Lock is
lock_of Free p is busy = absurd (both (is_idle p) (sym (ap is_idle is)) busy)
lock_of (Holding words hand) p is busy = absurd (both (is_idle p) (sym (ap is_idle is)) busy)
lock_of (Pulsed ps) p is busy = absurd (both (is_idle p) (sym (ap is_idle is)) busy)

pulsed_through : (n : Event) (events : List Event) (ps : List Pulse) → IsStart events ps → length events ≤ length ps → times n events ≤ times_pulsed n ps
pulsed_through n [] ps start far = omega arith
pulsed_through n (x ∷ events) [] start far = absurd (omega arith)
pulsed_through n (x ∷ events) (p ∷ ps) start far =
    let rest = pulsed_through n events ps start.1 (omega (arith, far)) in
    let here = ap (λ y. one (same_event y n)) start.0 in
    omega arith

sum_has : (g : ℕ → ℕ) (k n : ℕ) → k < n → g k ≤ sum_below g n
sum_has g k zero less = absurd (omega arith)
sum_has g k (suc n) less = at (k == n) refl (λ below. sum_has g k n below)
  where
    at : (b : Bool) → (k == n) ≡ b → (k < n → g k ≤ sum_below g n) → g k ≤ sum_below g (suc n)
    at true is rest = let same = ap g (eqb-true k n is) in omega arith
    at false apart rest = let ne = eqb-false k n apart in let before = rest (grind (arith, ne, less)) in omega arith

module _ (m : MachineData) (ok : IsMachine m) (c : Core) (h : Sound m c) (stuck : IsStuck m c) where
  abbrev past : List Entry
  past = past_in c

  abbrev f : Actor → LockPhase
  f = lock_phases c.phases

  -- ---- nobody owns the lock

  -- an act that is next is made
  act_not : (a : Actor) (p : LockPhase) (held : Bool) (x : Act) → Ready m past a p held → Locked held (plan_left m past a) → next_of m past a ≡ Some x → adds (at_script m past a p (next_of m past a)) ≡ None → ⊥
  act_not a p held x ready all next none =
      let suit = next_suits m ok past a x h.legal next in
      not_ready m past a p x (ready_act m past a p held x suit.0 ready next (next_locked (plan_left m past a) held x all next) suit.1) (script_still m ok c h stuck a p (Some x) next none)

  owning_not : (a : Actor) → c.phases a ≡ Lock phase.Owning → ⊥
  owning_not a at = by_next (next_of m past a) refl
    where
      runs : runs_scripts m a ≡ true
      runs = (seeks_at m ok c h stuck a phase.Owning at refl).1

      words : (is_owned (stage a past) ≡ true) × (has_disowned a past ≡ false) × (is_seeker past a ≡ true)
      words = owning_words m past a h.legal (owns_at m ok c h stuck a at)

      all : Locked true (plan_left m past a)
      all = subst (λ b. Locked b (plan_left m past a)) words.0 (guarded m ok a past h.legal)

      ready : Ready m past a phase.Owning true
      ready = record { runs = runs; unquit = unquit_owned m past a words.1; closed = none_open m ok c h stuck; idle = λ e. absurd (both true refl e); owning = λ e. (refl, owns_at m ok c h stuck a at) }

      by_next : (o : Option Act) → next_of m past a ≡ o → ⊥
      by_next None next = both true refl (ended (plan_left m past a) true next all)
      by_next (Some x) next = act_not a phase.Owning true x ready all next (lock_still m ok c h stuck a phase.Owning runs at)

  no_owner : owner past ≡ None
  no_owner = at (owner past) refl
    where
      owning_is : (p : LockPhase) → is_owning p ≡ true → p ≡ phase.Owning
      owning_is phase.Owning is = refl
      owning_is _ is = cc

      at : (o : Option Actor) → owner past ≡ o → o ≡ None
      at None is = refl
      at (Some a) is = absurd (owning_not a (lock_of (c.phases a) phase.Owning (owning_is (f a) (h.core.lock.owners a is)) refl))

  -- ---- nobody is on the way to it

  won_not : (a : Actor) → c.phases a ≡ Lock phase.Won → ⊥
  won_not a at =
      let runs = (seeks_at m ok c h stuck a phase.Won at refl).1 in
      let tries = trying_at m ok c h stuck a phase.Won (not (is_busy a past)) at refl (tells_at m ok c h stuck a phase.Won at refl) in
      entry_not m ok c h stuck a deed.Own (lock_still m ok c h stuck a phase.Won runs at) (runs, (keeps (has_quit m past a) false tries.2 refl, (tries.0, (tries.3, (ap is_none no_owner, tt)))))

  holder_not : (a : Actor) → holds (f a) ≡ true → ⊥
  holder_not a its = at (f a) refl its
    where
      at : (p : LockPhase) → f a ≡ p → holds p ≡ true → ⊥
      at phase.Won is its = won_not a (lock_of (c.phases a) phase.Won is refl)
      at phase.Owning is its = owning_not a (lock_of (c.phases a) phase.Owning is refl)
      at phase.Quit is its = quit_not m ok c h stuck a (lock_of (c.phases a) phase.Quit is refl)
      at _ is its = cc

  not_three : c.word ≡ 3 → ⊥
  not_three three = let a = someone_holds c.word past f h.core.lock (ap (λ w. w == 0) three) in holder_not a.0 a.1

  gbl_not : gbl_status past ≡ true → ⊥
  gbl_not set = both (pending m past gbl) (always_pending m past gbl (gbl_always m) (sym (gbl_is_status m c.history ok) ∙ set)) (quiet m ok c h stuck gbl)

  waiting_not : (a : Actor) → c.phases a ≡ Lock phase.Waiting → ⊥
  waiting_not a at =
      let s = h.core.lock.sides a (ap (λ q. is_idle (lock_phase q)) at) in
      by_reason s.0 s.1 ((as_said m.devices c h.core).reason s.0 a s.1 (ap (λ q. waits (lock_phase q)) at))
    where
      woken : (s : Side) → competes s a ≡ true → wake s past ≡ true → ⊥
      woken s is set =
          let runs = (seeks_at m ok c h stuck a phase.Waiting at refl).1 in
          let tries = trying_at m ok c h stuck a phase.Waiting (is_busy a past) at refl (tells_at m ok c h stuck a phase.Waiting at refl) in
          entry_not m ok c h stuck a deed.Woken (lock_still m ok c h stuck a phase.Waiting runs at) (runs, (keeps (has_quit m past a) false tries.2 refl, (tries.0, (tries.3, (on s a is ∙ set, tt)))))
        where
          on : (s : Side) (a : Actor) → competes s a ≡ true → woken_on past (side_of a) ≡ wake s past
          on side.Os (actor.Worker k) is = refl
          on side.Firmware (actor.Firmware k) is = refl
          on side.Os _ is = cc
          on side.Firmware _ is = cc

      signalled : (s : Side) → competes s a ≡ true → is_signalled s past ≡ true → ⊥
      signalled side.Os is set = either (wake side.Os past) (gbl_status past) refl refl set
        where
          either : (x y : Bool) → wake side.Os past ≡ x → gbl_status past ≡ y → (x || y) ≡ true → ⊥
          either true y w g set = woken side.Os is w
          either false true w g set = gbl_not g
          either false false w g set = both false set refl
      signalled side.Firmware is set = woken side.Firmware is set

      by_reason : (s : Side) → competes s a ≡ true → Reason c s → ⊥
      by_reason s is (inl three) = not_three three
      by_reason s is (inr (inl gone)) = gone_not m ok c h stuck gone.0 true gone.2
      by_reason s is (inr (inr signal)) = signalled s is signal

  -- ---- so everybody is idle

  idle : (a : Actor) → runs_scripts m a ≡ true → c.phases a ≡ Lock phase.Idle
  idle a runs = let p = lock_at m ok c h stuck a runs in p.1 ∙ ap Lock (at p.0 p.1)
    where
      at : (p : LockPhase) → c.phases a ≡ Lock p → p ≡ phase.Idle
      at phase.Idle is = refl
      at (phase.Seeking l) is = absurd (seeking_not m ok c h stuck a l is)
      at phase.Marked is = absurd (marked_not m ok c h stuck a is)
      at phase.Waiting is = absurd (waiting_not a is)
      at phase.Won is = absurd (won_not a is)
      at phase.Owning is = absurd (owning_not a is)
      at phase.Quit is = absurd (quit_not m ok c h stuck a is)
      at (phase.Gone s) is = absurd (gone_not m ok c h stuck a s is)

  no_seeker : (s : Side) → seeker s past ≡ None
  no_seeker s = at (seeker s past) refl
    where
      not_false : (b : Bool) → true ≡ not b → b ≡ true → ⊥
      not_false true e is = cc
      not_false false e is = cc

      at : (o : Option Actor) → seeker s past ≡ o → o ≡ None
      at None is = refl
      at (Some a) is =
          let runs = subst (SeeksIn m) is (seeks_in m past s h.legal) in
          let fit = subst (Fits past s a) (ap lock_phase (idle a runs)) (h.core.lock.fits s a (h.core.lock.seekers s a is)) in
          absurd (not_false (is_someone a (seeker s past)) fit.seeker (someone_self a (seeker s past) is))

  -- ---- every script is through

  through : (a : Actor) → runs_scripts m a ≡ true → next_of m past a ≡ None
  through a runs = by_next (next_of m past a) refl
    where
      at : c.phases a ≡ Lock phase.Idle
      at = idle a runs

      seeks : is_seeker past a ≡ false
      seeks = idle_seeks m ok c h stuck a runs at

      all : Locked false (plan_left m past a)
      all = subst (λ b. Locked b (plan_left m past a)) (idle_words m past a h.legal seeks) (guarded m ok a past h.legal)

      free : (a : Actor) → runs_scripts m a ≡ true → unsought past (side_of a) ≡ true
      free (actor.Worker k) runs = ap is_none (no_seeker side.Os)
      free (actor.Firmware k) runs = ap is_none (no_seeker side.Firmware)
      free _ runs = cc

      ready : Ready m past a phase.Idle false
      ready = record { runs = runs; unquit = unquit_idle m past a seeks; closed = none_open m ok c h stuck; idle = λ e. (refl, free a runs); owning = λ e. absurd (both false e refl) }

      by_next : (o : Option Act) → next_of m past a ≡ o → o ≡ None
      by_next None next = refl
      by_next (Some x) next = absurd (act_not a phase.Idle false x ready all next (lock_still m ok c h stuck a phase.Idle runs at))

  -- ---- every job

  between_none : (a : Actor) → runs_scripts m a ≡ true → between m past a ≡ None
  between_none a runs = script_still m ok c h stuck a phase.Idle None (through a runs) (lock_still m ok c h stuck a phase.Idle runs (idle a runs))

  unquit : (a : Actor) → runs_scripts m a ≡ true → has_quit m past a ≡ false
  unquit a runs = unquit_idle m past a (idle_seeks m ok c h stuck a runs (idle a runs))

  none_runs : (a : Actor) → running past a ≡ None
  none_runs a = at (running past a) refl
    where
      at : (o : Option ℕ) → running past a ≡ o → o ≡ None
      at None is = refl
      at (Some j) is =
          let works : is_worker m a ≡ true = subst (RunsIn m a) is (runs_in m past a h.legal) in
          let runs = worker_runs m a works in
          absurd (cannot m past a (option_map deed.Finish (running past a)) (deed.Finish j) (not_first (where_may m past a (option_map deed.Finish (running past a))) (where_may m past a (option_map deed.Start (waiting m past))) (between_none a runs)) (ap (option_map deed.Finish) is)
          (works, (keeps (has_quit m past a) false (unquit a runs) refl, (ap (same_number (Some j)) is ∙ same_nat j, (ap is_none (through a runs), tt)))))

  all_started : starts past ≡ length (jobs m past)
  all_started = at (nat_lt (starts past) (length (jobs m past))) refl
    where
      works : is_worker m (actor.Worker 0) ≡ true
      works = lt-ltb 0 m.workers ok.some_workers

      runs : runs_scripts m (actor.Worker 0) ≡ true
      runs = worker_runs m (actor.Worker 0) works

      at : (b : Bool) → nat_lt (starts past) (length (jobs m past)) ≡ b → starts past ≡ length (jobs m past)
      at true less =
          absurd (cannot m past (actor.Worker 0) (option_map deed.Start (waiting m past)) (deed.Start (starts past)) (not_then (where_may m past (actor.Worker 0) (option_map deed.Finish (running past (actor.Worker 0)))) (where_may m past (actor.Worker 0) (option_map deed.Start (waiting m past))) (between_none (actor.Worker 0) runs)) (ap (λ b. option_map deed.Start (cond b (Some (starts past)) None)) less)
          (works, (keeps (has_quit m past (actor.Worker 0)) false (unquit (actor.Worker 0) runs) refl, (and_from (is_none (running past (actor.Worker 0)) && (starts past == starts past)) (nat_lt (starts past) (length (jobs m past))) (and_from (is_none (running past (actor.Worker 0))) (starts past == starts past) (ap is_none (none_runs (actor.Worker 0))) (same_nat (starts past))) less, tt))))
      at false more = let least = ltb-false (starts past) (length (jobs m past)) more in let most = few_starts m past h.legal in omega arith

  -- ---- no code waits

  no_code : codes past ≡ []
  no_code = at (codes past) refl
    where
      none_of : OwnHasStatus m past ⊎ IsAsked m past → ⊥
      none_of (inl on) = both (pending m past on.0) (always_pending m past on.0 (own_always m on.0 on.1) on.2) (quiet m ok c h stuck on.0)
      none_of (inr (j, query, inl waits_for)) = let less = slice_get_within (jobs m past) j _ query in let all = all_started in absurd (omega arith)
      none_of (inr (j, query, inr runs)) = let none = sym (none_runs runs.0) ∙ runs.1 in cc

      at : (queue : List ℕ) → codes past ≡ queue → queue ≡ []
      at [] is = refl
      at (q ∷ queue) is = absurd (none_of (h.codes (ap is_empty is)))

  -- ---- every pulse was latched

  latched : (k : ℕ) (list : List Event) (n : Event) → slice_get m.devices k ≡ Some list → 0 < machine.times n list → 0 < history.latches past n
  latched k list n at some = by_phase (c.phases (actor.Device k)) refl (h.core.kinds (actor.Device k))
    where
      less : k < length m.devices
      less = slice_get_within m.devices k list at

      empty : (p : Phase) → is_holding p ≡ false → in_hand p n ≡ false
      empty (Holding words hand) free = cc
      empty (Lock p) free = refl
      empty Free free = refl
      empty (Pulsed ps) free = refl

      pulsed : (ps : List Pulse) → c.phases (actor.Device k) ≡ Pulsed ps → 0 < history.latches past n
      pulsed ps is =
          let through_list = ap (λ o. unwrap_or o []) at in
          let far = past_end (pulses m k) (length ps) (map_none steps.Pulses (slice_get (pulses m k) (length ps)) (still m ok c h stuck (actor.Device k) (Pulsed ps) (lt-ltb k (length m.devices) less) is)) in
          let start = subst (λ q. IsStart (list_of m.devices k) (pulses_in q)) is (h.core.pinned.start k) in
          let all = pulsed_through n (list_of m.devices k) ps start far in
          let listed = ap (times n) through_list in
          let names = lists_same n list in
          let mine = ap (λ q. times_pulsed n (pulses_in q)) is in
          let among = sum_has (λ j. times_pulsed n (pulses_in (c.phases (actor.Device j)))) k (length m.devices) less in
          let clear = h.core.pinned.some_clear n (omega arith) in
          let counts = h.core.pinned.counts n in
          let pin = ap one (no_pin m ok c h stuck n) in
          let int = ap one (empty (c.phases actor.Int) (stuck.nobody actor.Int)) in
          let poll = ap one (empty (c.phases actor.Poll) (stuck.nobody actor.Poll)) in
          let same = latches_same n past in
          omega arith

      by_phase : (p : Phase) → c.phases (actor.Device k) ≡ p → is_kind (actor.Device k) p ≡ true → 0 < history.latches past n
      by_phase (Pulsed ps) is kind = pulsed ps is
      by_phase (Lock p) is kind = cc
      by_phase Free is kind = cc
      by_phase (Holding words hand) is kind = cc

  -- ---- signals stand for busies

  signals : (s : Side) → leaves s past ≤ busies (other s) past
  signals s = at s (ap (λ o. one (is_marked (phase_at f o))) (no_seeker (other s)))
    where
      at : (s : Side) → one (is_marked (phase_at f (seeker (other s) past))) ≡ 0 → leaves s past ≤ busies (other s) past
      at side.Os none = let sum = h.core.lock.agree.signals_x in omega arith
      at side.Firmware none = let sum = h.core.lock.agree.signals_y in omega arith

  pub complete : Complete m c.history
  complete = record {
    legal = h.legal;
    rest = record {
      quiet = quiet m ok c h stuck;
      no_code = no_code;
      all_started = all_started;
      none_runs = none_runs;
      none_open = none_open m ok c h stuck;
      no_owner = no_owner;
      no_seeker = no_seeker;
    };
    ended = λ k less. no_act (plan_left m past (actor.Firmware k)) (through (actor.Firmware k) (lt-ltb k (length m.firmware) less));
    latched = latched;
    signals = signals;
  }
