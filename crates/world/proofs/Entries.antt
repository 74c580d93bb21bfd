-- What the entries of steps are: allowed, no latches, and of the lock's the one that the phase allows.
use Rattle.std.proofs.Common.{◌≡◌, Bool, true, false, List, [], ◌∷◌, ◌++◌, Option, Some, None, is_none, if◌then◌else◌, refl, sym, ◌∙◌}
use Rattle.std.specs.Option.{option_map}
use Rattle.acpi_regs.specs.declared.actor.Actor.{Actor}
use Rattle.acpi_regs.specs.declared.entry.Deed.{Deed}
use Rattle.acpi_regs.specs.declared.entry.Deed.TheVariants as deed
use Rattle.acpi_regs.specs.declared.entry.Entry.{Entry}
use Rattle.acpi_regs.specs.declared.phase.LockPhase.{LockPhase}
use Rattle.acpi_regs.specs.declared.phase.LockPhase.TheVariants as phase
use Rattle.acpi_regs.specs.Phases.{allows, is_gone, is_idle, is_lock_deed, is_marked, is_owning, is_waiting, is_won, lock_deed}
use Rattle.handler_script.specs.declared.act.Act.{Act}
use Rattle.handler_script.specs.declared.act.Act.TheVariants as act
use Rattle.machine_desc.specs.Machine.{MachineData}
use Rattle.machine_history.specs.declared.rule.LogRule.{LogRule}
use Rattle.machine_history.specs.Jobs.{running}
use Rattle.machine_history.specs.Legal.{Allowed, refusal}
use Rattle.machine_history.specs.Scripts.{next_of}
use Rattle.machine_history.specs.Steps.{at_act, at_script, between, entry, host_move, otherwise, script_entry, waiting, where_allowed, where_may}
use Rattle.machine_history.specs.Values.{taking, value}
use Rattle.world.specs.Duties.{IsAllowed, IsTurn, added, did, is_latch}

-- ---- of a deed that there may be

abbrev pub Each : (Deed → Type 0) → Option Deed → Type 0
Each P None = Unit {0}
Each P (Some d) = P d

pub each-map : {A : Type 0} (P : Deed → Type 0) (make : A → Deed) → ((x : A) → P (make x)) → (o : Option A) → Each P (option_map make o)
each-map P make h None = tt
each-map P make h (Some x) = h x

pub each-of : (P Q : Deed → Type 0) → ((d : Deed) → P d → Q d) → (o : Option Deed) → Each P o → Each Q o
each-of P Q h None all = tt
each-of P Q h (Some d) all = h d all

pub where_may-each : (P : Deed → Type 0) (m : MachineData) (past : List Entry) (a : Actor) (o : Option Deed) → Each (λ d. Allowed m past (entry a d) → P d) o → Each P (where_may m past a o)
where_may-each P m past a None h = tt
where_may-each P m past a (Some d) h = by_rule (refusal m past (entry a d)) refl
  where
    by_rule : (r : Option LogRule) → refusal m past (entry a d) ≡ r → Each P (if is_none r then Some d else None)
    by_rule None is = h is
    by_rule (Some r) is = tt

pub otherwise-each : (P : Deed → Type 0) (o next : Option Deed) → Each P o → Each P next → Each P (otherwise o next)
otherwise-each P None next h k = k
otherwise-each P (Some d) next h k = h

where_allowed-each : (P : Deed → Type 0) (p : LockPhase) (o : Option Deed) → Each (λ d. allows p d ≡ true → P d) o → Each P (where_allowed p o)
where_allowed-each P p None h = tt
where_allowed-each P p (Some d) h = by_test (allows p d) refl
  where
    by_test : (b : Bool) → allows p d ≡ b → Each P (if b then Some d else None)
    by_test true is = h is
    by_test false is = tt

-- ---- the lock's entry of a phase

no : {X : Type 0} → false ≡ true → X
no e = absurd (let x = e in cc)

seek : (p : LockPhase) → is_idle p ≡ true → lock_deed p ≡ Some deed.Seek
seek phase.Idle e = refl
seek _ e = no e

busy : (p : LockPhase) → is_marked p ≡ true → lock_deed p ≡ Some deed.Busy
busy phase.Marked e = refl
busy _ e = no e

woken : (p : LockPhase) → is_waiting p ≡ true → lock_deed p ≡ Some deed.Woken
woken phase.Waiting e = refl
woken _ e = no e

own : (p : LockPhase) → is_won p ≡ true → lock_deed p ≡ Some deed.Own
own phase.Won e = refl
own _ e = no e

disown : (p : LockPhase) → is_owning p ≡ true → lock_deed p ≡ Some deed.Disown
disown phase.Owning e = refl
disown _ e = no e

leave : (s : Bool) (p : LockPhase) → is_gone s p ≡ true → lock_deed p ≡ Some (deed.Leave s)
leave true (phase.Gone true) e = refl
leave true (phase.Gone false) e = no e
leave false (phase.Gone true) e = no e
leave false (phase.Gone false) e = refl
leave true _ e = no e
leave false _ e = no e

-- an entry of the lock that a phase allows is the one that it names
abbrev pub IsLocked : LockPhase → Deed → Type 0
IsLocked p d = is_lock_deed d ≡ true → lock_deed p ≡ Some d

allowed-locked : (p : LockPhase) (d : Deed) → allows p d ≡ true → IsLocked p d
allowed-locked p deed.Seek ok is = seek p ok
allowed-locked p deed.Busy ok is = busy p ok
allowed-locked p deed.Woken ok is = woken p ok
allowed-locked p deed.Own ok is = own p ok
allowed-locked p deed.Disown ok is = disown p ok
allowed-locked p (deed.Leave s) ok is = leave s p ok
allowed-locked p _ ok is = no is

-- ---- the entry of a worker or a firmware

pub record Suits (m : MachineData) (past : List Entry) (a : Actor) (p : LockPhase) (d : Deed) : Type 0 where
  pub allowed : Allowed m past (entry a d)
  pub no_latch : is_latch d ≡ false
  pub locked : IsLocked p d

abbrev Unlatched : MachineData → List Entry → Actor → Deed → Type 0
Unlatched m past a d = Allowed m past (entry a d) × (is_latch d ≡ false)

unlatched : (m : MachineData) (past : List Entry) (a : Actor) (d : Deed) → is_latch d ≡ false → Each (Unlatched m past a) (where_may m past a (Some d))
unlatched m past a d no_latch = where_may-each (Unlatched m past a) m past a (Some d) (λ ok. (ok, no_latch))

unlatched-map : {A : Type 0} (m : MachineData) (past : List Entry) (a : Actor) (make : A → Deed) → ((x : A) → is_latch (make x) ≡ false) → (o : Option A) → Each (Unlatched m past a) (where_may m past a (option_map make o))
unlatched-map m past a make no_latch o = where_may-each (Unlatched m past a) m past a (option_map make o) (each-map (λ d. Allowed m past (entry a d) → Unlatched m past a d) make (λ x ok. (ok, no_latch x)) o)

at_act-unlatched : (m : MachineData) (past : List Entry) (a : Actor) (x : Act) → Each (Unlatched m past a) (at_act m past a x)
at_act-unlatched m past a act.Lock = unlatched m past a deed.Seek refl
at_act-unlatched m past a act.Unlock = unlatched m past a deed.Disown refl
at_act-unlatched m past a (act.Read c) = unlatched m past a (deed.Read c (value m past c)) refl
at_act-unlatched m past a (act.Write c v) = unlatched m past a (deed.Write c v) refl
at_act-unlatched m past a (act.Ask r) =
    otherwise-each (Unlatched m past a) (where_may m past a (Some (deed.Begin r))) (otherwise (where_may m past a (option_map deed.Take (taking m past))) (where_may m past a (option_map deed.Step (host_move m past))))
    (unlatched m past a (deed.Begin r) refl)
    (otherwise-each (Unlatched m past a) (where_may m past a (option_map deed.Take (taking m past))) (where_may m past a (option_map deed.Step (host_move m past)))
    (unlatched-map m past a deed.Take (λ x. refl) (taking m past))
    (unlatched-map m past a deed.Step (λ x. refl) (host_move m past)))
at_act-unlatched m past a (act.Notify d v) = unlatched m past a (deed.Notify d v) refl
at_act-unlatched m past a (act.Drop n) = unlatched m past a (deed.Drop n) refl
at_act-unlatched m past a (act.Up n) = unlatched m past a (deed.Up n) refl
at_act-unlatched m past a (act.Down n) = unlatched m past a (deed.Down n) refl
at_act-unlatched m past a (act.Raise n) = unlatched m past a (deed.Raise n) refl
at_act-unlatched m past a (act.Assert n) = unlatched m past a (deed.Assert n) refl
at_act-unlatched m past a (act.Push q) = unlatched m past a (deed.Push q) refl

suits-map : {A : Type 0} (m : MachineData) (past : List Entry) (a : Actor) (p : LockPhase) (make : A → Deed) → ((x : A) → is_latch (make x) ≡ false) → ((x : A) → is_lock_deed (make x) ≡ false) → (o : Option A) → Each (Suits m past a p) (where_may m past a (option_map make o))
suits-map m past a p make no_latch no_lock o =
    where_may-each (Suits m past a p) m past a (option_map make o)
    (each-map (λ d. Allowed m past (entry a d) → Suits m past a p d) make (λ x ok. record { allowed = ok; no_latch = no_latch x; locked = λ is. no (sym (no_lock x) ∙ is) }) o)

between-suits : (m : MachineData) (past : List Entry) (a : Actor) (p : LockPhase) → Each (Suits m past a p) (between m past a)
between-suits m past a p =
    otherwise-each (Suits m past a p) (where_may m past a (option_map deed.Finish (running past a))) (where_may m past a (option_map deed.Start (waiting m past)))
    (suits-map m past a p deed.Finish (λ x. refl) (λ x. refl) (running past a))
    (suits-map m past a p deed.Start (λ x. refl) (λ x. refl) (waiting m past))

at_script-suits : (m : MachineData) (past : List Entry) (a : Actor) (p : LockPhase) (x : Option Act) → Each (Suits m past a p) (at_script m past a p x)
at_script-suits m past a p None = by_idle (is_idle p)
  where
    by_idle : (b : Bool) → Each (Suits m past a p) (if b then between m past a else None)
    by_idle true = between-suits m past a p
    by_idle false = tt
at_script-suits m past a p (Some x) =
    where_allowed-each (Suits m past a p) p (at_act m past a x)
    (each-of (Unlatched m past a) (λ d. allows p d ≡ true → Suits m past a p d) (λ d is ok. record { allowed = is.0; no_latch = is.1; locked = allowed-locked p d ok }) (at_act m past a x) (at_act-unlatched m past a x))

-- the entry that a phase names
named : (m : MachineData) (past : List Entry) (a : Actor) (p : LockPhase) (d : Deed) → is_latch d ≡ false → lock_deed p ≡ Some d → Each (Suits m past a p) (where_may m past a (Some d))
named m past a p d no_latch is = where_may-each (Suits m past a p) m past a (Some d) (λ ok. record { allowed = ok; no_latch = no_latch; locked = λ lock. is })

pub script_entry-suits : (m : MachineData) (past : List Entry) (a : Actor) (p : LockPhase) → Each (Suits m past a p) (script_entry m past a p)
script_entry-suits m past a phase.Idle = at_script-suits m past a phase.Idle (next_of m past a)
script_entry-suits m past a (phase.Seeking l) = tt
script_entry-suits m past a phase.Marked = named m past a phase.Marked deed.Busy refl refl
script_entry-suits m past a phase.Waiting = named m past a phase.Waiting deed.Woken refl refl
script_entry-suits m past a phase.Won = named m past a phase.Won deed.Own refl refl
script_entry-suits m past a phase.Owning = at_script-suits m past a phase.Owning (next_of m past a)
script_entry-suits m past a phase.Quit = tt
script_entry-suits m past a (phase.Gone s) = named m past a (phase.Gone s) (deed.Leave s) refl refl

-- ---- turns of one entry

pub suits-allowed : (m : MachineData) (past : List Entry) (a : Actor) (p : LockPhase) (o : Option Deed) → Each (Suits m past a p) o → IsAllowed m past a o
suits-allowed m past a p None h = tt
suits-allowed m past a p (Some d) h = h.allowed

-- a turn that collected nothing and adds at most this entry
pub made-turn : (a : Actor) (lock : Option Deed) (before : List Entry) (made : Option Deed) → Each (λ d. (is_latch d ≡ false) × (is_lock_deed d ≡ true → lock ≡ Some d)) made → IsTurn a lock before (before ++ added a made) [] (did (added a made))
made-turn a lock before None h = record { deeds = []; adds = refl; latches_first = tt; locks = tt; answers = refl }
made-turn a lock before (Some d) h = record { deeds = d ∷ []; adds = refl; latches_first = (h.0, tt); locks = (h.1, tt); answers = refl }

pub suits-turn : (m : MachineData) (past : List Entry) (a : Actor) (p : LockPhase) (before : List Entry) (made : Option Deed) → Each (Suits m past a p) made → IsTurn a (lock_deed p) before (before ++ added a made) [] (did (added a made))
suits-turn m past a p before made h = made-turn a (lock_deed p) before made (each-of (Suits m past a p) (λ d. (is_latch d ≡ false) × (is_lock_deed d ≡ true → lock_deed p ≡ Some d)) (λ d is. (is.no_latch, is.locked)) made h)
