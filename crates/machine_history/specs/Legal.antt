-- Which entries are allowed, and which histories are legal.
--
-- The table has a row for each kind of entry: its conditions in order, each under the name that a refusal gives it.
use Rattle.std.specs.Prelude.{ℕ, ◌≡◌, Bool, true, false, ◌==◌, ◌&&◌, ◌||◌, not, nat_lt, List, [], ◌∷◌, length, reverse, Option, Some, None, is_some, is_none, if◌then◌else◌, slice_get}
use Rattle.acpi_regs.specs.declared.actor.Actor.{Actor}
use Rattle.acpi_regs.specs.declared.actor.Actor.TheVariants as actor
use Rattle.acpi_regs.specs.declared.actor.Side.{Side}
use Rattle.acpi_regs.specs.declared.actor.Side.TheVariants as side
use Rattle.acpi_regs.specs.declared.entry.Deed.{Deed}
use Rattle.acpi_regs.specs.declared.entry.Deed.TheVariants as deed
use Rattle.acpi_regs.specs.declared.entry.Effect.{Effect}
use Rattle.acpi_regs.specs.declared.entry.Effect.TheVariants as effect
use Rattle.acpi_regs.specs.declared.entry.Entry.{Entry}
use Rattle.acpi_regs.specs.declared.entry.HostMove.{HostMove}
use Rattle.acpi_regs.specs.declared.entry.HostMove.TheVariants as host
use Rattle.acpi_regs.specs.declared.entry.Request.{Request}
use Rattle.acpi_regs.specs.declared.entry.Request.TheVariants as request
use Rattle.acpi_regs.specs.Actor.{same_actor, side_of, stands_on}
use Rattle.acpi_regs.specs.Event.{same_event}
use Rattle.acpi_regs.specs.History.{past_of}
use Rattle.acpi_regs.specs.Lock.{has_disowned, has_owned, is_busy, is_someone, owner, seeker, wake}
use Rattle.ec_driver.specs.declared.wire.Move.{Move}
use Rattle.ec_driver.specs.declared.wire.Move.TheVariants as move
use Rattle.handler_script.specs.declared.act.Act.{Act}
use Rattle.handler_script.specs.declared.act.Act.TheVariants as act
use Rattle.machine_desc.specs.Machine.{MachineData}
use Rattle.machine_history.specs.declared.rule.LogRule.{LogRule}
use Rattle.machine_history.specs.declared.rule.LogRule.TheVariants as rule
use Rattle.machine_history.specs.Events.{latches, pending}
use Rattle.machine_history.specs.Jobs.{jobs, running, starts}
use Rattle.machine_history.specs.Machine.{is_fickle, pulses_of}
use Rattle.machine_history.specs.Scripts.{next_of}
use Rattle.machine_history.specs.Values.{next_move, same_cell, taking, value}
use Rattle.machine_history.specs.Wire.{Open, burst, due, open_of}

-- ---- Actor: who may make an entry

abbrev pub is_int : Actor → Bool
is_int actor.Int = true
is_int _ = false

-- int or poll: the OS's side of the hardware
abbrev pub is_host : Actor → Bool
is_host actor.Int = true
is_host actor.Poll = true
is_host _ = false

abbrev pub is_worker : MachineData → Actor → Bool
is_worker m (actor.Worker k) = nat_lt k m.workers
is_worker m _ = false

abbrev pub is_firmware : MachineData → Actor → Bool
is_firmware m (actor.Firmware k) = nat_lt k (length m.firmware)
is_firmware m _ = false

-- a worker or a firmware of the machine
abbrev pub runs_scripts : MachineData → Actor → Bool
runs_scripts m a = is_worker m a || is_firmware m a

abbrev pub is_ec : MachineData → Actor → Bool
is_ec m actor.Ec = is_some m.controller
is_ec m _ = false

-- Int and poll step for a worker, and a firmware for itself. Where no begin is open each of them passes, and Begin
-- refuses it.
abbrev pub may_step : MachineData → Option Open → Actor → Bool
may_step m None a = is_host a || is_firmware m a
may_step m (Some o) a = if stands_on side.Os o.by then is_host a else (is_firmware m a && same_actor a o.by)

-- who makes an entry; a take of another's begin passes, and Begin refuses it
abbrev pub may_make : MachineData → Option Open → Actor → Deed → Bool
may_make m o a (deed.Step h) = may_step m o a
may_make m o a (deed.Ctl e) = is_ec m a
may_make m o a (deed.Push q) = is_firmware m a
may_make m o a (deed.Raise n) = is_firmware m a
may_make m o a (deed.Assert n) = is_firmware m a
may_make m o a (deed.Latch n) = is_host a
may_make m o a (deed.Claim n) = is_host a
may_make m o a (deed.Start j) = is_worker m a
may_make m o a (deed.Finish j) = is_worker m a
may_make m o a (deed.Notify d v) = is_worker m a
may_make m o a (deed.Up n) = is_worker m a
may_make m o a (deed.Down n) = is_worker m a
may_make m o a _ = runs_scripts m a

-- ---- Next: what the actor has to do

abbrev pub same_request : Request → Request → Bool
same_request (request.Rd x) (request.Rd y) = x == y
same_request (request.Wr x v) (request.Wr y w) = (x == y) && (v == w)
same_request request.Be request.Be = true
same_request request.Bd request.Bd = true
same_request request.Qr request.Qr = true
same_request _ _ = false

-- the deed is the one that the act asks for
abbrev pub asked : Act → Deed → Bool
asked act.Lock deed.Seek = true
asked act.Unlock deed.Disown = true
asked (act.Read c) (deed.Read d v) = same_cell c d
asked (act.Write c v) (deed.Write d w) = same_cell c d && (v == w)
asked (act.Ask r) (deed.Begin s) = same_request r s
asked (act.Notify d v) (deed.Notify e w) = (d == e) && (v == w)
asked (act.Drop n) (deed.Drop x) = same_event n x
asked (act.Up n) (deed.Up x) = same_event n x
asked (act.Down n) (deed.Down x) = same_event n x
asked (act.Raise n) (deed.Raise x) = same_event n x
asked (act.Assert n) (deed.Assert x) = same_event n x
asked (act.Push q) (deed.Push p) = q == p
asked _ _ = false

abbrev pub asked_by : Option Act → Deed → Bool
asked_by None d = false
asked_by (Some a) d = asked a d

abbrev pub is_next : MachineData → List Entry → Actor → Deed → Bool
is_next m past a d = asked_by (next_of m past a) d

-- ---- Seeker and Wake: the lock

abbrev pub seeks : List Entry → Actor → Option Side → Bool
seeks past a None = false
seeks past a (Some s) = is_someone a (seeker s past)

-- it is its side's seeker
abbrev pub is_seeker : List Entry → Actor → Bool
is_seeker past a = seeks past a (side_of a)

-- the side has no seeker
abbrev pub unsought : List Entry → Option Side → Bool
unsought past None = false
unsought past (Some s) = is_none (seeker s past)

abbrev pub woken_on : List Entry → Option Side → Bool
woken_on past None = false
woken_on past (Some s) = wake s past

-- it is seeker and has not owned since its seek
abbrev pub is_trying : List Entry → Actor → Bool
is_trying past a = is_seeker past a && not (has_owned a past)

-- it is seeker and has disowned since its seek
abbrev pub has_quit : MachineData → List Entry → Actor → Bool
has_quit m past a = runs_scripts m a && is_seeker past a && has_disowned a past

abbrev pub is_leave : Deed → Bool
is_leave (deed.Leave s) = true
is_leave _ = false

-- ---- Job

-- it runs no job, the job is the next to start, and it was made
abbrev pub may_start : MachineData → List Entry → Actor → ℕ → Bool
may_start m past a j = is_none (running past a) && (j == starts past) && nat_lt (starts past) (length (jobs m past))

-- ---- Begin, Wire and Value: the open transaction

abbrev pub same_host : HostMove → HostMove → Bool
same_host (host.Sc v) (host.Sc w) = v == w
same_host (host.Data v) (host.Data w) = v == w
same_host (host.Get v) (host.Get w) = v == w
same_host _ _ = false

abbrev pub same_effect : Effect → Effect → Bool
same_effect effect.Taken effect.Taken = true
same_effect (effect.Out v) (effect.Out w) = v == w
same_effect effect.Put effect.Put = true
same_effect effect.Calm effect.Calm = true
same_effect _ _ = false

abbrev pub is_host_move : HostMove → Option Move → Bool
is_host_move h (Some (move.Host g)) = same_host h g
is_host_move h _ = false

abbrev pub is_ctl_move : Effect → Option Move → Bool
is_ctl_move e (Some (move.Ctl f)) = same_effect e f
is_ctl_move e _ = false

-- the open begin is its own
abbrev pub is_opener : Actor → Option Open → Bool
is_opener a None = false
is_opener a (Some o) = same_actor a o.by

abbrev pub same_number : Option ℕ → Option ℕ → Bool
same_number None None = true
same_number (Some v) (Some w) = v == w
same_number _ _ = false

abbrev pub is_taking : Option ℕ → Option (Option ℕ) → Bool
is_taking v None = false
is_taking v (Some w) = same_number v w

-- ---- the table of entries

abbrev pub ctl_row : MachineData → List Entry → Effect → List (LogRule × Bool)
ctl_row m past effect.Calm = (rule.Wire, is_fickle m.controller && burst past && is_none (open_of past)) ∷ []
ctl_row m past e = (rule.Begin, is_some (open_of past)) ∷ (rule.Wire, is_ctl_move e (next_move m past)) ∷ []

-- the conditions of a row behind Actor, and behind Seeker as `conditions` has it
abbrev pub row : MachineData → List Entry → Actor → Deed → List (LogRule × Bool)
row m past a deed.Seek = (rule.Next, is_next m past a deed.Seek) ∷ (rule.Seeker, unsought past (side_of a)) ∷ []
row m past a deed.Busy = (rule.Seeker, is_trying past a) ∷ (rule.Busy, not (is_busy a past)) ∷ []
row m past a deed.Woken = (rule.Seeker, is_trying past a) ∷ (rule.Busy, is_busy a past)
    ∷ (rule.Wake, woken_on past (side_of a)) ∷ []
row m past a deed.Own = (rule.Seeker, is_trying past a) ∷ (rule.Busy, not (is_busy a past))
    ∷ (rule.Owner, is_none (owner past)) ∷ []
row m past a deed.Disown = (rule.Owner, is_someone a (owner past)) ∷ (rule.Next, is_next m past a deed.Disown) ∷ []
row m past a (deed.Leave s) = []
row m past a (deed.Read c v) = (rule.Next, is_next m past a (deed.Read c v)) ∷ (rule.Value, v == value m past c) ∷ []
row m past a (deed.Begin r) = (rule.Next, is_next m past a (deed.Begin r)) ∷ (rule.Begin, is_none (open_of past)) ∷ []
row m past a (deed.Step h) = (rule.Begin, is_some (open_of past)) ∷ (rule.Wire, is_host_move h (next_move m past))
    ∷ (rule.Due, not (is_int a) || due m past) ∷ []
row m past a (deed.Ctl e) = ctl_row m past e
row m past a (deed.Take v) = (rule.Begin, is_opener a (open_of past)) ∷ (rule.Wire, is_some (taking m past))
    ∷ (rule.Value, is_taking v (taking m past)) ∷ []
row m past a (deed.Latch n) = (rule.Latch, nat_lt (latches past n) (pulses_of m n)) ∷ []
row m past a (deed.Claim n) = (rule.Status, pending m past n) ∷ []
row m past a (deed.Start j) = (rule.Job, may_start m past a j) ∷ []
row m past a (deed.Finish j) = (rule.Job, same_number (Some j) (running past a))
    ∷ (rule.Next, is_none (next_of m past a)) ∷ []
row m past a d = (rule.Next, is_next m past a d) ∷ []

-- Before all others comes Actor. From its disown to its leave an actor may only leave, and no other may.
abbrev pub conditions : MachineData → List Entry → Actor → Deed → List (LogRule × Bool)
conditions m past a d = (rule.Actor, may_make m (open_of past) a d)
    ∷ (rule.Seeker, if has_quit m past a then is_leave d else not (is_leave d)) ∷ row m past a d

-- the name of the first condition that fails
abbrev pub first_failing : List (LogRule × Bool) → Option LogRule
first_failing [] = None
first_failing (condition ∷ conditions) = if condition.1 then first_failing conditions else Some condition.0

abbrev pub refusal : MachineData → List Entry → Entry → Option LogRule
refusal m past e = first_failing (conditions m past e.actor e.deed)

-- the entry is allowed after this past
abbrev pub Allowed : MachineData → List Entry → Entry → Type 0
Allowed m past e = refusal m past e ≡ None

abbrev pub LegalPast : MachineData → List Entry → Type 0
LegalPast m [] = Unit {0}
LegalPast m (e ∷ past) = Allowed m past e × LegalPast m past

-- each entry is allowed after what stands before it
abbrev pub Legal : MachineData → List Entry → Type 0
Legal m history = LegalPast m (reverse history)

-- The same in other words: each entry, with its place, is allowed after the entries before that place.
abbrev pub EachAllowed : MachineData → List Entry → Type 0
EachAllowed m history = (i : ℕ) (e : Entry) → slice_get history i ≡ Some e → Allowed m (past_of history i) e
