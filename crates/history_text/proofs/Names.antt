-- The entries of a legal history have actors with names.
use Rattle.std.proofs.Common.{ℕ, ◌≡◌, ◌<◌, ◌≤◌, ◌&&◌, ◌||◌, nat_lt, Bool, true, false, All, List, length, Option, Some, None, if◌then◌else◌, slice_get, arith}
use Rattle.std.proofs.lemmas.Bool.{and_parts, ltb-true}
use Rattle.std.proofs.lemmas.Option.{slice_get_within}
use Rattle.acpi_regs.specs.declared.actor.Actor.{Actor}
use Rattle.acpi_regs.specs.declared.actor.Actor.TheVariants as actor
use Rattle.acpi_regs.specs.declared.actor.Side.TheVariants as side
use Rattle.acpi_regs.specs.declared.entry.Deed.{Deed}
use Rattle.acpi_regs.specs.declared.entry.Deed.TheVariants as deed
use Rattle.acpi_regs.specs.declared.entry.Entry.{Entry}
use Rattle.acpi_regs.specs.Actor.{same_actor, stands_on}
use Rattle.acpi_regs.specs.History.{past_of}
use Rattle.machine_desc.specs.Kept.{IsMachine}
use Rattle.machine_desc.specs.Machine.{MachineData}
use Rattle.machine_desc.proofs.EachItem.{all_each}
use Rattle.machine_history.specs.Legal.{Legal, may_make, may_step}
use Rattle.machine_history.specs.Wire.{Open, open_of}
use Rattle.machine_history.proofs.Places.{legal-each}
use Rattle.machine_core.proofs.Standing.{maker}
use Rattle.history_text.specs.Named.{IsActor, IsDeed, IsEntry}

-- ---- who makes an entry is an actor of the machine

or_false : (b : Bool) → (b || false) ≡ true → b ≡ true
or_false true e = e
or_false false e = e

none_of_two : {A : Type 0} (b : Bool) → (if b then false else false) ≡ true → A
none_of_two true e = cc
none_of_two false e = cc

of_second : (b c d : Bool) → (if b then false else (c && d)) ≡ true → c ≡ true
of_second true c d e = cc
of_second false c d e = (and_parts c d e).0

worker_steps : {A : Type 0} (m : MachineData) (o : Option Open) (k : ℕ) → may_step m o (actor.Worker k) ≡ true → A
worker_steps m None k e = cc
worker_steps m (Some o) k e = none_of_two (stands_on side.Os o.by) e

worker_in : (m : MachineData) (o : Option Open) (k : ℕ) (d : Deed) → may_make m o (actor.Worker k) d ≡ true → nat_lt k m.workers ≡ true
worker_in m o k (deed.Step h) e = worker_steps m o k e
worker_in m o k (deed.Ctl x) e = cc
worker_in m o k (deed.Push q) e = cc
worker_in m o k (deed.Raise n) e = cc
worker_in m o k (deed.Assert n) e = cc
worker_in m o k (deed.Latch n) e = cc
worker_in m o k (deed.Claim n) e = cc
worker_in m o k (deed.Start j) e = e
worker_in m o k (deed.Finish j) e = e
worker_in m o k (deed.Notify x v) e = e
worker_in m o k (deed.Up n) e = e
worker_in m o k (deed.Down n) e = e
worker_in m o k _ e = or_false (nat_lt k m.workers) e

device_in : {A : Type 0} (m : MachineData) (o : Option Open) (k : ℕ) (d : Deed) → may_make m o (actor.Device k) d ≡ true → A
device_in m None k (deed.Step h) e = cc
device_in m (Some o) k (deed.Step h) e = none_of_two (stands_on side.Os o.by) e
device_in m o k _ e = cc

firmware_in : (m : MachineData) (o : Option Open) (k : ℕ) (d : Deed) → may_make m o (actor.Firmware k) d ≡ true → nat_lt k (length m.firmware) ≡ true
firmware_in m None k (deed.Step h) e = e
firmware_in m (Some o) k (deed.Step h) e = of_second (stands_on side.Os o.by) (nat_lt k (length m.firmware)) (same_actor (actor.Firmware k) o.by) e
firmware_in m o k (deed.Ctl x) e = cc
firmware_in m o k (deed.Push q) e = e
firmware_in m o k (deed.Raise n) e = e
firmware_in m o k (deed.Assert n) e = e
firmware_in m o k (deed.Latch n) e = cc
firmware_in m o k (deed.Claim n) e = cc
firmware_in m o k (deed.Start j) e = cc
firmware_in m o k (deed.Finish j) e = cc
firmware_in m o k (deed.Notify x v) e = cc
firmware_in m o k (deed.Up n) e = cc
firmware_in m o k (deed.Down n) e = cc
firmware_in m o k _ e = e

is_actor : (m : MachineData) → IsMachine m → (o : Option Open) (a : Actor) (d : Deed) → may_make m o a d ≡ true → IsActor a
is_actor m ok o actor.Int d e = tt
is_actor m ok o actor.Poll d e = tt
is_actor m ok o actor.Ec d e = tt
is_actor m ok o (actor.Worker k) d e =
    let below = ltb-true k m.workers (worker_in m o k d e) in
    let few = ok.few_workers in
    omega arith
is_actor m ok o (actor.Device k) d e = device_in m o k d e
is_actor m ok o (actor.Firmware k) d e =
    let below = ltb-true k (length m.firmware) (firmware_in m o k d e) in
    let few = ok.few_firmware in
    omega arith

-- ---- all entries

-- the numbers of the entries before a place are of their types
abbrev pub NumbersBelow : List Entry → ℕ → Type 0
NumbersBelow entries n = (k : ℕ) (e : Entry) → k < n → slice_get entries k ≡ Some e → IsDeed e.deed

pub all_entries : (m : MachineData) (entries : List Entry) (n seen : ℕ) → IsMachine m → Legal m entries → n ≡ length entries → n ≤ seen → NumbersBelow entries seen → All IsEntry entries
all_entries m entries n seen ok legal whole end numbers = all_each IsEntry entries (λ k e at.
    (is_actor m ok (open_of (past_of entries k)) e.actor e.deed (maker m (past_of entries k) e.actor e.deed (legal-each m entries legal k e at)), numbers k e (below k e at) at))
  where
    below : (k : ℕ) (e : Entry) → slice_get entries k ≡ Some e → k < seen
    below k e at = let within = slice_get_within entries k e at in omega arith
